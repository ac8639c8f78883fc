-- Expressions with operators, as phrases.
use Rattle.std.proofs.Common.{◌≡◌, ℕ, suc, max, ◌≤◌, true, false, List, ◌∷◌, ◌++◌, codes, Some, refl, sym, ◌∙◌, append_assoc, arith}
use Rattle.mol_base.specs.Operators.{binary_level, is_assignment}
use Rattle.mol_base.specs.Token.{Token}
use Rattle.mol_base.specs.declared.token_kind.TokenKind.TheVariants as kind
use Rattle.jav_tree.specs.declared.expr.Expr.{Expr}
use Rattle.jav_tree.specs.declared.expr.ExprNode.{ExprNode}
use Rattle.jav_tree.specs.declared.expr.ExprNode.TheVariants as node
use Rattle.jav_tree.specs.declared.types.TypeName.{TypeName}
use Rattle.jav_tree.specs.Expressions.{Expression, Primary, target, MayBeCast, expr_at}
use Rattle.jav_tree.specs.Expressions as is
use Rattle.jav_tree.specs.ExpressionText.{tree_text, spaced}
use Rattle.jav_tree.specs.PrintableExpressions.{ExprUses, value_where, effect_where}
use Rattle.jav_tree.specs.Statements.{is_statement_expression}
use Rattle.jav_tree.specs.Tokens.{IsSymbol, IsKeyword}
use Rattle.jav_tree.specs.Types.{WholeType}
use Rattle.jav_tree.specs.TypeText.{type_text}
use Rattle.jav_tree.specs.WithParens.{Operand, of_level, from, anywhere}
use Rattle.jav_tree.proofs.ExpressionTexts.{text-placed, text-Binary, text-Assign, text-Cond, text-InstanceOf}
use Rattle.jav_tree.proofs.Parts.{same-Binary, same-Assign, same-Cond, same-InstanceOf}
use Rattle.jav_tree.proofs.StatementExpressions.{statement-Assign}
use Rattle.jav_print_laws.proofs.layout_lemmas.Bytes.{Closes, ends-closes, closes-breaks, space_breaks}
use Rattle.jav_print_laws.proofs.layout_lemmas.Derivations.{Derived, same_at}
use Rattle.jav_print_laws.proofs.layout_lemmas.Keywords.{instance_word}
use Rattle.jav_print_laws.proofs.layout_lemmas.OperandPhrases.{Begins, begins-append, Meant, Good, from_level, loose, aimed}
use Rattle.jav_print_laws.proofs.layout_lemmas.OperatorTexts.{IsSpaced, binary-spaced, assignment-spaced}
use Rattle.jav_print_laws.proofs.layout_lemmas.Phrases.{Phrase, Breaks, Alone, alone, Then, both, OneOf, one_of, token, reads, makes, then, space}
use Rattle.jav_print_laws.proofs.layout_lemmas.Signs.{question, colon}

-- an operand whose loosest operator is of a low level
loose_good : {limit : ℕ} (u : ExprUses) (level at : ℕ) (n : ExprNode) (text : List ℕ) → 1 ≤ level → suc level ≤ 13 → (p : Phrase (Derived (Expression limit level) (expr_at at n)) Closes text) → text ≡ tree_text (expr_at at n)
    → Begins p.head text → (u.is_target ≡ true → ⊥) → (u.is_statement ≡ true → is_statement_expression n ≡ true) → Good limit u (of_level level (expr_at at n))
loose_good {limit} u level at n text low high p same begins aimless effect = record {
  positive = low;
  phrase = reads p same (λ b ok. ends-closes level false b (omega arith) ok) meant;
  begins = record { byte = begins.byte; rest = begins.rest; is = sym same ∙ begins.is; opens_is = begins.opens_is; heads = begins.heads };
  plain = λ h. refl;
  tight = λ h. absurd (aimless h);
  effect = effect;
}
  where
    meant : (ts : List Token) → Derived (Expression limit level) (expr_at at n) ts → Meant limit u (of_level level (expr_at at n)) ts
    meant ts d = record { whole = d; unsigned = λ h plain sign. absurd (omega arith); aim = λ t. absurd (aimless t) }

-- # Between two operands

regroup_operator : (x op y : List ℕ) → x ++ (32 ∷ (op ++ (32 ∷ y))) ≡ spaced x op y
regroup_operator x op y =
    let e : x ++ (codes " " ++ (op ++ (codes " " ++ y))) ≡ x ++ codes " " ++ op ++ codes " " ++ y = simp append_assoc refl in e

abbrev between : {Is Are : List Token → Type 0} {May : ℕ → Type 0} {t s : List ℕ} (op : List ℕ) → IsSpaced op → May 32 → Phrase Is May t → Phrase Are Closes s → Phrase (Then Is (Then (OneOf kind.Symbol op) Are)) Closes (t ++ (32 ∷ (op ++ (32 ∷ s))))
between op known before p q = then p (space (then (token kind.Symbol op known.token) (space q) (λ n ok. known.spaced))) (λ n ok. before)

binary_tree : (limit own at : ℕ) (a b : Expr) (op : List ℕ) → binary_level op ≡ Some own → (ts : List Token) → Then (Derived (Expression limit own) a) (Then (OneOf kind.Symbol op) (Derived (Expression limit (suc own)) b)) ts
    → Derived (Expression limit own) (expr_at at (node.Binary a op b)) ts
binary_tree limit own at a b _ known _ (both _ _ d (both _ _ (one_of t sign) f)) = record {
  height = suc (max d.height f.height);
  tree = expr_at d.tree.at (node.Binary d.tree t.text f.tree);
  derived = is.binary (omega arith) (record { symbol = sign; level_is = known }) d.derived f.derived;
  same = same_at d.tree.at at (node.Binary d.tree t.text f.tree) (node.Binary a t.text b) ((same-Binary d.tree a t.text t.text f.tree b).1 (d.same, refl, f.same));
}

pub good_binary : (limit own at : ℕ) (u v : ExprUses) (a b : Operand) (op : List ℕ) → binary_level op ≡ Some own → Good limit u a → Good limit v b
    → Good limit (value_where true) (of_level own (expr_at at (node.Binary (from own a) op (from (suc own) b))))
good_binary limit own at u v a b op known g h =
    let spaced_op = binary-spaced op own known in
    let x = from own a in let y = from (suc own) b in
    let p = from_level g own in let q = from_level h (suc own) in
    let same : tree_text x ++ (32 ∷ (op ++ (32 ∷ tree_text y))) ≡ tree_text (expr_at at (node.Binary x op y)) = regroup_operator (tree_text x) op (tree_text y) ∙ sym (text-placed at (node.Binary x op y) ∙ text-Binary x op y) in
    let least = spaced_op.least in let greatest = spaced_op.greatest in
    loose_good (value_where true) own at (node.Binary x op y) _ (omega arith) (omega arith) (makes (between op spaced_op.signs refl p.phrase q.phrase) refl (binary_tree limit own at x y op known)) same
    (begins-append p.phrase.head (λ n. 32) (tree_text x) _ _ refl p.begins) (λ h. absurd cc) (λ h. absurd cc)

assign_tree : (limit at : ℕ) (a b : Expr) (op : List ℕ) → is_assignment op ≡ true → (ts : List Token) → Then (Derived (Primary limit target) a) (Then (OneOf kind.Symbol op) (Derived (Expression limit 1) b)) ts
    → Derived (Expression limit 1) (expr_at at (node.Assign a op b)) ts
assign_tree limit at a b _ known _ (both _ _ d (both _ _ (one_of t sign) f)) = record {
  height = suc (max d.height f.height);
  tree = expr_at d.tree.at (node.Assign d.tree t.text f.tree);
  derived = is.assign (omega arith) d.derived (record { symbol = sign; written = known }) f.derived;
  same = same_at d.tree.at at (node.Assign d.tree t.text f.tree) (node.Assign a t.text b) ((same-Assign d.tree a t.text t.text f.tree b).1 (d.same, refl, f.same));
}

pub good_assign : (limit at : ℕ) (u v : ExprUses) (a b : Operand) (op : List ℕ) → is_assignment op ≡ true → u.is_target ≡ true → Good limit u a → Good limit v b
    → Good limit (effect_where true) (of_level 1 (expr_at at (node.Assign (from 15 a) op (anywhere b))))
good_assign limit at u v a b op known aim g h =
    let x = from 15 a in let y = anywhere b in
    let p = aimed g aim in let q = loose h in
    let same : tree_text x ++ (32 ∷ (op ++ (32 ∷ tree_text y))) ≡ tree_text (expr_at at (node.Assign x op y)) = regroup_operator (tree_text x) op (tree_text y) ∙ sym (text-placed at (node.Assign x op y) ∙ text-Assign x op y) in
    loose_good (effect_where true) 1 at (node.Assign x op y) _ (omega arith) (omega arith) (makes (between op (assignment-spaced op known) refl p.phrase q.phrase) refl (assign_tree limit at x y op known)) same
    (begins-append p.phrase.head (λ n. 32) (tree_text x) _ _ refl p.begins) (λ h. absurd cc) (λ h. statement-Assign x op y)

-- # Conditions and `instanceof`

cond_tree : (limit at : ℕ) (test a b : Expr) (ts : List Token)
    → Then (Derived (Expression limit 3) test) (Then (Alone (IsSymbol "?")) (Then (Derived (Expression limit 1) a) (Then (Alone (IsSymbol ":")) (Derived (Expression limit 2) b)))) ts
    → Derived (Expression limit 2) (expr_at at (node.Cond test a b)) ts
cond_tree limit at test a b _ (both _ _ d (both _ _ (alone q asks) (both _ _ e (both _ _ (alone c else_is) f)))) = record {
  height = suc (max d.height (max e.height f.height));
  tree = expr_at d.tree.at (node.Cond d.tree e.tree f.tree);
  derived = is.cond (omega arith) d.derived asks e.derived else_is f.derived;
  same = same_at d.tree.at at (node.Cond d.tree e.tree f.tree) (node.Cond test a b) ((same-Cond d.tree test e.tree a f.tree b).1 (d.same, e.same, f.same));
}

regroup_condition : (x y z : List ℕ) → x ++ (32 ∷ (codes "?" ++ (32 ∷ (y ++ (32 ∷ (codes ":" ++ (32 ∷ z))))))) ≡ spaced x (codes "?") (spaced y (codes ":") z)
regroup_condition x y z =
    let e : x ++ (codes " " ++ (codes "?" ++ (codes " " ++ (y ++ (codes " " ++ (codes ":" ++ (codes " " ++ z))))))) ≡ x ++ codes " " ++ codes "?" ++ codes " " ++ (y ++ codes " " ++ codes ":" ++ codes " " ++ z) = simp append_assoc refl in e

pub good_cond : (limit at : ℕ) (u v w : ExprUses) (test a b : Operand) → Good limit u test → Good limit v a → Good limit w b
    → Good limit (value_where true) (of_level 2 (expr_at at (node.Cond (from 3 test) (anywhere a) (from 2 b))))
good_cond limit at u v w test a b g h k =
    let x = from 3 test in let y = anywhere a in let z = from 2 b in
    let p = from_level g 3 in let q = loose h in let r = from_level k 2 in
    let same : tree_text x ++ (32 ∷ (codes "?" ++ (32 ∷ (tree_text y ++ (32 ∷ (codes ":" ++ (32 ∷ tree_text z))))))) ≡ tree_text (expr_at at (node.Cond x y z)) =
    regroup_condition (tree_text x) (tree_text y) (tree_text z) ∙ sym (text-placed at (node.Cond x y z) ∙ text-Cond x y z) in
    loose_good (value_where true) 2 at (node.Cond x y z) _ (omega arith) (omega arith)
    (makes (then p.phrase (space (then question (space (then q.phrase (space (then colon (space r.phrase) (λ n ok. refl))) (λ n ok. refl))) (λ n ok. refl))) (λ n ok. refl)) refl (cond_tree limit at x y z)) same
    (begins-append p.phrase.head (λ n. 32) (tree_text x) _ _ refl p.begins) (λ h. absurd cc) (λ h. absurd cc)

instance_tree : (limit at : ℕ) (e : Expr) (to : TypeName) (ts : List Token) → Then (Derived (Expression limit 9) e) (Then (Alone (IsKeyword "instanceof")) (WholeType limit to)) ts
    → Derived (Expression limit 9) (expr_at at (node.InstanceOf e to)) ts
instance_tree limit at e to _ (both _ _ d (both _ _ (alone w word) t)) = record {
  height = suc d.height;
  tree = expr_at d.tree.at (node.InstanceOf d.tree to);
  derived = is.instance_of (omega arith) d.derived word t;
  same = same_at d.tree.at at (node.InstanceOf d.tree to) (node.InstanceOf e to) ((same-InstanceOf d.tree e to to).1 (d.same, refl));
}

pub good_instance : (limit at : ℕ) (u : ExprUses) (o : Operand) (to : TypeName) → Phrase (WholeType limit to) Breaks (type_text to) → Good limit u o
    → Good limit (value_where true) (of_level 9 (expr_at at (node.InstanceOf (from 9 o) to)))
good_instance limit at u o to type g =
    let x = from 9 o in let p = from_level g 9 in
    let same : tree_text x ++ (32 ∷ (codes "instanceof" ++ (32 ∷ type_text to))) ≡ tree_text (expr_at at (node.InstanceOf x to)) = regroup_operator (tree_text x) (codes "instanceof") (type_text to) ∙ sym (text-placed at (node.InstanceOf x to) ∙ text-InstanceOf x to) in
    loose_good (value_where true) 9 at (node.InstanceOf x to) _ (omega arith) (omega arith)
    (reads (then p.phrase (space (then instance_word (space type) (λ n ok. space_breaks))) (λ n ok. refl)) refl (λ b ok. closes-breaks b ok) (instance_tree limit at x to)) same
    (begins-append p.phrase.head (λ n. 32) (tree_text x) _ _ refl p.begins) (λ h. absurd cc) (λ h. absurd cc)
