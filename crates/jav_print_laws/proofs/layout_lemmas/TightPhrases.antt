-- Expressions that bind as tightly as a name, as phrases.
use Rattle.std.proofs.Common.{◌≡◌, ℕ, suc, max, Bool, true, false, ◌||◌, List, [], ◌∷◌, ◌++◌, codes, Some, refl, sym, ◌∙◌, subst, append_assoc, append-nil, arith}
use Rattle.std.specs.Prelude.{nat_lt}
use Rattle.std.proofs.lemmas.Bool.{ltb-false}
use Rattle.mol_base.specs.Token.{Token}
use Rattle.mol_base.specs.Lexical.Characters.{first}
use Rattle.mol_base.specs.Lexical.Front.{token_kind}
use Rattle.mol_base.specs.declared.token_kind.TokenKind.{TokenKind}
use Rattle.mol_base.specs.declared.token_kind.TokenKind.TheVariants as kind
use Rattle.jav_print_laws.specs.pieces.Pieces.{may_follow}
use Rattle.jav_print_laws.proofs.pieces_lemmas.Tiled.{token_is}
use Rattle.jav_tree.specs.declared.expr.Expr.{Expr}
use Rattle.jav_tree.specs.declared.expr.ExprNode.{ExprNode}
use Rattle.jav_tree.specs.declared.expr.ExprNode.TheVariants as node
use Rattle.jav_tree.specs.Expressions.{Expression, Shape, Primary, target, atom, expr_at}
use Rattle.jav_tree.specs.Expressions as is
use Rattle.jav_tree.specs.ExpressionText.{tree_text}
use Rattle.jav_tree.specs.PrintableExpressions.{ExprUses, value_where, target_where}
use Rattle.jav_tree.specs.Statements.{is_statement_expression}
use Rattle.jav_tree.specs.TokenTexts.{is_name, is_literal}
use Rattle.jav_tree.specs.Tokens.{IsSymbol, IsKeyword}
use Rattle.jav_tree.specs.WithParens.{Operand, tight, before_dot, from, anywhere, begins_with_digit}
use Rattle.jav_tree.proofs.ExpressionTexts.{text-placed, text-Lit, text-This, text-Name, text-Dot, text-Index}
use Rattle.jav_tree.proofs.Parts.{same-Dot, same-Index}
use Rattle.jav_print_laws.proofs.layout_lemmas.Bytes.{Ends, ends-breaks, dot-ends, bracket-ends}
use Rattle.jav_print_laws.proofs.layout_lemmas.Derivations.{Derived, same_at, tight_of, primary_unsigned}
use Rattle.jav_print_laws.proofs.layout_lemmas.Keywords.{this_word}
use Rattle.jav_print_laws.proofs.layout_lemmas.Names.{name, dot_name, word_kind_is, literal_kind_is}
use Rattle.jav_print_laws.proofs.layout_lemmas.OperandPhrases.{Begins, begins-append, begins_with, Part, Meant, Good, wrapped, loose}
use Rattle.jav_print_laws.proofs.layout_lemmas.Phrases.{Phrase, Alone, alone, Then, both, OneOf, one_of, token, reads, then, next_to}
use Rattle.jav_print_laws.proofs.layout_lemmas.Signs.{left_bracket, right_bracket, token-opens}

-- a token begins an expression where it is no symbol
token_begins : (text : List ℕ) (k : TokenKind) → token_kind text ≡ Some k → (kind.Symbol ≡ k → ⊥) → Begins (λ n. first text) text
token_begins [] k known differs = let some = (token_is [] k known).some in absurd (omega arith)
token_begins (b ∷ t) k known differs = begins_with b t (b ∷ t) refl (token-opens (b ∷ t) k known differs)

pub word_begins : (text : List ℕ) → is_name text ≡ true → Begins (λ n. first text) text
word_begins text known = token_begins text kind.Word (word_kind_is (token_kind text) known) (λ e. cc)

-- what a derivation at the highest level means
from_primary : {limit : ℕ} (u : ExprUses) (o : Operand) (shape : Shape) → (u.is_target ≡ true → shape ≡ target) → (ts : List Token) → Derived (Primary limit shape) o.tree ts → Meant limit u o ts
from_primary {limit} u o shape aims ts d = record {
  whole = record { height = d.height; tree = d.tree; derived = is.primary d.derived; same = d.same };
  unsigned = λ high plain sign. primary_unsigned d.derived [] (rw (append-nil ts) sign);
  aim = λ t. let P : Shape → Type 0 = λ s. Derived (Primary limit s) o.tree ts in subst P (aims t) d;
}

-- an operand of the highest level
pub tight_good : {limit : ℕ} (u : ExprUses) (at : ℕ) (n : ExprNode) (shape : Shape) (text : List ℕ) (p : Phrase (Derived (Primary limit shape) (expr_at at n)) (Ends 15 false) text)
    → text ≡ tree_text (expr_at at n) → Begins p.head text
    → (u.is_target ≡ true → shape ≡ target) → (u.is_statement ≡ true → is_statement_expression n ≡ true) → Good limit u (tight (expr_at at n))
tight_good u at n shape text p same begins aims effect = record {
  positive = omega arith;
  phrase = reads p same (λ b ok. ok) (from_primary u (tight (expr_at at n)) shape aims);
  begins = record { byte = begins.byte; rest = begins.rest; is = sym same ∙ begins.is; opens_is = begins.opens_is; heads = begins.heads };
  plain = λ h. refl;
  tight = λ h. omega arith;
  effect = effect;
}

-- # Single tokens

literal_may : (text : List ℕ) (b : ℕ) → Ends 15 (begins_with_digit text) b → may_follow kind.Literal text b ≡ true
unfolding may_follow
literal_may [] b ok = rw (ends-breaks 15 false b ok).0 refl
literal_may (c ∷ text) b ok = let p = ends-breaks 15 (begins_with_digit (c ∷ text)) b ok in rw (p.0, p.1) refl

literal_primary : (limit at : ℕ) (text : List ℕ) (ts : List Token) → OneOf kind.Literal text ts → Derived (Primary limit atom) (expr_at at (node.Lit text)) ts
literal_primary limit at _ _ (one_of t is_literal) =
    record { height = 1; tree = expr_at t.start (node.Lit t.text); derived = is.literal (record { literal = is_literal }); same = same_at t.start at (node.Lit t.text) (node.Lit t.text) refl }

pub good_literal : (limit at : ℕ) (text : List ℕ) → is_literal text ≡ true
    → Good limit (value_where true) (record { level = 15; is_signed = false; is_number = begins_with_digit text; tree = expr_at at (node.Lit text) })
good_literal limit at text known =
    let kind_is = literal_kind_is (token_kind text) known in
    let same : text ≡ tree_text (expr_at at (node.Lit text)) = sym (text-placed at (node.Lit text) ∙ text-Lit text) in
    let begins = token_begins text kind.Literal kind_is (λ e. cc) in
    record {
      positive = omega arith;
      phrase = reads (token kind.Literal text kind_is) same (literal_may text) (λ ts tokens. from_primary (value_where true) _ atom (λ h. absurd cc) ts (literal_primary limit at text ts tokens));
      begins = record { byte = begins.byte; rest = begins.rest; is = sym same ∙ begins.is; opens_is = begins.opens_is; heads = begins.heads };
      plain = λ h. refl;
      tight = λ h. absurd cc;
      effect = λ h. absurd cc;
    }

this_primary : (limit at : ℕ) (ts : List Token) → Alone (IsKeyword "this") ts → Derived (Primary limit atom) (expr_at at node.This) ts
this_primary limit at _ (alone t word) = record { height = 1; tree = expr_at t.start node.This; derived = is.this word; same = same_at t.start at node.This node.This refl }

pub good_this : (limit at : ℕ) → Good limit (value_where true) (tight (expr_at at node.This))
good_this limit at = tight_good (value_where true) at node.This atom (codes "this") (reads this_word refl (λ b ok. (ends-breaks 15 false b ok).0) (this_primary limit at))
    (sym (text-placed at node.This ∙ text-This)) (begins_with 116 (codes "his") (codes "this") refl refl) (λ h. absurd cc) (λ h. absurd cc)

name_primary : (limit at : ℕ) (text : List ℕ) (ts : List Token) → OneOf kind.Word text ts → Derived (Primary limit target) (expr_at at (node.Name text)) ts
name_primary limit at _ _ (one_of t word) = record { height = 1; tree = expr_at t.start (node.Name t.text); derived = is.name (record { word = word }); same = same_at t.start at (node.Name t.text) (node.Name t.text) refl }

pub good_name : (limit at : ℕ) (text : List ℕ) → is_name text ≡ true → Good limit (target_where true) (tight (expr_at at (node.Name text)))
good_name limit at text known = tight_good (target_where true) at (node.Name text) target text (reads (name text known) refl (λ b ok. (ends-breaks 15 false b ok).0) (name_primary limit at text))
    (sym (text-placed at (node.Name text) ∙ text-Name text)) (word_begins text known) (λ h. refl) (λ h. absurd cc)

-- # What stands before a dot or a bracket

abbrev pub Dot : ℕ → Type 0
Dot b = b ≡ 46

or_false : (x y : Bool) → (x || y) ≡ false → (x ≡ false) × (y ≡ false)
or_false true y h = absurd cc
or_false false y h = (refl, h)

pub receiver : {limit : ℕ} {u : ExprUses} {o : Operand} → Good limit u o → Part limit 15 Dot (before_dot o)
receiver {o = o} g = wrapped g (nat_lt o.level 15 || o.is_number) 15 Dot (λ h. ltb-false o.level 15 (or_false _ _ h).0)
    (λ h n e. let p = or_false _ _ h in let ends = dot-ends o.level o.is_number (ltb-false o.level 15 p.0) p.1 in rw e ends)

abbrev Bracket : ℕ → Type 0
Bracket b = b ≡ 91

indexed : {limit : ℕ} {u : ExprUses} {o : Operand} → Good limit u o → Part limit 15 Bracket (from 15 o)
indexed {o = o} g = wrapped g (nat_lt o.level 15) 15 Bracket (λ h. ltb-false o.level 15 h) (λ h n e. let ends = bracket-ends o.level o.is_number (ltb-false o.level 15 h) in rw e ends)

-- # Fields and items

regroup_dot : (x y : List ℕ) → x ++ (codes "." ++ y) ≡ x ++ codes "." ++ y
regroup_dot x y = simp append_assoc refl

regroup_index : (x y : List ℕ) → x ++ (codes "[" ++ (y ++ codes "]")) ≡ x ++ codes "[" ++ y ++ codes "]"
regroup_index x y = simp append_assoc refl

field_primary : (limit at : ℕ) (e : Expr) (text : List ℕ) (ts : List Token) → Then (Derived (Expression limit 15) e) (Then (Alone (IsSymbol ".")) (OneOf kind.Word text)) ts → Derived (Primary limit target) (expr_at at (node.Dot e text)) ts
field_primary limit at e _ _ (both _ _ d (both _ _ (alone t dotted) (one_of n word))) = record {
  height = suc d.height;
  tree = expr_at d.tree.at (node.Dot d.tree n.text);
  derived = is.field (is.primary_before_dot (tight_of (omega arith) d.derived).tight) dotted (record { word = word });
  same = same_at d.tree.at at (node.Dot d.tree n.text) (node.Dot e n.text) ((same-Dot d.tree e n.text n.text).1 (d.same, refl));
}

pub good_field : (limit at : ℕ) (u : ExprUses) (o : Operand) (text : List ℕ) → is_name text ≡ true → Good limit u o → Good limit (target_where true) (tight (expr_at at (node.Dot (before_dot o) text)))
good_field limit at u o text known g =
    let e = before_dot o in let p = receiver g in
    let same : tree_text e ++ (codes "." ++ text) ≡ tree_text (expr_at at (node.Dot e text)) = regroup_dot (tree_text e) text ∙ sym (text-placed at (node.Dot e text) ∙ text-Dot e text) in
    tight_good (target_where true) at (node.Dot e text) target _
    (reads (then p.phrase (dot_name text known) (λ n ok. refl)) refl (λ b ok. (ends-breaks 15 false b ok).0) (field_primary limit at e text)) same
    (begins-append p.phrase.head _ (tree_text e) _ _ refl p.begins) (λ h. refl) (λ h. absurd cc)

index_primary : (limit at : ℕ) (e i : Expr) (ts : List Token) → Then (Derived (Expression limit 15) e) (Then (Alone (IsSymbol "[")) (Then (Derived (Expression limit 1) i) (Alone (IsSymbol "]")))) ts → Derived (Primary limit target) (expr_at at (node.Index e i)) ts
index_primary limit at e i _ (both _ _ d (both _ _ (alone l left) (both _ _ f (alone r right)))) = record {
  height = suc (max d.height f.height);
  tree = expr_at d.tree.at (node.Index d.tree f.tree);
  derived = is.index (tight_of (omega arith) d.derived).tight left f.derived right;
  same = same_at d.tree.at at (node.Index d.tree f.tree) (node.Index e i) ((same-Index d.tree e f.tree i).1 (d.same, f.same));
}

pub good_index : (limit at : ℕ) (u v : ExprUses) (o p : Operand) → Good limit u o → Good limit v p → Good limit (target_where true) (tight (expr_at at (node.Index (from 15 o) (anywhere p))))
good_index limit at u v o p g h =
    let e = from 15 o in let d = indexed g in let f = loose h in
    let same : tree_text e ++ (codes "[" ++ (tree_text p.tree ++ codes "]")) ≡ tree_text (expr_at at (node.Index e p.tree)) = regroup_index (tree_text e) (tree_text p.tree) ∙ sym (text-placed at (node.Index e p.tree) ∙ text-Index e p.tree) in
    tight_good (target_where true) at (node.Index e p.tree) target _
    (reads (then d.phrase (next_to left_bracket (then f.phrase right_bracket (λ n ok. refl))) (λ n ok. refl)) refl (λ b ok. tt) (index_primary limit at e p.tree)) same
    (begins-append d.phrase.head _ (tree_text e) _ _ refl d.begins) (λ h. refl) (λ h. absurd cc)
