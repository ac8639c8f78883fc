-- Expressions with an operator before or after an operand, and casts, as phrases.
use Rattle.std.proofs.Common.{◌≡◌, ◌⊎◌, inl, inr, ℕ, suc, Bool, true, false, ◌&&◌, ◌||◌, cond, List, [], ◌∷◌, ◌++◌, codes, refl, sym, ap, ◌∙◌, append_assoc, append-nil, arith}
use Rattle.std.specs.Prelude.{nat_lt, not}
use Rattle.std.proofs.lemmas.Bool.{ltb-false}
use Rattle.mol_base.specs.Among.{among}
use Rattle.mol_base.specs.Operators.{is_step, is_prefix, is_sign}
use Rattle.mol_base.specs.Token.{Token}
use Rattle.mol_base.specs.Lexical.Characters.{first}
use Rattle.mol_base.specs.declared.token_kind.TokenKind.TheVariants as kind
use Rattle.jav_print_laws.specs.pieces.Pieces.{may_follow}
use Rattle.jav_tree.specs.declared.expr.Expr.{Expr}
use Rattle.jav_tree.specs.declared.expr.ExprNode.TheVariants as node
use Rattle.jav_tree.specs.declared.types.TypeName.{TypeName}
use Rattle.jav_tree.specs.Expressions.{Expression, Primary, target, MayBeCast, expr_at}
use Rattle.jav_tree.specs.Expressions as is
use Rattle.jav_tree.specs.ExpressionText.{tree_text, gap, begin_alike}
use Rattle.jav_tree.specs.Operators.{BeginsWithSign}
use Rattle.jav_tree.specs.PrintableExpressions.{ExprUses, value_where, effect_where}
use Rattle.jav_tree.specs.Tokens.{IsSymbol}
use Rattle.jav_tree.specs.Types.{WholeType, is_primitive}
use Rattle.jav_tree.specs.TypeText.{type_text}
use Rattle.jav_tree.specs.WithParens.{Operand, of_level, from, cast_operand, parenthesized}
use Rattle.jav_tree.proofs.ExpressionTexts.{text-placed, text-Unary, text-Post, text-Cast, text-Paren}
use Rattle.jav_tree.proofs.Parts.{same-Unary, same-Post, same-Cast}
use Rattle.jav_tree.proofs.StatementExpressions.{statement-Post, statement-Unary}
use Rattle.jav_print_laws.proofs.layout_lemmas.Bytes.{Closes, opens, ends-closes, closes-ends, close_breaks, step-ends}
use Rattle.jav_print_laws.proofs.layout_lemmas.Derivations.{Derived, same_at, loosen, primary_unsigned}
use Rattle.jav_print_laws.proofs.layout_lemmas.OperandPhrases.{Begins, begins-append, begins_with, Part, Meant, Good, enclosed, from_level, aimed}
use Rattle.jav_print_laws.proofs.layout_lemmas.OperatorTexts.{prefix-spaced, prefix-before, prefix-text, step-text}
use Rattle.jav_print_laws.proofs.layout_lemmas.Phrases.{Phrase, Breaks, Alone, alone, Then, both, OneOf, one_of, token, reads, narrow, then, next_to, space}
use Rattle.jav_print_laws.proofs.layout_lemmas.Signs.{left_paren, right_paren}

-- # Before an operand

prefix_tree : (limit at : ℕ) (e : Expr) (op : List ℕ) → is_prefix op ≡ true → (ts : List Token) → Then (OneOf kind.Symbol op) (Derived (Expression limit 13) e) ts → Derived (Expression limit 13) (expr_at at (node.Unary op e)) ts
prefix_tree limit at e _ known _ (both _ _ (one_of t sign) d) = record {
  height = suc d.height;
  tree = expr_at t.start (node.Unary t.text d.tree);
  derived = is.prefix (omega arith) (record { symbol = sign; written = known }) d.derived;
  same = same_at t.start at (node.Unary t.text d.tree) (node.Unary t.text e) ((same-Unary t.text t.text d.tree e).1 (refl, d.same));
}

-- no sign, where the operator is none
op_unsigned : (D : List Token → Type 0) (op : List ℕ) (ts : List Token) → Then (OneOf kind.Symbol op) D ts → is_sign op ≡ false → BeginsWithSign ts → ⊥
op_unsigned D _ _ (both _ _ (one_of t sign) d) plain signed = let w = signed.written in absurd cc

abbrev pub Signed : ℕ → Expr → List ℕ → Operand
Signed at e op = record { level = 13; is_signed = is_sign op; is_number = false; tree = expr_at at (node.Unary op e) }

-- an operand of level 13 that an operator begins
signed_good : {limit : ℕ} (u : ExprUses) (at : ℕ) (e : Expr) (op text : List ℕ) (D : List Token → Type 0) (p : Phrase (Then (OneOf kind.Symbol op) D) Closes text)
    → ((ts : List Token) → Then (OneOf kind.Symbol op) D ts → Derived (Expression limit 13) (expr_at at (node.Unary op e)) ts)
    → text ≡ tree_text (expr_at at (node.Unary op e)) → Begins p.head text → (u.is_target ≡ true → ⊥) → (u.is_statement ≡ true → is_step op ≡ true) → Good limit u (Signed at e op)
signed_good {limit} u at e op text D p tree same begins aimless effect = record {
  positive = omega arith;
  phrase = reads p same (λ b ok. ends-closes 13 false b (omega arith) ok) meant;
  begins = record { byte = begins.byte; rest = begins.rest; is = sym same ∙ begins.is; opens_is = begins.opens_is; heads = begins.heads };
  plain = λ h. absurd (omega arith);
  tight = λ h. absurd (aimless h);
  effect = λ h. statement-Unary op e ∙ effect h;
}
  where
    meant : (ts : List Token) → Then (OneOf kind.Symbol op) D ts → Meant limit u (Signed at e op) ts
    meant ts d = record { whole = tree ts d; unsigned = λ h plain sign. op_unsigned D op ts d plain sign; aim = λ t. absurd (aimless t) }

-- what stands behind a prefix operator: perhaps a space, and the operand
record Gapped (limit : ℕ) (e : Expr) (op : List ℕ) (b : Bool) : Type 0 where
  phrase : Phrase (Derived (Expression limit 13) e) Closes (cond b (codes " ") [] ++ tree_text e)
  meets : (n : ℕ) → Closes n → may_follow kind.Symbol op (phrase.head n) ≡ true

gapped : (limit : ℕ) (e : Expr) (op : List ℕ) → is_prefix op ≡ true → Part limit 13 Closes e → (b : Bool) → (among ("+" ∷ "-" ∷ []) op && begin_alike op (tree_text e)) ≡ b → Gapped limit e op b
gapped limit e op known p true alike = record { phrase = space p.phrase; meets = λ n ok. (prefix-spaced op known).spaced }
gapped limit e op known p false alike =
    let begins = p.begins in
    let differs : (among ("+" ∷ "-" ∷ []) op && begin_alike op (begins.byte ∷ begins.rest)) ≡ false = rw begins.is at alike in
    record { phrase = p.phrase; meets = λ n ok. rw (begins.heads n) (prefix-before op known begins.byte begins.rest begins.opens_is differs) }

op_begins : (op more : List ℕ) (byte : ℕ) (rest : List ℕ) → op ≡ byte ∷ rest → opens byte ≡ true → Begins (λ n. first op) (op ++ more)
op_begins op more byte rest is ok = record { byte = byte; rest = rest ++ more; is = ap (λ t. t ++ more) is; opens_is = ok; heads = λ n. ap first is }

pub good_prefix : (limit at : ℕ) (u v : ExprUses) (op : List ℕ) (o : Operand) → is_prefix op ≡ true → (v.is_target ≡ true → ⊥) → (v.is_statement ≡ true → is_step op ≡ true) → Good limit u o
    → Good limit v (Signed at (from 13 o) op)
good_prefix limit at u v op o known aimless effect g =
    let e = from 13 o in
    let alike = among ("+" ∷ "-" ∷ []) op && begin_alike op (tree_text e) in
    let q = gapped limit e op known (from_level g 13) alike refl in
    let same : op ++ (cond alike (codes " ") [] ++ tree_text e) ≡ tree_text (expr_at at (node.Unary op e)) = sym (append_assoc op (gap op (tree_text e)) (tree_text e)) ∙ sym (text-placed at (node.Unary op e) ∙ text-Unary op e) in
    let begins = prefix-text op known in
    signed_good v at e op _ (Derived (Expression limit 13) e) (then (token kind.Symbol op (prefix-spaced op known).token) q.phrase q.meets) (prefix_tree limit at e op known) same
    (op_begins op _ begins.byte begins.rest begins.is begins.opens_is) aimless effect

step_tree : (limit at : ℕ) (e : Expr) (op : List ℕ) → is_step op ≡ true → (ts : List Token) → Then (OneOf kind.Symbol op) (Derived (Primary limit target) e) ts → Derived (Expression limit 13) (expr_at at (node.Unary op e)) ts
step_tree limit at e _ known _ (both _ _ (one_of t sign) d) = record {
  height = suc d.height;
  tree = expr_at t.start (node.Unary t.text d.tree);
  derived = is.step_before (omega arith) (record { symbol = sign; written = known }) d.derived;
  same = same_at t.start at (node.Unary t.text d.tree) (node.Unary t.text e) ((same-Unary t.text t.text d.tree e).1 (refl, d.same));
}

no_gap : (op t : List ℕ) → among ("+" ∷ "-" ∷ []) op ≡ false → op ++ t ≡ op ++ gap op t ++ t
no_gap op t none = rw (none, append-nil op) refl

pub good_step_before : (limit at : ℕ) (u v : ExprUses) (op : List ℕ) (o : Operand) → is_step op ≡ true → u.is_target ≡ true → (v.is_target ≡ true → ⊥) → Good limit u o
    → Good limit v (Signed at (from 15 o) op)
good_step_before limit at u v op o known aim aimless g =
    let e = from 15 o in let p = aimed g aim in let step = step-text op known in
    let same : op ++ tree_text e ≡ tree_text (expr_at at (node.Unary op e)) = no_gap op (tree_text e) step.no_gap ∙ sym (text-placed at (node.Unary op e) ∙ text-Unary op e) in
    signed_good v at e op _ (Derived (Primary limit target) e) (then (token kind.Symbol op step.token) (narrow p.phrase (λ n ok. closes-ends 15 o.is_number n ok)) (λ n ok. step.may _)) (step_tree limit at e op known) same
    (op_begins op _ step.byte step.rest step.is step.opens_is) aimless (λ h. known)

-- # After an operand

post_tree : (limit at : ℕ) (e : Expr) (op : List ℕ) → is_step op ≡ true → (ts : List Token) → Then (Derived (Primary limit target) e) (OneOf kind.Symbol op) ts → Derived (Expression limit 14) (expr_at at (node.Post e op)) ts
post_tree limit at e _ known _ (both _ _ d (one_of t sign)) = record {
  height = suc d.height;
  tree = expr_at d.tree.at (node.Post d.tree t.text);
  derived = is.step_after (omega arith) d.derived (record { symbol = sign; written = known });
  same = same_at d.tree.at at (node.Post d.tree t.text) (node.Post e t.text) ((same-Post d.tree e t.text t.text).1 (d.same, refl));
}

post_unsigned : (limit : ℕ) (e : Expr) (op : List ℕ) (ts : List Token) → Then (Derived (Primary limit target) e) (OneOf kind.Symbol op) ts → BeginsWithSign ts → ⊥
post_unsigned limit e op _ (both _ us d more) sign = primary_unsigned d.derived us sign

pub good_post : (limit at : ℕ) (u : ExprUses) (op : List ℕ) (o : Operand) → is_step op ≡ true → u.is_target ≡ true → Good limit u o → Good limit (effect_where true) (of_level 14 (expr_at at (node.Post (from 15 o) op)))
good_post limit at u op o known aim g =
    let e = from 15 o in let p = aimed g aim in let step = step-text op known in
    let same : tree_text e ++ op ≡ tree_text (expr_at at (node.Post e op)) = sym (text-placed at (node.Post e op) ∙ text-Post e op) in
    let begins = p.begins in
    let sign_first : ((first op ≡ 43) ⊎ (first op ≡ 45)) = rw step.is step.sign in
    record {
      positive = omega arith;
      phrase = reads (then p.phrase (token kind.Symbol op step.token) (λ n ok. step-ends 15 o.is_number (first op) (omega arith) sign_first)) same (λ b ok. step.may b) (meant known);
      begins = begins-append p.phrase.head (λ n. first op) (tree_text e) op _ same begins;
      plain = λ h. refl;
      tight = λ h. absurd cc;
      effect = λ h. statement-Post e op;
    }
  where
    meant : is_step op ≡ true → (ts : List Token) → Then (Derived (Primary limit target) (from 15 o)) (OneOf kind.Symbol op) ts → Meant limit (effect_where true) (of_level 14 (expr_at at (node.Post (from 15 o) op))) ts
    meant known' ts d = record { whole = post_tree limit at (from 15 o) op known' ts d; unsigned = λ h plain sign. post_unsigned limit (from 15 o) op ts d sign; aim = λ t. absurd cc }

-- # Casts

-- the operand of a cast, which begins with no sign where that matters
record CastOperand (limit : ℕ) (to : TypeName) (e : Expr) (ts : List Token) : Type 0 where
  whole : Derived (Expression limit 13) e ts
  may : MayBeCast to ts

paren_unsigned : (D : List Token → Type 0) (ts : List Token) → Then (Alone (IsSymbol "(")) D ts → BeginsWithSign ts → ⊥
paren_unsigned D _ (both _ _ (alone t left) d) sign = let a = left.written in let b = sign.written in let c : is_sign (codes "(") ≡ true = rw a at b in absurd cc

or_false : (x y : Bool) → (x || y) ≡ false → (x ≡ false) × (y ≡ false)
or_false true y h = absurd cc
or_false false y h = (refl, h)

may_be_cast : (to : TypeName) (ts : List Token) (x y : Bool) → is_primitive to ≡ x → (not x && y) ≡ false → (y ≡ false → BeginsWithSign ts → ⊥) → MayBeCast to ts
may_be_cast to ts true y primitive plain unsigned = inl primitive
may_be_cast to ts false y primitive plain unsigned = inr (unsigned plain)

cast_part : {limit : ℕ} {u : ExprUses} {o : Operand} (g : Good limit u o) (to : TypeName) (b : Bool) → (nat_lt o.level 13 || (not (is_primitive to) && o.is_signed)) ≡ b
    → Phrase (CastOperand limit to (parenthesized b o.tree)) Closes (tree_text (parenthesized b o.tree))
cast_part {limit} {u} {o} g to true e =
    let paren = expr_at o.tree.at (node.Paren o.tree) in
    let text : codes "(" ++ (tree_text o.tree ++ codes ")") ≡ tree_text paren = sym (text-placed o.tree.at (node.Paren o.tree) ∙ text-Paren o.tree) in
    reads (next_to left_paren (then g.phrase right_paren (λ n ok. closes-ends o.level o.is_number 41 refl))) text (λ n ok. tt) (λ ts d. record { whole = enclosed g 13 ts d; may = inr (paren_unsigned _ ts d) })
cast_part {limit} {u} {o} g to false e =
    let parts = or_false (nat_lt o.level 13) _ e in
    let high = ltb-false o.level 13 parts.0 in
    reads g.phrase refl (λ n ok. closes-ends o.level o.is_number n ok) (λ ts m. record {
      whole = record { height = m.whole.height; tree = m.whole.tree; derived = loosen 13 high m.whole.derived; same = m.whole.same };
      may = may_be_cast to ts (is_primitive to) o.is_signed refl parts.1 (λ plain. m.unsigned high plain);
    })

regroup_cast : (x y : List ℕ) → codes "(" ++ (x ++ (codes ")" ++ (32 ∷ y))) ≡ codes "(" ++ x ++ codes ") " ++ y
regroup_cast x y = let e : codes "(" ++ (x ++ (codes ") " ++ y)) ≡ codes "(" ++ x ++ codes ") " ++ y = simp append_assoc refl in e

cast_tree : (limit at : ℕ) (to : TypeName) (e : Expr) (ts : List Token) → Then (Alone (IsSymbol "(")) (Then (WholeType limit to) (Then (Alone (IsSymbol ")")) (CastOperand limit to e))) ts → Derived (Expression limit 13) (expr_at at (node.Cast to e)) ts
cast_tree limit at to e _ (both _ _ (alone l left) (both _ _ t (both _ _ (alone r right) c))) =
    let d = c.whole in
    record {
      height = suc d.height;
      tree = expr_at l.start (node.Cast to d.tree);
      derived = is.cast (omega arith) left t right c.may d.derived;
      same = same_at l.start at (node.Cast to d.tree) (node.Cast to e) ((same-Cast to to d.tree e).1 (refl, d.same));
    }

cast_unsigned : (limit : ℕ) (to : TypeName) (e : Expr) (ts : List Token) → Then (Alone (IsSymbol "(")) (Then (WholeType limit to) (Then (Alone (IsSymbol ")")) (CastOperand limit to e))) ts → BeginsWithSign ts → ⊥
cast_unsigned limit to e ts d sign = paren_unsigned _ ts d sign

pub good_cast : (limit at : ℕ) (u : ExprUses) (o : Operand) (to : TypeName) → Phrase (WholeType limit to) Breaks (type_text to) → Good limit u o
    → Good limit (value_where true) (of_level 13 (expr_at at (node.Cast to (cast_operand (is_primitive to) o))))
good_cast limit at u o to type g =
    let e = cast_operand (is_primitive to) o in
    let q = cast_part g to _ refl in
    let text : codes "(" ++ (type_text to ++ (codes ")" ++ (32 ∷ tree_text e))) ≡ codes "(" ++ type_text to ++ codes ") " ++ tree_text e = regroup_cast (type_text to) (tree_text e) in
    let same = text ∙ sym (text-placed at (node.Cast to e) ∙ text-Cast to e) in
    record {
      positive = omega arith;
      phrase = reads (next_to left_paren (then type (next_to right_paren (space q)) (λ n ok. close_breaks))) same (λ b ok. ends-closes 13 false b (omega arith) ok) (λ ts d. record {
        whole = cast_tree limit at to e ts d;
        unsigned = λ h plain sign. cast_unsigned limit to e ts d sign;
        aim = λ t. absurd cc;
      });
      begins = begins_with 40 _ _ (sym same) refl;
      plain = λ h. refl;
      tight = λ h. absurd cc;
      effect = λ h. absurd cc;
    }
