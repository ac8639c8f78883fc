-- Derivations in the grammar of expressions: of trees that are the same but for places, from looser levels, and their first tokens.
use Rattle.std.proofs.Common.{◌≡◌, ℕ, ◌≤◌, true, List, ◌++◌, codes, sym, ap, ◌∙◌, append_assoc, arith}
use Rattle.mol_base.specs.Operators.{is_sign}
use Rattle.mol_base.specs.Token.{Token}
use Rattle.jav_tree.specs.declared.expr.Expr.{Expr}
use Rattle.jav_tree.specs.declared.expr.ExprNode.{ExprNode}
use Rattle.jav_tree.specs.declared.expr.ExprNode.TheFolds.{fold-roll-Expr}
use Rattle.jav_tree.specs.Expressions.{Expression, Shape, Primary, BeforeDot, ArrayCreation, expr_at}
use Rattle.jav_tree.specs.Expressions as is
use Rattle.jav_tree.specs.Operators.{BeginsWithSign}
use Rattle.jav_tree.specs.Places.{unplaced_expr, unplaced_expr_node, expr_node_step, expr_step}
use Rattle.jav_print_laws.proofs.layout_lemmas.OperatorTexts.{binary-spaced}

-- A derivation of a tree that is this one but for what `plain` takes away.
pub record Made {X Y : Type 0} (plain : X → Y) (R : ℕ → X → List Token → Type 0) (y : Y) (ts : List Token) : Type 0 where
  pub height : ℕ
  pub tree : X
  pub derived : R height tree ts
  pub same : plain tree ≡ y

abbrev pub Derives : {X : Type 0} → (X → X) → (ℕ → X → List Token → Type 0) → X → List Token → Type 0
Derives plain R x = Made plain R (plain x)

abbrev pub Derived : (ℕ → Expr → List Token → Type 0) → Expr → List Token → Type 0
Derived = Derives unplaced_expr

unplaced_at : (at : ℕ) (n : ExprNode) → unplaced_expr (expr_at at n) ≡ expr_at 0 (unplaced_expr_node n)
unplaced_at at n = fold-roll-Expr _ _ expr_node_step expr_step (record { at = at; node = n })

-- the place of an expression does not matter
pub same_at : (a b : ℕ) (n m : ExprNode) → unplaced_expr_node n ≡ unplaced_expr_node m → unplaced_expr (expr_at a n) ≡ unplaced_expr (expr_at b m)
same_at a b n m e = unplaced_at a n ∙ ap (λ k. expr_at 0 k) e ∙ sym (unplaced_at b m)

-- what binds tighter stands where looser may
pub loosen : {limit own h : ℕ} {e : Expr} {ts : List Token} (level : ℕ) → level ≤ own → Expression limit own h e ts → Expression limit level h e ts
loosen level low (is.assign le p o q) = is.assign (omega arith) p o q
loosen level low (is.cond le p a q b r) = is.cond (omega arith) p a q b r
loosen level low (is.binary le o p q) = is.binary (omega arith) o p q
loosen level low (is.instance_of le p w t) = is.instance_of (omega arith) p w t
loosen level low (is.prefix le o p) = is.prefix (omega arith) o p
loosen level low (is.step_before le o p) = is.step_before (omega arith) o p
loosen level low (is.cast le l t r may p) = is.cast (omega arith) l t r may p
loosen level low (is.step_after le p o) = is.step_after (omega arith) p o
loosen level low (is.creation le p) = is.creation (omega arith) p
loosen level low (is.primary p) = is.primary p

-- what binds as tightly as a name
pub record IsTight (limit h : ℕ) (e : Expr) (ts : List Token) : Type 0 where
  pub shape : Shape
  pub tight : Primary limit shape h e ts

pub tight_of : {limit level h : ℕ} {e : Expr} {ts : List Token} → 15 ≤ level → Expression limit level h e ts → IsTight limit h e ts
tight_of high (is.assign le p o q) = absurd (omega arith)
tight_of high (is.cond le p a q b r) = absurd (omega arith)
tight_of high (is.binary {own = own} {op = op} le o p q) = let g = (binary-spaced op.text own o.level_is).greatest in absurd (omega arith)
tight_of high (is.instance_of le p w t) = absurd (omega arith)
tight_of high (is.prefix le o p) = absurd (omega arith)
tight_of high (is.step_before le o p) = absurd (omega arith)
tight_of high (is.cast le l t r may p) = absurd (omega arith)
tight_of high (is.step_after le p o) = absurd (omega arith)
tight_of high (is.creation le p) = absurd (omega arith)
tight_of high (is.primary {shape = shape} p) = record { shape = shape; tight = p }

-- what binds so begins with none of `+ - ++ --`
abbrev Unsigned : List Token → Type 0
Unsigned ts = (us : List Token) → BeginsWithSign (ts ++ us) → ⊥

mutual
  pub primary_unsigned : {limit h : ℕ} {shape : Shape} {e : Expr} {ts : List Token} → Primary limit shape h e ts → (us : List Token) → BeginsWithSign (ts ++ us) → ⊥
  primary_unsigned (is.literal l) us sign = let a = l.literal in let b = sign.symbol in cc
  primary_unsigned (is.this k) us sign = let a = k.keyword in let b = sign.symbol in cc
  primary_unsigned (is.paren l p r) us sign = let a = l.written in let b = sign.written in let c : is_sign (codes "(") ≡ true = rw a at b in absurd cc
  primary_unsigned (is.name n) us sign = let a = n.word in let b = sign.symbol in cc
  primary_unsigned (is.field {ts = ts} p d n) us sign = before_dot_unsigned p _ (rw (append_assoc ts _ us) at sign)
  primary_unsigned (is.index {ts = ts} p l q r) us sign = primary_unsigned p _ (rw (append_assoc ts _ us) at sign)
  primary_unsigned (is.call_on {ts = ts} p d n q) us sign = before_dot_unsigned p _ (rw (append_assoc ts _ us) at sign)
  primary_unsigned (is.call n q) us sign = let a = n.word in let b = sign.symbol in cc
  primary_unsigned (is.super_call k d n q) us sign = let a = k.keyword in let b = sign.symbol in cc
  primary_unsigned (is.new k n q) us sign = let a = k.keyword in let b = sign.symbol in cc

  before_dot_unsigned : {limit h : ℕ} {e : Expr} {ts : List Token} → BeforeDot limit h e ts → (us : List Token) → BeginsWithSign (ts ++ us) → ⊥
  before_dot_unsigned (is.primary_before_dot p) us sign = primary_unsigned p us sign
  before_dot_unsigned (is.array_before_dot p) us sign = creation_unsigned p us sign

  pub creation_unsigned : {limit h : ℕ} {e : Expr} {ts : List Token} → ArrayCreation limit h e ts → (us : List Token) → BeginsWithSign (ts ++ us) → ⊥
  creation_unsigned (is.sized k b s n few) us sign = let a = k.keyword in let c = sign.symbol in cc
  creation_unsigned (is.filled k b n few items) us sign = let a = k.keyword in let c = sign.symbol in cc
