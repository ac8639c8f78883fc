-- The parts and expressions of the grammar are read: what the reading of whole statements rests on.
use Rattle.std.proofs.Common.{◌≡◌, ℕ, true, List, refl, subst}
use Rattle.mol_base.specs.Token.{Token}
use Rattle.jav_tree.specs.declared.expr.Expr.{Expr}
use Rattle.jav_tree.specs.Expressions as grammar
use Rattle.jav_tree.specs.Expressions.{Primary}
use Rattle.jav_parse_cursor.specs.declared.limits.Limits.{Limits}
use Rattle.jav_parse.proofs.CompleteExpressions as mine
use Rattle.jav_parse.proofs.CompleteExpressions.{expression_read, primary_read, init_read, arguments_read}
use Rattle.jav_parse.proofs.WholeLaws as laws
use Rattle.jav_parse.proofs.WholeLaws.{WholeLaws}
use Rattle.jav_parse.proofs.WholeReadings.{Builds, PartRead}

same_shape : (s : grammar.Shape) → mine.shape_of s ≡ laws.shape_of s
same_shape grammar.target = refl
same_shape grammar.invocation = refl
same_shape grammar.atom = refl

part_laws : (l : Limits) → Builds l → (s : grammar.Shape) (h : ℕ) (e : Expr) (ts : List Token) → Primary l.most s h e ts → PartRead l (laws.shape_of s) h e ts
part_laws l w s h e ts x = subst (λ v. PartRead l v h e ts) (same_shape s) (primary_read l w x)

pub whole_laws : (l : Limits) → l.builds ≡ true → WholeLaws l
whole_laws l b = record {
  builds = b;
  part = part_laws l (record { built = b });
  expression = λ h e ts x. expression_read l (record { built = b }) x;
  init = λ h e ts x. init_read l (record { built = b }) x;
  arguments = λ h es ts x. arguments_read l (record { built = b }) x;
}
