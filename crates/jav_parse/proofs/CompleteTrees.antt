-- All tokens of an expression of the grammar are read as it.
use Rattle.std.proofs.Common.{◌≡◌, ℕ, ◌<◌, ◌≤◌, true, List, [], length, Ok, ap, subst, append-nil, arith}
use Rattle.mol_base.specs.Token.{Token}
use Rattle.jav_tree.specs.declared.expr.Expr.{Expr}
use Rattle.jav_tree.specs.Trees.{IsExpr}
use Rattle.jav_parse_cursor.specs.declared.limits.Limits.{Limits}
use Rattle.jav_parse_expr.specs.declared.primary.Goal.TheVariants.{Level}
use Rattle.jav_parse_expr.specs.ExprRules.{expr}
use Rattle.jav_parse_cursor.specs.Reading.{and_then, ◌>>=◌, pure, sort as next}
use Rattle.jav_parse.proofs.CompleteExpressions.{expression_read}
use Rattle.jav_parse.proofs.PartSteps.{sized}
use Rattle.jav_parse.proofs.ReadingSteps.{Ends}
use Rattle.jav_parse.proofs.WholeReadings.{ExprRead, whole}

pub ends_none : Ends 1 []
unfolding next
ends_none = omega arith

whole_tokens : (l : Limits) (h : ℕ) (e : Expr) (ts : List Token) (x : ExprRead l 1 h e ts) (d : ℕ) → h ≤ d → length ts < l.turns → expr l d (Level 1) ts ≡ Ok (sized e h x.shape, [])
whole_tokens l h e ts x d low short =
    subst (λ us. expr l d (Level 1) us ≡ Ok (sized e h x.shape, [])) (append-nil ts) (whole x (omega arith) d low [] ends_none (omega arith))

-- the rule of whole expressions, without their heights
pub whole_expression : (l : Limits) (d : ℕ) → l.builds ≡ true → 0 < l.most → (e : Expr) (ts : List Token) → IsExpr l.most d e ts → length ts < l.turns
    → (expr l d (Level 1) >>= (λ x. pure x.expr)) ts ≡ Ok (e, [])
whole_expression l d b some e ts t short =
    ap (λ o. and_then o (λ x. pure x.expr)) (whole_tokens l t.0 e ts (expression_read l (record { built = b }) t.2) d t.1 short)
