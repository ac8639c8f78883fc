-- The rule of expressions at a height that is not 0.
use Rattle.std.proofs.Common.{◌≡◌, ℕ, zero, suc, ◌-◌, ◌<◌, List, refl, arith}
use Rattle.mol_base.specs.Token.{Token}
use Rattle.jav_parse_cursor.specs.declared.limits.Limits.{Limits}
use Rattle.jav_parse_expr.specs.declared.primary.Goal.{Goal}
use Rattle.jav_parse_expr.specs.ExprRules.{expr, asked}

pub expr_is : (l : Limits) (d : ℕ) (goal : Goal) → 0 < d → (ts : List Token) → expr l d goal ts ≡ asked l d (expr l (d - 1)) (expr l (d - 1 - 1)) goal ts
unfolding expr
expr_is l zero goal p ts = absurd (omega arith)
expr_is l (suc zero) goal p ts = refl
expr_is l (suc (suc d)) goal p ts = let e : suc (suc d) - 1 ≡ suc d = omega arith in let f : suc d - 1 ≡ d = omega arith in rw (e, f) refl
