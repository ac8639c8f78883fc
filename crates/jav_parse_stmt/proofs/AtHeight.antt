-- The rule of statements at a height that is not 0.
use Rattle.std.proofs.Common.{◌≡◌, ℕ, zero, suc, ◌-◌, ◌<◌, List, refl, arith}
use Rattle.mol_base.specs.Token.{Token}
use Rattle.jav_parse_cursor.specs.declared.limits.Limits.{Limits}
use Rattle.jav_parse_stmt.specs.declared.stmt.Place.{Place}
use Rattle.jav_parse_stmt.specs.StmtRules.{stmt, statement_at}

pub stmt_is : (l : Limits) (d : ℕ) (kind : Place) → 0 < d → (ts : List Token) → stmt l d kind ts ≡ statement_at l d (stmt l (d - 1)) (stmt l (d - 1 - 1)) kind ts
unfolding stmt
stmt_is l zero kind p ts = absurd (omega arith)
stmt_is l (suc zero) kind p ts = refl
stmt_is l (suc (suc d)) kind p ts = let e : suc (suc d) - 1 ≡ suc d = omega arith in let f : suc d - 1 ≡ d = omega arith in rw (e, f) refl
