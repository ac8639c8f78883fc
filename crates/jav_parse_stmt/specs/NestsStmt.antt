-- A function value that reads statements up to a height.
use Rattle.std.specs.Prelude.{ℕ, ◌≤◌, ◌<◌, ◌-◌, List, Result, IfOk}
use Rattle.std.specs.Borrow.{MutBor}
use Rattle.mol_base.specs.Token.{Token}
use Rattle.jav_parse_cursor.specs.declared.stop.Stop.{Stop}
use Rattle.jav_parse_stmt.specs.declared.flow.HeaderPart.{HeaderPart}
use Rattle.jav_parse_stmt.specs.declared.flow.HeaderPart.TheVariants.{Start, Each}
use Rattle.jav_parse_cursor.specs.declared.limits.Limits.{Limits}
use Rattle.jav_parse_stmt.specs.declared.stmt.Place.{Place}
use Rattle.jav_parse_stmt.specs.declared.stmt_tall.TallStmt.{TallStmt}
use Rattle.jav_parse_cursor.specs.Reading.{Parser}
use Rattle.jav_parse_cursor.specs.Reads.{Reads}
use Rattle.jav_parse_stmt.specs.StmtRules.{stmt}

-- The function may be called for less than `top`, and then reads what the rule `stmt` reads.
pub record NestsStmt (l : Limits) (top : ℕ) (pre : Limits → MutBor (List Token) → ℕ → Place → Type 0)
    (post : Limits → MutBor (List Token) → ℕ → Place → Result TallStmt Stop → MutBor (List Token) → Type 0) : Type 0 where
  pub callable : (old : MutBor (List Token)) (k : ℕ) (kind : Place) → k < top → pre l old k kind
  pub reads : (old new : MutBor (List Token)) (k : ℕ) (kind : Place) (r : Result TallStmt Stop) → k < top → post l old k kind r new
      → Reads (stmt l k kind old.now) r new.now
  pub low : (old new : MutBor (List Token)) (k : ℕ) (kind : Place) (r : Result TallStmt Stop) → k < top → post l old k kind r new
      → IfOk r (λ x. x.height ≤ k)

-- what stands in a header is no higher than this
abbrev pub IsHeaderLow : ℕ → HeaderPart → Type 0
IsHeaderLow top (Start start height) = height ≤ top
IsHeaderLow top (Each is_final to name) = Unit {0}

-- a rule for statements of at most a height, over the rule of those inside them
abbrev pub at_height : {A : Type 0} → (Limits → ℕ → (Place → Parser TallStmt) → (Place → Parser TallStmt) → A) → Limits → ℕ → A
at_height rule l top = rule l top (stmt l (top - 1)) (stmt l (top - 1 - 1))
