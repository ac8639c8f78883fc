-- A function value that reads expressions up to a height.
use Rattle.std.specs.Prelude.{ℕ, ◌≤◌, ◌<◌, ◌^◌, ◌-◌, List, Result, IfOk}
use Rattle.std.specs.Borrow.{MutBor}
use Rattle.mol_base.specs.Token.{Token}
use Rattle.jav_parse_cursor.specs.declared.stop.Stop.{Stop}
use Rattle.jav_parse_cursor.specs.declared.limits.Limits.{Limits}
use Rattle.jav_parse_expr.specs.declared.primary.Goal.{Goal}
use Rattle.jav_parse_expr.specs.declared.primary.Goal.TheVariants.{Level, Target, Init, After}
use Rattle.jav_parse_expr.specs.declared.primary.Rooms.{Rooms}
use Rattle.jav_parse_cursor.specs.declared.tall.Tall.{Tall}
use Rattle.jav_parse_expr.specs.ExprRules.{expr, inside}
use Rattle.jav_parse_expr.specs.PrimaryRules.{Inside}
use Rattle.jav_parse_cursor.specs.Reading.{Parser}
use Rattle.jav_parse_cursor.specs.Reads.{Reads}

-- what a goal begins with is no higher than asked for
abbrev pub Fits : ℕ → Goal → Type 0
Fits top (Level k) = Unit {0}
Fits top Target = Unit {0}
Fits top Init = Unit {0}
Fits top (After first) = first.height ≤ top

abbrev pub IsWithin : ℕ → Result Tall Stop → Type 0
IsWithin top r = IfOk r (λ x. x.height ≤ top)

-- The function may be called for less than `top`, and then reads what the rule `expr` reads.
pub record Nests (l : Limits) (top : ℕ) (pre : Limits → MutBor (List Token) → ℕ → Goal → Type 0)
    (post : Limits → MutBor (List Token) → ℕ → Goal → Result Tall Stop → MutBor (List Token) → Type 0) : Type 0 where
  pub callable : (old : MutBor (List Token)) (k : ℕ) (goal : Goal) → k < top → Fits k goal → pre l old k goal
  pub reads : (old new : MutBor (List Token)) (k : ℕ) (goal : Goal) (r : Result Tall Stop) → k < top → post l old k goal r new
      → Reads (expr l k goal old.now) r new.now
  pub low : (old new : MutBor (List Token)) (k : ℕ) (goal : Goal) (r : Result Tall Stop) → k < top → post l old k goal r new → IsWithin k r

-- limits within which nothing overflows
pub record IsLimited (l : Limits) (top : ℕ) : Type 0 where
  pub some : 0 < l.most
  pub few : l.most < 2 ^ 62
  pub small : top ≤ 2 ^ 62

-- rooms within a limit
pub record AreWithin (top : ℕ) (rooms : Rooms) : Type 0 where
  pub top_some : 0 < top
  pub invocation : rooms.invocation ≤ top
  pub target : rooms.target ≤ top
  pub rest : rooms.rest ≤ top

-- a rule for expressions of at most a height, over the rule of those inside them
abbrev pub at_height : {A : Type 0} → (Limits → ℕ → (Goal → Parser Tall) → (Goal → Parser Tall) → A) → Limits → ℕ → A
at_height rule l top = rule l top (expr l (top - 1)) (expr l (top - 1 - 1))

-- a rule for expressions of level 15 within these rooms, over the rule of those inside them
abbrev pub in_rooms : {A : Type 0} → (Limits → ℕ → Rooms → Inside → A) → Limits → ℕ → Rooms → A
in_rooms rule l top rooms = rule l top rooms (inside l rooms)
