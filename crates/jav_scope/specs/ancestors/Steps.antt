-- Steps up from a class.
use Rattle.std.specs.Prelude.{ℕ, zero, suc, ◌==◌, List, [], ◌∷◌, Option, Some, None, if◌then◌else◌}
use Rattle.jav_names.specs.LookUps.{class_above}
use Rattle.jav_names.specs.Views.{View}

abbrev pub unless_from : ℕ → Option ℕ → Option ℕ
unless_from from None = None
unless_from from (Some next) = if next == from then None else Some next

-- the class above one, unless it is this
abbrev pub next_up : {M : Type 0} → View ℕ M → ℕ → ℕ → Option ℕ
next_up view from at = unless_from from (class_above view at)

abbrev pub and_on : Option ℕ → (ℕ → List ℕ) → List ℕ
and_on None more = []
and_on (Some next) more = next ∷ more next

-- the classes that at most so many steps up lead to, from a place on the way
abbrev pub steps_up : {M : Type 0} → ℕ → View ℕ M → ℕ → ℕ → List ℕ
steps_up zero view from at = []
steps_up (suc steps) view from at = and_on (next_up view from at) (steps_up steps view from)
