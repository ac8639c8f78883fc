use Rattle.std.proofs.Common.{◌≡◌, ℕ, ◌<◌, ◌∷◌, None, take}
use Rattle.jav_names.specs.DottedNames.{Name, Names, joined}
use Rattle.jav_names.specs.LookUps.{class_named}
use Rattle.jav_scope.specs.Entries.{classes_in}
use Rattle.jav_scope.proofs.type_names.TypeNames.fewest.Given as goal

abbrev pub invariant-loop-place : goal.invariant-loop-place
invariant-loop-place l = (first : Name) (rest : Names) → l.names ≡ first ∷ rest
    → (k : ℕ) → k < l.place → class_named (classes_in l.self) (joined first (take k rest)) ≡ None
