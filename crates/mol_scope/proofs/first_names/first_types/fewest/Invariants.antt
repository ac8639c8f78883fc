use Rattle.std.proofs.Common.{◌≡◌, ◌∷◌}
use Rattle.jav_scope.proofs.FewestNames.{NoneFewer}
use Rattle.jav_names.specs.DottedNames.{Name, Names}
use Rattle.mol_scope.specs.typenames.Readings.{classes_of}
use Rattle.mol_scope.proofs.first_names.first_types.fewest.Given as goal

abbrev pub invariant-loop-place : goal.invariant-loop-place
invariant-loop-place l = (first : Name) (rest : Names) → l.names ≡ first ∷ rest → NoneFewer (classes_of l.file) first rest l.place
