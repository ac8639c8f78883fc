use Rattle.std.proofs.Common.{◌≡◌, map, take}
use Rattle.jav_names.specs.UnitViews.{numbered, superclass_of}
use Rattle.jav_scope.specs.Answers.{superclass_answered}
use Rattle.jav_scope.specs.Entries.{units_of, classes_in}
use Rattle.jav_scope.proofs.superclasses.superclasses.Given as goal

abbrev pub invariant-loop-place : goal.invariant-loop-place
invariant-loop-place l = l.all.items
    ≡ map (λ unit. superclass_answered (superclass_of (classes_in l.sources) unit)) (numbered (units_of (take l.place l.sources)))
