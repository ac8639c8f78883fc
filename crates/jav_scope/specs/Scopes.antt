-- What a scope has found of its files.
use Rattle.std.specs.Prelude.{◌≡◌, ℕ, List, map}
use Rattle.jav_names.specs.UnitViews.{numbered, superclass_of}
use Rattle.jav_scope.specs.Answers.{superclass_answered}
use Rattle.jav_scope.specs.Entries.{units_of, classes_in, view_in}
use Rattle.jav_scope.specs.MemberLists.{AreIndexed}
use Rattle.jav_scope.specs.declared.found.Found.{Found}
use Rattle.jav_scope.specs.declared.members.Members.{Members}
use Rattle.jav_scope.specs.declared.source.SourceUnit.{SourceUnit}

-- what each class extends
abbrev pub superclasses_in : List SourceUnit → List (Found ℕ)
superclasses_in sources = map (λ unit. superclass_answered (superclass_of (classes_in sources) unit)) (numbered (units_of sources))

pub record Stands (sources : List SourceUnit) (above : List (Found ℕ)) (indexes : Members) : Type 0 where
  pub superclasses : above ≡ superclasses_in sources
  pub members : AreIndexed indexes (view_in sources)
