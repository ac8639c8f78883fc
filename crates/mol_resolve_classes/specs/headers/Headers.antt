-- The faults of the headers of source files.
use Rattle.std.specs.Prelude.{ℕ, Bool, List, map, Option, option_map}
use Rattle.jav_names.specs.DottedNames.{Name}
use Rattle.jav_names.specs.LookUps.{class_named}
use Rattle.jav_names.specs.UnitViews.{numbered}
use Rattle.jav_scope.specs.Entries.{classes_in}
use Rattle.jav_scope.specs.declared.source.SourceUnit.{SourceUnit}
use Rattle.mol_resolve_rules.specs.FaultKinds.{FaultKind}
use Rattle.mol_resolve_rules.specs.FaultLists.{has_fault}
use Rattle.mol_resolve_rules.specs.Files.{class_name}
use Rattle.mol_resolve_members.specs.sources.Sources.{file_of, files_of}

-- ---- full names (JLS 6.7)

-- that of the class of a file
abbrev pub name_of : SourceUnit → Name
name_of source = class_name (file_of source)

-- the number of the first class that has one
abbrev pub first_named : List SourceUnit → Name → Option ℕ
first_named sources name = option_map (λ class. class.key) (class_named (classes_in sources) name)

-- ---- faults

-- a file with its number has a fault of this kind
abbrev pub fails : List SourceUnit → FaultKind → ℕ × SourceUnit → Bool
fails sources kind file = has_fault (files_of sources) (file.0, file_of file.1) kind

-- of each file whether it has one
abbrev pub failing : FaultKind → List SourceUnit → List Bool
failing kind sources = map (fails sources kind) (numbered sources)
