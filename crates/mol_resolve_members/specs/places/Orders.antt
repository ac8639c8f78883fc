-- The order of source files by their paths, and the places of numbers in an order of them.
use Rattle.std.specs.Prelude.{ℕ, ◌==◌, List, [], map, length, slice_get}
use Rattle.std.specs.List.{position_or_len}
use Rattle.std.specs.Option.{option_map_or}
use Rattle.jav_names.specs.DottedNames.{Name}
use Rattle.jav_names.specs.UnitViews.{numbered}
use Rattle.jav_scope.specs.declared.source.SourceUnit.{SourceUnit}
use Rattle.mol_resolve_rules.specs.Files.{File}
use Rattle.mol_resolve_rules.specs.Numbering.{below, by_path}
use Rattle.mol_resolve_members.specs.sources.Sources.{files_of}

-- the path of the file of a number
abbrev pub path_at : List SourceUnit → ℕ → Name
path_at sources number = option_map_or (λ (source : SourceUnit). source.path) (slice_get sources number) []

-- the numbers of files in the order of their paths
abbrev pub numbers_by_path : List SourceUnit → List ℕ
numbers_by_path sources = map (λ (file : ℕ × File). file.0) (by_path (numbered (files_of sources)))

-- where a number stands first
abbrev pub position : List ℕ → ℕ → ℕ
position order number = position_or_len (λ unit. number == unit) order

-- of each number below the length
abbrev pub positions : List ℕ → List ℕ
positions order = map (position order) (below (length order))
