-- The maps that a table keeps, as the program that they stand for.
use Rattle.std.specs.Prelude.{◌≡◌, ℕ, List, ◌++◌, map}
use Rattle.std.specs.List.Sorted.{IsSorted}
use Rattle.std.specs.FinMap.{from_entries}
use Rattle.indexmap.specs.IndexMap.{keys}
use Rattle.mol_base.specs.Order.{id_cmp}
use Rattle.mol_base.specs.declared.ident.Id.{Id}
use Rattle.mol_table_rules.specs.Counting.{Counts, Counted}
use Rattle.mol_table_rules.specs.Program.{Program, Cells, Knowns}
use Rattle.mol_table_rules.specs.Rules.{IsProgram}
use Rattle.mol_values_types.specs.declared.cell.Cell.{Cell}
use Rattle.mol_values_types.specs.declared.known.Known.{Known}
use Rattle.mol_table.specs.declared.maps.Maps.{Maps}
use Rattle.mol_values_types.specs.declared.value.Value.{Value}

abbrev pub cells_of : List (Cell × Value) → Cells
cells_of entries = from_entries entries

abbrev pub knowns_of : List (Id × Known) → Knowns
knowns_of entries = from_entries entries

abbrev pub counts_of : List (Id × ℕ) → Counts
counts_of entries = from_entries entries

abbrev pub program_in : Maps → Program
program_in maps = record { cells = cells_of maps.cells.entries; known = knowns_of maps.known.entries }

abbrev pub counts_in : Maps → Counts
counts_in maps = counts_of maps.living.entries

-- what is known stands in order
abbrev pub IsOrdered : Maps → Type 0
IsOrdered maps = IsSorted id_cmp (keys maps.known)

-- the identities of entries stand in order
abbrev pub AreOrdered : List (Id × Known) → Type 0
AreOrdered entries = IsSorted id_cmp (map (λ entry. entry.0) entries)

-- these identities were known first, in this order
abbrev pub StartsWith : List Id → List (Id × Known) → Type 0
StartsWith ids entries = (more : List Id) × (map (λ entry. entry.0) entries ≡ ids ++ more)

-- the maps of a table: the rules of programs hold, and the counts are those of the program
pub record Stands (maps : Maps) : Type 0 where
  pub rules : IsProgram (program_in maps)
  pub counted : Counted (program_in maps) (counts_in maps)
  pub ordered : IsOrdered maps
