-- Who wrote last, by the place in a history: a log that a merge made has later stamps before earlier ones.
use Rattle.std.specs.List.{list_any}
use Rattle.std.specs.Option.{option_or}
use Rattle.std.specs.Ordering.{eq_by_cmp}
use Rattle.std.specs.Prelude.{◌≡◌, Bool, [], ◌∷◌, ◌++◌, Option, None, Some, if◌then◌else◌, IsTrue}
use Rattle.mol_base.specs.declared.ident.Id.{Id}
use Rattle.mol_base.specs.declared.ident.Stamp.{Stamp}
use Rattle.mol_log_rules.specs.Histories.{Stamped, History}
use Rattle.mol_log_rules.specs.Living.{is_life_cell}
use Rattle.mol_op.specs.Changes.{Write}
use Rattle.mol_op.specs.Entries.{Change}
use Rattle.mol_table_rules.specs.Program.{Program, same_id}
use Rattle.mol_values_types.specs.Order.{cell_cmp}
use Rattle.mol_values_types.specs.declared.cell.Cell.{Cell}

-- whether a change writes a cell that passes
abbrev pub writes_some : (Cell → Bool) → Change → Bool
writes_some passes change = list_any (λ (write : Write). passes write.0) change.writes

-- the stamp of the last entry that writes a cell that passes
abbrev pub last_writer : (Cell → Bool) → History → Option Stamp
last_writer passes [] = None
last_writer passes (entry ∷ history) =
    option_or (last_writer passes history) (if writes_some passes entry.change then Some entry.stamp else None)

abbrev pub same_cell : Cell → Cell → Bool
same_cell = eq_by_cmp cell_cmp

-- of the entry that wrote this cell last
abbrev pub writer : History → Cell → Option Stamp
writer history at = last_writer (same_cell at) history

-- of the one that wrote any cell of an entity last
abbrev pub entity_writer : History → Id → Option Stamp
entity_writer history id = last_writer (λ at. same_id id at.id) history

-- of the one that wrote last whether an entity lives, by the declarations that the program knows
abbrev pub life_writer : Program → History → Id → Option Stamp
life_writer program history id = last_writer (is_life_cell program id) history

-- an entry settles the cells that it wrote last
abbrev pub Settles : History → Stamp → Cell → Type 0
Settles history stamp at = writer history at ≡ Some stamp

-- it settles some cell
abbrev pub IsCondensed : History → Stamp → Type 0
IsCondensed history stamp = (at : Cell) × Settles history stamp at

-- The last writer by its place: an entry with this stamp writes a cell that passes, and none behind it does.
pub record WritesLast (passes : Cell → Bool) (history : History) (stamp : Stamp) : Type 0 where
  pub front : History
  pub entry : Stamped
  pub back : History
  pub place : history ≡ front ++ entry ∷ back
  pub stamped : entry.stamp ≡ stamp
  pub writes : IsTrue (writes_some passes entry.change)
  pub none_behind : last_writer passes back ≡ None
