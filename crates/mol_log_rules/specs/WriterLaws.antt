-- Who wrote last, and what is left of it.
use Rattle.std.specs.Prelude.{◌≡◌, Bool, IsTrue, IsFalse, IsSome, Some, is_some}
use Rattle.mol_base.specs.declared.ident.Id.{Id}
use Rattle.mol_base.specs.declared.ident.Stamp.{Stamp}
use Rattle.mol_log_rules.specs.Histories.{History, after, last}
use Rattle.mol_log_rules.specs.Writers.{last_writer, writer, life_writer, same_cell, WritesLast}
use Rattle.mol_op.specs.Changes.{last_write}
use Rattle.mol_table_rules.specs.Life.{is_living_entity}
use Rattle.mol_table_rules.specs.Program.{Program}
use Rattle.mol_values_types.specs.declared.cell.Cell.{Cell}

pub record WritersLast : Type 0 where
  -- a cell has a last writer exactly where it has a last value
  pub written : (history : History) (at : Cell) → is_some (writer history at) ≡ is_some (last history at)
  -- the stamp is that of the last entry, by its place, that writes such a cell
  pub placed : (passes : Cell → Bool) (history : History) (stamp : Stamp) → last_writer passes history ≡ Some stamp
      → WritesLast passes history stamp
  -- and that one gives its cell the last value
  pub valued : (history : History) (at : Cell) (stamp : Stamp) (found : WritesLast (same_cell at) history stamp)
      → last_write found.entry.change.writes at ≡ last history at
  -- an entity that lives before and not behind has an entry that wrote last whether it lives
  pub gone : (base : Program) (history : History) (id : Id) → IsTrue (is_living_entity base id)
      → IsFalse (is_living_entity (after base history) id) → IsSome (life_writer (after base history) history id)
