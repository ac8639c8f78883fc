-- Entries and the rows that spell them.
use Rattle.std.specs.Prelude.{◌≡◌}
use Rattle.mol_log_rows.specs.declared.rows.row.Recorded.{Recorded}
use Rattle.mol_log.specs.entries.RowsOf.{row_of}
use Rattle.mol_log.specs.entries.Spelling.{Spells}
use Rattle.mol_log.specs.declared.entries.entry.Entry.{Entry}

-- the row with its stamp spells the entry
pub record SpellsEntry (recorded : Recorded) (entry : Entry) : Type 0 where
  pub stamp : entry.stamp ≡ recorded.stamp
  pub op : Spells recorded.row entry.op

-- the row that is written for an entry
abbrev pub recorded_of : Entry → Recorded
recorded_of entry = record { stamp = entry.stamp; row = row_of entry.op }
