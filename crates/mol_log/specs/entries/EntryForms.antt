-- Which entries there may be.
use Rattle.std.specs.Prelude.{◌≡◌, true}
use Rattle.mol_base.specs.Spelled.{is_stamp}
use Rattle.mol_base.specs.declared.ident.Stamp.{Stamp}
use Rattle.mol_op.specs.declared.op.Op.{Op}
use Rattle.mol_log_rows.specs.rows.RowForms.{is_row}
use Rattle.mol_log.specs.entries.RowsOf.{row_of}
use Rattle.mol_log.specs.entries.Spelling.{Spells}

-- The stamp, the identities, the names and the texts have their forms, and the trees are within the limits: their own words spell
-- them. So there is a line of a log that says the entry.
pub record IsEntry (stamp : Stamp) (op : Op) : Type 0 where
  pub stamped : is_stamp stamp ≡ true
  pub formed : is_row (row_of op) ≡ true
  pub trees : Spells (row_of op) op
