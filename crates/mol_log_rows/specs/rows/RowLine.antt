-- A line of a log after the first: the row that it says, or its first fault. Nothing is asked of the words of a row.
use Rattle.std.specs.Prelude.{◌≡◌, ℕ, true, false, List, Ok, Err}
use Rattle.serde_json.specs.Data.{Data}
use Rattle.mol_base.specs.declared.ident.Stamp.{Stamp}
use Rattle.mol_log_rows.specs.lines.Lines.{Line, line_data}
use Rattle.mol_log_rows.specs.lines.Stamps.{may_follow}
use Rattle.mol_log_rows.specs.declared.lines.fault.LogFault.{LogFault}
use Rattle.mol_log_rows.specs.declared.lines.fault.LogFault.TheVariants.{BadOp, BadStamp}
use Rattle.mol_log_rows.specs.rows.RowData.{IsRow}
use Rattle.mol_log_rows.specs.declared.rows.row.Recorded.{Recorded}
use Rattle.mol_log_rows.specs.declared.rows.row.Row.{Row}

-- the line of this number says the row
pub record SaysRow (number : ℕ) (line : Line) (found : Recorded) : Type 0 where
  pub said : Data
  pub text : line_data number line ≡ Ok said
  pub is : IsRow said found.stamp found.row

-- why the line of this number says no row, the first of these that holds
pub data IsRowFault (number : ℕ) (line : Line) : LogFault → Type 0 where
  unread : {fault : LogFault} → line_data number line ≡ Err fault → IsRowFault number line fault
  no_row : {said : Data} → line_data number line ≡ Ok said → ((stamp : Stamp) (row : Row) → IsRow said stamp row → ⊥)
      → IsRowFault number line (BadOp number)

-- # A line after others, whose stamps are these, the latest one first

-- the line says a row that may follow them
pub record SaysNext (tags : List (List ℕ)) (earlier : List Stamp) (number : ℕ) (line : Line) (found : Recorded) : Type 0 where
  pub says : SaysRow number line found
  pub follows : may_follow tags earlier found.stamp ≡ true

-- why the line says no such row, the first of these that holds
pub data IsNextFault (tags : List (List ℕ)) (earlier : List Stamp) (number : ℕ) (line : Line) : LogFault → Type 0 where
  bad_line : {fault : LogFault} → IsRowFault number line fault → IsNextFault tags earlier number line fault
  no_follower : {found : Recorded} → SaysRow number line found → may_follow tags earlier found.stamp ≡ false
      → IsNextFault tags earlier number line (BadStamp number)
