use Rattle.mol_log_rows.proofs.rows_lemmas.RowLaws.{row_is, no_row}
use Rattle.mol_log_rows.proofs.rows.read.read_row.Goals as goal

pub returns-clause-is : goal.returns-clause-is
returns-clause-is c = row_is _ c.recorded.result c.recorded.ensures

pub returns-clause-none : goal.returns-clause-none
returns-clause-none c = no_row _ c.recorded.result c.recorded.ensures
