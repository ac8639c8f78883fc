use Rattle.std.proofs.Common.{drop}
use Rattle.mol_log_rules.specs.Writers.{same_cell}
use Rattle.mol_log_writers.proofs.Noting.{IsToIndex}
use Rattle.mol_log_writers.proofs.last_writes.writers_by_cell.Given as goal
use Rattle.mol_values_types.specs.Order.{cell_cmp}

abbrev pub invariant-loop-entry : goal.invariant-loop-entry
invariant-loop-entry l = IsToIndex cell_cmp same_cell l.entries (drop l.entry-index l.entries) l.index.entries
