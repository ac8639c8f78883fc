use Rattle.std.proofs.Common.{drop}
use Rattle.mol_log_rules.specs.Writers.{same_cell}
use Rattle.mol_log_writers.proofs.Noting.{IsToNote}
use Rattle.mol_log_writers.proofs.last_writes.note_cells.Given as goal
use Rattle.mol_values_types.specs.Order.{cell_cmp}

abbrev pub invariant-loop-at : goal.invariant-loop-at
invariant-loop-at l = IsToNote cell_cmp same_cell l.cells l.stamp l.initial.index.entries (drop l.at-index l.cells) l.index.entries
