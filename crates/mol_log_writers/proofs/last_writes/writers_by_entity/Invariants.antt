use Rattle.std.proofs.Common.{drop}
use Rattle.mol_log_writers.specs.LastWriters.{is_in_entity}
use Rattle.mol_log_writers.proofs.Noting.{IsToIndex}
use Rattle.mol_log_writers.proofs.last_writes.writers_by_entity.Given as goal
use Rattle.mol_base.specs.Order.{id_cmp}

abbrev pub invariant-loop-entry : goal.invariant-loop-entry
invariant-loop-entry l = IsToIndex id_cmp is_in_entity l.entries (drop l.entry-index l.entries) l.index.entries
