use Rattle.std.proofs.Common.{drop}
use Rattle.mol_base.specs.Order.{id_cmp}
use Rattle.mol_log_writers.proofs.Noting.{IsToNote}
use Rattle.mol_log_writers.proofs.last_writes.note_entities.Given as goal
use Rattle.mol_log_writers.specs.LastWriters.{is_in_entity}

abbrev pub invariant-loop-at : goal.invariant-loop-at
invariant-loop-at l = IsToNote id_cmp is_in_entity l.cells l.stamp l.initial.index.entries (drop l.at-index l.cells) l.index.entries
