use Rattle.std.proofs.Common.{drop}
use Rattle.mol_base.specs.Order.{id_cmp}
use Rattle.mol_log_rules.specs.Living.{is_life_cell}
use Rattle.mol_log_writers.proofs.Noting.{IsToIndex}
use Rattle.mol_log_writers.proofs.side.writers_of_life.Given as goal

abbrev pub invariant-loop-entry : goal.invariant-loop-entry
invariant-loop-entry l = IsToIndex id_cmp (is_life_cell l.left) l.entries (drop l.entry-index l.entries) l.index.entries
