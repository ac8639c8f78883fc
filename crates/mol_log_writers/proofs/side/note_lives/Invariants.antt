use Rattle.std.proofs.Common.{drop}
use Rattle.mol_base.specs.Order.{id_cmp}
use Rattle.mol_log_rules.specs.Living.{is_life_cell}
use Rattle.mol_log_writers.proofs.Noting.{IsToNote}
use Rattle.mol_log_writers.proofs.side.note_lives.Given as goal

abbrev pub invariant-loop-at : goal.invariant-loop-at
invariant-loop-at l =
    IsToNote id_cmp (is_life_cell l.left) l.cells l.stamp l.initial.index.entries (drop l.at-index l.cells) l.index.entries
