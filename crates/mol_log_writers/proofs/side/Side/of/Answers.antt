use Rattle.std.proofs.Common.{List, subst}
use Rattle.mol_base.specs.Order.{id_cmp}
use Rattle.mol_log.specs.declared.entries.entry.Entry.{Entry}
use Rattle.mol_log_rules.specs.Living.{is_life_cell}
use Rattle.mol_log_rules.specs.Logs.{history_of}
use Rattle.mol_log_writers.proofs.side.Side.of.Goals as goal
use Rattle.mol_log_writers.specs.LastWriters.{AreLastWriters}

pub invariant_of-result : goal.invariant_of-result
invariant_of-result c = record {
  are_last = subst
      (λ (entries : List Entry). AreLastWriters id_cmp (is_life_cell c.args.left.now) (history_of entries) c.in_ok-by_life.by_life.entries)
      c.entries.ensures c.in_ok-by_life.ensures;
}
