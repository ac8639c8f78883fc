use Rattle.std.proofs.Common.{List, subst}
use Rattle.mol_base.specs.Order.{id_cmp}
use Rattle.mol_log.specs.declared.entries.entry.Entry.{Entry}
use Rattle.mol_log_rules.specs.Logs.{history_of}
use Rattle.mol_log_rules.specs.Writers.{same_cell}
use Rattle.mol_log_writers.proofs.last_writes.LastWrites.of.Goals as goal
use Rattle.mol_log_writers.specs.LastWriters.{AreLastWriters, is_in_entity}
use Rattle.mol_values_types.specs.Order.{cell_cmp}

pub invariant_of-result : goal.invariant_of-result
invariant_of-result c = (
  subst (λ (entries : List Entry). AreLastWriters cell_cmp same_cell (history_of entries) c.in_ok-by_cell.by_cell.entries)
      c.items-entries.ensures c.in_ok-by_cell.ensures,
  subst (λ (entries : List Entry). AreLastWriters id_cmp is_in_entity (history_of entries) c.in_ok-by_entity.by_entity.entries)
      c.items-entries.ensures c.in_ok-by_entity.ensures,
)
