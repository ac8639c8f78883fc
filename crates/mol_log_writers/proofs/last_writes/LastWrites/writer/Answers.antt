use Rattle.std.proofs.Common.{◌∙◌, ap}
use Rattle.mol_log.specs.declared.log.Log.{Log}
use Rattle.mol_log_rules.specs.Logs.{history}
use Rattle.mol_log_rules.specs.Writers.{writer}
use Rattle.mol_log_writers.proofs.last_writes.LastWrites.writer.Goals as goal
use Rattle.mol_table_rules.proofs.CellOrder.{cell_cmp-total}
use Rattle.mol_values_types.proofs.Lookups.{get_is}
use Rattle.mol_values_types.proofs.Ties.{cell_eq, cell_ties}
use Rattle.mol_values_types.specs.Order.{cell_cmp}

pub returns : goal.returns
returns c =
    let at = c.args.at.now in
    c.copied.ensures ∙ c.get.ensures.value ∙ get_is cell_cmp cell_eq cell_ties cell_cmp-total at c.self.inside.by_cell.entries
    ∙ c.self.invariant.0 at ∙ ap (λ (log : Log). writer (history log) at) c.self.view_is
