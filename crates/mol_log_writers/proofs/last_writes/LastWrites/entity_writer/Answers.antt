use Rattle.std.proofs.Common.{◌∙◌, ap}
use Rattle.mol_base.specs.Order.{id_cmp, id_cmp-total}
use Rattle.mol_log.specs.declared.log.Log.{Log}
use Rattle.mol_log_rules.specs.Logs.{history}
use Rattle.mol_log_rules.specs.Writers.{entity_writer}
use Rattle.mol_log_writers.proofs.last_writes.LastWrites.entity_writer.Goals as goal
use Rattle.mol_values_types.proofs.Lookups.{get_is}
use Rattle.mol_values_types.proofs.Ties.{id_ties}
use Rattle.mol_values_types.specs.Order.{id_eq}

pub returns : goal.returns
returns c =
    let id = c.args.id.now in
    c.copied.ensures ∙ c.get.ensures.value ∙ get_is id_cmp id_eq id_ties id_cmp-total id c.self.inside.by_entity.entries
    ∙ c.self.invariant.1 id ∙ ap (λ (log : Log). entity_writer (history log) id) c.self.view_is
