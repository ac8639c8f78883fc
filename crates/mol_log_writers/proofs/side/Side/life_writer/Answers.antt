use Rattle.std.proofs.Common.{◌∙◌}
use Rattle.mol_base.specs.Order.{id_cmp, id_cmp-total}
use Rattle.mol_log_writers.proofs.side.Side.life_writer.Goals as goal
use Rattle.mol_values_types.proofs.Lookups.{get_is}
use Rattle.mol_values_types.proofs.Ties.{id_ties}
use Rattle.mol_values_types.specs.Order.{id_eq}

pub returns : goal.returns
returns c =
    c.copied.ensures ∙ c.get.ensures.value
    ∙ get_is id_cmp id_eq id_ties id_cmp-total c.args.id.now c.args.self.now.by_life.entries
    ∙ c.args.self.now.are_last c.args.id.now
