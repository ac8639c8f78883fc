use Rattle.std.proofs.Common.{◌∙◌, ap}
use Rattle.std.specs.Prelude.{unwrap_or}
use Rattle.mol_base.specs.Order.{id_cmp, id_cmp-total}
use Rattle.mol_values_types.proofs.Lookups.{get_is}
use Rattle.mol_values_types.specs.Order.{id_eq}
use Rattle.mol_values_types.proofs.Ties.{id_ties}
use Rattle.mol_table.proofs.maps.Maps.number.Goals as goal

pub returns : goal.returns
returns c = c.unwrap_or.ensures ∙ ap (λ o. unwrap_or o 0) (c.copied.ensures ∙ c.get.ensures.value ∙ get_is id_cmp id_eq id_ties id_cmp-total c.args.method.now c.args.self.now.living.entries)
