use Rattle.std.proofs.Common.{◌∙◌, sym}
use Rattle.mol_base.specs.Order.{id_cmp, id_cmp-total, id_cmp-IsAntisymmetric}
use Rattle.mol_values_types.proofs.Lookups.{get_is}
use Rattle.mol_values_types.specs.Order.{id_eq}
use Rattle.mol_values_types.proofs.Ties.{id_ties}
use Rattle.mol_table.proofs.EntryFound.{entry-found}
use Rattle.mol_table.proofs.maps.Maps.find.Goals as goal

pub returns-then-eq : goal.returns-then-eq
returns-then-eq c =
    entry-found id_cmp id_eq id_ties id_cmp-total id_cmp-IsAntisymmetric c.args.self.now.known.entries c.in-Some.at.now c.args.id.now c.in-Some.what.now
    c.in-Some.ensures.value (sym c.eq.ensures ∙ c.if-eq.true)

pub returns : goal.returns
returns c = c.copied.ensures ∙ c.get.ensures.value ∙ get_is id_cmp id_eq id_ties id_cmp-total c.args.id.now c.args.self.now.known.entries
