use Rattle.std.proofs.Common.{◌≡◌, ◌∙◌, sym, ap, option_copied}
use Rattle.std.specs.FinMap.{get}
use Rattle.mol_base.specs.Order.{id_cmp, id_cmp-total}
use Rattle.mol_values_types.specs.Order.{id_eq}
use Rattle.mol_values.specs.Renaming.{names_of, number_of}
use Rattle.mol_values_types.proofs.Lookups.{get_is}
use Rattle.mol_values_types.proofs.Ties.{id_ties}
use Rattle.mol_table_numbers.proofs.order.number_of.Goals as goal

pub returns-in-Some : goal.returns-in-Some
returns-in-Some c =
    let found : option_copied c.get.result ≡ get (names_of c.args.names.now.entries) c.args.id.now = c.get.ensures.value ∙ get_is id_cmp id_eq id_ties id_cmp-total c.args.id.now c.args.names.now.entries in
    ap number_of (sym (ap option_copied c.in-Some.is) ∙ found)

pub returns-in-None : goal.returns-in-None
returns-in-None c =
    let found : option_copied c.get.result ≡ get (names_of c.args.names.now.entries) c.args.id.now = c.get.ensures.value ∙ get_is id_cmp id_eq id_ties id_cmp-total c.args.id.now c.args.names.now.entries in
    ap number_of (sym (ap option_copied c.in-None.is) ∙ found)
