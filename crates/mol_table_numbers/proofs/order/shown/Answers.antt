use Rattle.std.proofs.Common.{◌≡◌, ◌∙◌, sym, ap, option_copied, option_map}
use Rattle.std.specs.Prelude.{unwrap_or}
use Rattle.std.specs.FinMap.{get}
use Rattle.mol_base.specs.Order.{id_cmp, id_cmp-total}
use Rattle.mol_values_types.specs.Order.{id_eq}
use Rattle.mol_table_numbers.specs.Tops.{tops_of}
use Rattle.mol_table_numbers.specs.declared.tops.Top.{Top}
use Rattle.mol_values_types.proofs.Lookups.{get_is}
use Rattle.mol_values_types.proofs.Ties.{id_ties}
use Rattle.mol_table_numbers.proofs.order.shown.Goals as goal

pub returns-in-Some : goal.returns-in-Some
returns-in-Some c =
    let found : option_copied c.get.result ≡ get (tops_of c.args.tops.now.entries) c.args.method.now = c.get.ensures.value ∙ get_is id_cmp id_eq id_ties id_cmp-total c.args.method.now c.args.tops.now.entries in
    ap (λ o. unwrap_or (option_map (λ (top : Top). top.decl) o) c.args.method.now) (sym (ap option_copied c.in-Some.is) ∙ found)

pub returns-in-None : goal.returns-in-None
returns-in-None c =
    let found : option_copied c.get.result ≡ get (tops_of c.args.tops.now.entries) c.args.method.now = c.get.ensures.value ∙ get_is id_cmp id_eq id_ties id_cmp-total c.args.method.now c.args.tops.now.entries in
    ap (λ o. unwrap_or (option_map (λ (top : Top). top.decl) o) c.args.method.now) (sym (ap option_copied c.in-None.is) ∙ found)
