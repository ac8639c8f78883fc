use Rattle.std.proofs.Common.{◌∙◌, sym, ap, option_copied}
use Rattle.mol_base.specs.Order.{id_cmp, id_cmp-total}
use Rattle.mol_values_types.proofs.Lookups.{get_is}
use Rattle.mol_values_types.proofs.Ties.{id_ties}
use Rattle.mol_values_types.specs.Order.{id_eq}
use Rattle.mol_scope_members.specs.topmost.Highest.{is_below}
use Rattle.mol_scope_members.proofs.topmost.unordered.is_under.Goals as goal

pub returns-in-Some : goal.returns-in-Some
returns-in-Some c =
    let found = c.get.ensures.value ∙ get_is id_cmp id_eq id_ties id_cmp-total c.args.method.now c.args.tops.now.entries in
    c.is_over.ensures ∙ ap (is_below c.args.table.now c.args.decl.now) (sym (ap option_copied c.in-Some.is) ∙ found)

pub returns-in-None : goal.returns-in-None
returns-in-None c =
    let found = c.get.ensures.value ∙ get_is id_cmp id_eq id_ties id_cmp-total c.args.method.now c.args.tops.now.entries in
    ap (is_below c.args.table.now c.args.decl.now) (sym (ap option_copied c.in-None.is) ∙ found)
