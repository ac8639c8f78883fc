use Rattle.std.proofs.Common.{◌≡◌, ◌∙◌, None, sym, ap, option_copied}
use Rattle.mol_base.specs.Order.{id_cmp, id_cmp-total}
use Rattle.mol_base.specs.declared.ident.Id.{Id}
use Rattle.mol_table_rules.specs.Ancestors.{is_on_way}
use Rattle.mol_table_rules.specs.Program.{Program}
use Rattle.mol_values_types.proofs.Lookups.{get_is}
use Rattle.mol_values_types.proofs.Ties.{id_ties}
use Rattle.mol_values_types.specs.Order.{id_eq}
use Rattle.mol_scope_classes.specs.hierarchy.Placed.{number_in}
use Rattle.mol_scope_classes.proofs.hierarchy_lemmas.Asked.{alone-asked, placed-asked, unplaced-asked}
use Rattle.mol_scope_classes.proofs.hierarchy.hierarchy.Hierarchy.is_on_way.Goals as goal

pub returns-in_default : goal.returns-in_default
returns-in_default c =
    let numbers = c.self.inside.forest.numbers.entries in
    let class : Id = c.args.class.now in
    let above : Id = c.args.above.now in
    let none : number_in numbers class ≡ None =
    sym (c.get.ensures.value ∙ get_is id_cmp id_eq id_ties id_cmp-total class numbers) ∙ ap option_copied c.in_default.is in
    c.eq.ensures
    ∙ alone-asked c.self.inside.table.now numbers c.self.inside.forest.places.items c.self.invariant class above none
    ∙ ap (λ (program : Program). is_on_way program class above) c.self.view_is

pub is_up-requires-clause-within : goal.is_up-requires-clause-within
is_up-requires-clause-within c =
    let numbers = c.self.inside.forest.numbers.entries in
    let class : Id = c.args.class.now in
    c.self.invariant.placed.within class c.in-Some.from.now
    (sym (c.get.ensures.value ∙ get_is id_cmp id_eq id_ties id_cmp-total class numbers) ∙ ap option_copied c.in-Some.is)

pub returns-in-Some-get : goal.returns-in-Some-get
returns-in-Some-get c =
    let numbers = c.self.inside.forest.numbers.entries in
    let class : Id = c.args.class.now in
    let above : Id = c.args.above.now in
    placed-asked c.self.inside.table.now numbers c.self.inside.forest.places.items c.self.invariant class above c.in-Some.from.now
    c.in-Some-get.to.now c.is_up.result
    (sym (c.get.ensures.value ∙ get_is id_cmp id_eq id_ties id_cmp-total class numbers) ∙ ap option_copied c.in-Some.is)
    (sym (c.get-2.ensures.value ∙ get_is id_cmp id_eq id_ties id_cmp-total above numbers) ∙ ap option_copied c.in-Some-get.is)
    c.is_up.ensures
    ∙ ap (λ (program : Program). is_on_way program class above) c.self.view_is

pub returns-in-None : goal.returns-in-None
returns-in-None c =
    let numbers = c.self.inside.forest.numbers.entries in
    let class : Id = c.args.class.now in
    let above : Id = c.args.above.now in
    unplaced-asked c.self.inside.table.now numbers c.self.inside.forest.places.items c.self.invariant class above c.in-Some.from.now
    (sym (c.get.ensures.value ∙ get_is id_cmp id_eq id_ties id_cmp-total class numbers) ∙ ap option_copied c.in-Some.is)
    (sym (c.get-2.ensures.value ∙ get_is id_cmp id_eq id_ties id_cmp-total above numbers) ∙ ap option_copied c.in-None.is)
    ∙ ap (λ (program : Program). is_on_way program class above) c.self.view_is
