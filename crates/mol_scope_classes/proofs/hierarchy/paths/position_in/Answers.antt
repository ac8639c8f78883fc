use Rattle.std.proofs.Common.{◌≡◌, ◌∙◌, Some, None, sym, ap, option_copied}
use Rattle.std.specs.FinMap.{get, from_entries}
use Rattle.std.specs.Option.{option_map_or}
use Rattle.mol_base.specs.Order.{id_cmp, id_cmp-total}
use Rattle.mol_base.specs.declared.ident.Id.{Id}
use Rattle.mol_values_types.proofs.Lookups.{get_is}
use Rattle.mol_values_types.proofs.Ties.{id_ties}
use Rattle.mol_values_types.specs.Order.{id_eq}
use Rattle.mol_scope_classes.specs.hierarchy.Paths.{place_on}
use Rattle.mol_scope_classes.specs.declared.hierarchy.position.Position.{Position}
use Rattle.mol_scope_classes.proofs.hierarchy.paths.position_in.Goals as goal

pub returns-in-Some : goal.returns-in-Some
returns-in-Some c =
    let positions = c.args.positions.now.entries in
    let class : Id = c.args.class.now in
    let is : get (from_entries {R = id_cmp} positions) class ≡ Some c.in-Some.position.now =
    sym (c.get.ensures.value ∙ get_is id_cmp id_eq id_ties id_cmp-total class positions) ∙ ap option_copied c.in-Some.is in
    sym (ap (λ found. option_map_or (λ (position : Position). position) found (place_on class 0)) is)

pub returns-in-None : goal.returns-in-None
returns-in-None c =
    let positions = c.args.positions.now.entries in
    let class : Id = c.args.class.now in
    let none : get (from_entries {R = id_cmp} positions) class ≡ None =
    sym (c.get.ensures.value ∙ get_is id_cmp id_eq id_ties id_cmp-total class positions) ∙ ap option_copied c.in-None.is in
    sym (ap (λ found. option_map_or (λ (position : Position). position) found (place_on class 0)) none)
