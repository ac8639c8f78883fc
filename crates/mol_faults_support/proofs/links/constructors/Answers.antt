use Rattle.std.proofs.Common.{◌∙◌, ◌++◌, sym, ap, filter_map}
use Rattle.std.specs.Option.{option_to_list}
use Rattle.std.proofs.lemmas.List.{take_all}
use Rattle.mol_scope_classes.proofs.classes_lemmas.KnownIds.{made-more}
use Rattle.mol_faults_support.specs.Links.{constructor_link}
use Rattle.mol_faults_support.proofs.Linked.{all-constructed}
use Rattle.mol_faults_support.proofs.links.constructors.Goals as goal

pub loop-id-preserved : goal.loop-id-preserved
loop-id-preserved c =
    let make = constructor_link c.args.table.now in
    let ids = c.ids-id-items.result.now in
    c.in_ok-add_some.ensures
    ∙ (λ k. c.loop-id.invariant k ++ ap option_to_list c.constructor_link.ensures k)
    ∙ sym (made-more make ids c.loop-id.id-index c.id-item.result c.loop-id-test.true c.id-item.is)

pub returns : goal.returns
returns c =
    let program = c.args.table.now in
    let ids = c.ids-id-items in
    all-constructed program ids.result.now ids.ensures.known c.loop-id.links.items
    (c.loop-id.invariant ∙ ap (filter_map (constructor_link program)) (take_all c.loop-id.id-index ids.result.now c.loop-id-test.false))
