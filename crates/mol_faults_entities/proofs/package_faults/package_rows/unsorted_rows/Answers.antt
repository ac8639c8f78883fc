use Rattle.std.proofs.Common.{◌∙◌, ◌++◌, sym, ap, subst, filter_map}
use Rattle.std.specs.Option.{option_to_list}
use Rattle.std.proofs.lemmas.List.{take_all}
use Rattle.mol_faults_entities.specs.package_faults.Packages.{HasRows, living_row}
use Rattle.mol_faults_entities.proofs.package_faults_lemmas.PairsFound.{rows-made}
use Rattle.mol_faults_entities.proofs.package_faults_lemmas.RunsFound.{made-more}
use Rattle.mol_faults_entities.proofs.package_faults.package_rows.unsorted_rows.Goals as goal

pub loop-id-preserved : goal.loop-id-preserved
loop-id-preserved c =
    let make = living_row c.args.table.now in
    let ids = c.ids-id-items.result.now in
    let i = c.loop-id.id-index in
    let id = c.id-item.result in
    c.in_ok-add_row.ensures
    ∙ (λ k. c.loop-id.invariant k ++ ap option_to_list c.in_ok-row.ensures k)
    ∙ sym (made-more make ids i id c.loop-id-test.true c.id-item.is)

pub returns : goal.returns
returns c =
    let program = c.args.table.now in
    let ids = c.ids-id-items in
    subst (HasRows program)
    (sym (c.loop-id.invariant ∙ ap (filter_map (living_row program)) (take_all c.loop-id.id-index ids.result.now c.loop-id-test.false)))
    (rows-made program ids.result.now ids.ensures.known)
