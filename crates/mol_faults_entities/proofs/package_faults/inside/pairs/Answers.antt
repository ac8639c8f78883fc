use Rattle.std.proofs.Common.{◌∙◌, ◌++◌, sym, ap, subst, flat_map}
use Rattle.std.proofs.lemmas.List.{take_all}
use Rattle.mol_faults_entities.specs.package_faults.Pairs.{HasPairs, pairs_at}
use Rattle.mol_faults_entities.proofs.package_faults_lemmas.PairsFound.{pairs-made, listed-more}
use Rattle.mol_faults_entities.proofs.package_faults.inside.pairs.Goals as goal

pub loop-id-preserved : goal.loop-id-preserved
loop-id-preserved c =
    let make = pairs_at c.args.table.now c.args.rows.now in
    let ids = c.ids-id-items.result.now in
    let i = c.loop-id.id-index in
    let id = c.id-item.result in
    c.in_ok-add_pairs.ensures ∙ ap (λ pairs. pairs ++ make id) c.loop-id.invariant
    ∙ sym (listed-more make ids i id c.loop-id-test.true c.id-item.is)

pub returns : goal.returns
returns c =
    let program = c.args.table.now in
    let ids = c.ids-id-items in
    subst (HasPairs program)
    (sym (c.loop-id.invariant ∙ ap (flat_map (pairs_at program c.args.rows.now))
    (take_all c.loop-id.id-index ids.result.now c.loop-id-test.false)))
    (pairs-made program ids.result.now ids.ensures.known c.args.rows.now c.requires.rows)
