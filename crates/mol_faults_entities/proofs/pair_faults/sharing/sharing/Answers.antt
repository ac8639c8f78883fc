use Rattle.std.proofs.Common.{◌++◌, ◌+◌, ◌∙◌, ap}
use Rattle.std.proofs.lemmas.List.{take_rest}
use Rattle.mol_faults_entities.specs.pair_faults.Sharing.{shared_with}
use Rattle.mol_faults_entities.proofs.pair_faults_lemmas.SharedPairs.{shared-more}
use Rattle.mol_faults_entities.proofs.pair_faults.sharing.sharing.Goals as goal

pub loop-place-preserved : goal.loop-place-preserved
loop-place-preserved c =
    let row = c.index-rows-place.result in
    let now = c.loop-place.pairs.items in
    shared-more c.args.rows.now c.loop-place.place row c.loop-place-test.true c.index-rows-place.is now _ c.loop-place.invariant
    (c.in_ok-add_sharing.ensures ∙ ap (λ later. now ++ shared_with row later) (take_rest c.args.rows.now (c.loop-place.place + 1)))
