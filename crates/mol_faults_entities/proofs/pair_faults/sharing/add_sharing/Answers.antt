use Rattle.std.proofs.Common.{◌++◌, ◌∙◌, sym, ap}
use Rattle.std.specs.Option.{option_to_list}
use Rattle.std.specs.Ordering.{is_eq}
use Rattle.mol_faults_entities.specs.pair_faults.Addresses.{location_cmp}
use Rattle.mol_faults_entities.specs.pair_faults.Pairs.{ordered_pair}
use Rattle.mol_faults_entities.specs.declared.pair_faults.addressed.Addressed.{Addressed}
use Rattle.mol_faults_entities.proofs.pair_faults_lemmas.Fronts.{taken-more}
use Rattle.mol_faults_entities.proofs.pair_faults.sharing.add_sharing.Goals as goal

pub loop-next-preserved : goal.loop-next-preserved
loop-next-preserved c =
    let row = c.args.row.now in
    let now = c.loop-next.pairs.items in
    taken-more (λ (next : Addressed). is_eq (location_cmp row next)) (λ (next : Addressed). ordered_pair row.id next.id) c.args.later.now
    c.loop-next.next-index c.next-item.result c.loop-next-test.true c.next-item.is c.args.pairs.now.items now c.loop-next.invariant
    (sym c.share.ensures ∙ c.if-not-share.false) _ (c.in_ok-add_pair.ensures ∙ ap (λ o. now ++ option_to_list o) c.ordered.ensures)
