use Rattle.std.proofs.Common.{◌≡◌, ◌+◌, ◌∷◌, ◌++◌, [], take, sum_by, sym, ◌∙◌, arith}
use Rattle.std.proofs.lemmas.List.FromFn.{map-range_with_len_more}
use Rattle.std.proofs.lemmas.List.Sums.{sum_by_more}
use Rattle.mol_resolve_members.specs.places.Counts.{members_at}
use Rattle.mol_resolve_members.proofs.places.places.counts_before.Goals as goal

pub loop-unit-preserved : goal.loop-unit-preserved
loop-unit-preserved c =
    let at = members_at c.args.sources.now in
    let order = c.args.order.now in
    let index = c.loop-unit.unit-index in
    let counted : c.in_ok-count.count ≡ sum_by at (take (index + 1) order) =
    c.in_ok-count.ensures.ok ∙ (λ i. c.loop-unit.invariant.counted i + c.in_ok-members.ensures i)
    ∙ sym (sum_by_more at order index 0 c.loop-unit-test.true) in
    record {
      counted = counted;
      listed = c.in_ok-push-2.ensures.items ∙ (λ i. c.loop-unit.invariant.listed i ++ counted i ∷ [])
          ∙ sym (map-range_with_len_more (λ place. sum_by at (take place order)) 0 (index + 1) (index + 1) (omega arith));
    }
