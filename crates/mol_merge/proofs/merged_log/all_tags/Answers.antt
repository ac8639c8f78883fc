use Rattle.std.proofs.Common.{◌++◌, ◌∙◌, ap}
use Rattle.std.proofs.lemmas.Slice.Eq.{bytes_eq-Decides}
use Rattle.mol_merge.proofs.MergedParts.{tags-are}
use Rattle.mol_merge.proofs.merged_log.all_tags.Goals as goal

pub in_order-requires : goal.in_order-requires
in_order-requires c = λ first second same. (bytes_eq-Decides first second).0 same

pub returns : goal.returns
returns c =
    let all = c.in_ok-extend_from_slice.ensures.items ∙ ap (λ front. front ++ c.args.other.now) c.in_ok-tags.ensures.items in
    c.from_vec.ensures
    ∙ tags-are (c.args.one.now ++ c.args.other.now) c.extend_from_slice.new.self.items c.in_order.result.items all
    c.in_order.ensures.ascending c.in_order.ensures.same
