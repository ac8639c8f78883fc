use Rattle.std.proofs.Common.{◌≡◌, ◌∙◌, ◌++◌, List, sym, ap}
use Rattle.std.proofs.lemmas.List.{take_all}
use Rattle.std.specs.List.{flat_map}
use Rattle.std.specs.Option.{option_to_list}
use Rattle.mol_base.specs.declared.ident.Stamp.{Stamp}
use Rattle.mol_log_rules.specs.Logs.{history}
use Rattle.mol_merge.proofs.Stamps.{flat-next, in-order-is, same-stamp, two-added}
use Rattle.mol_merge.proofs.bads.stamps_of.Goals as goal
use Rattle.mol_merge_rules.specs.Conflicts.{writers}
use Rattle.mol_values_types.specs.declared.cell.Cell.{Cell}

pub loop-at-preserved : goal.loop-at-preserved
loop-at-preserved c =
    let each : Cell → List Stamp = writers (history c.args.one.now) (history c.args.other.now) in
    two-added c.loop-at.stamps.items _ _ _ _ c.in_ok-add_some.ensures c.in_ok-add_some-2.ensures
    ∙ (λ i. c.loop-at.invariant i ++ (option_to_list (c.writer.ensures i) ++ option_to_list (c.writer-in-loop-at.ensures i)))
    ∙ sym (flat-next each c.args.cells.now c.loop-at.at-index c.at-item.result c.loop-at-test.true c.at-item.is)

pub in_order-requires : goal.in_order-requires
in_order-requires c = same-stamp

pub returns : goal.returns
returns c =
    let each : Cell → List Stamp = writers (history c.args.one.now) (history c.args.other.now) in
    c.from_vec.ensures
    ∙ in-order-is (flat_map each c.args.cells.now) c.loop-at.stamps.items c.in_order.result.items
    (c.loop-at.invariant ∙ ap (flat_map each) (take_all c.loop-at.at-index c.args.cells.now c.loop-at-test.false))
    c.in_order.ensures.ascending c.in_order.ensures.same
