use Rattle.std.proofs.Common.{◌∙◌, ◌++◌, ap}
use Rattle.std.specs.List.{flat_map}
use Rattle.std.proofs.lemmas.List.{take_all}
use Rattle.mol_report_conflicts.proofs.Appended.{appended-more}
use Rattle.mol_report_conflicts.specs.Conflicts.{stamp_text}
use Rattle.mol_report_conflicts.proofs.pieces.push_each.Goals as goal

pub loop-stamp-preserved : goal.loop-stamp-preserved
loop-stamp-preserved c =
    appended-more stamp_text c.args.stamps.now c.loop-stamp.stamp-index c.stamp-item.result c.args.out.now.items c.loop-stamp.out.items _
    c.loop-stamp-test.true c.stamp-item.is c.loop-stamp.invariant c.in_ok-push_stamp.ensures

pub returns : goal.returns
returns c =
    c.loop-stamp.invariant ∙ ap (λ more. c.args.out.now.items ++ flat_map stamp_text more)
    (take_all c.loop-stamp.stamp-index c.args.stamps.now c.loop-stamp-test.false)
