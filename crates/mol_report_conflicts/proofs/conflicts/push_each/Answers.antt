use Rattle.std.proofs.Common.{◌∙◌, ◌++◌, ap}
use Rattle.std.specs.List.{flat_map}
use Rattle.std.proofs.lemmas.List.{take_all}
use Rattle.mol_report_conflicts.proofs.Appended.{appended-more}
use Rattle.mol_report_conflicts.specs.Conflicts.{conflict_line}
use Rattle.mol_report_conflicts.proofs.conflicts.push_each.Goals as goal

pub loop-conflict-preserved : goal.loop-conflict-preserved
loop-conflict-preserved c =
    appended-more (conflict_line c.args.labels.now) c.args.list.now c.loop-conflict.conflict-index c.conflict-item.result c.args.out.now.items c.loop-conflict.out.items _
    c.loop-conflict-test.true c.conflict-item.is c.loop-conflict.invariant c.in_ok-push_conflict.ensures

pub returns : goal.returns
returns c =
    c.loop-conflict.invariant ∙ ap (λ more. c.args.out.now.items ++ flat_map (conflict_line c.args.labels.now) more)
    (take_all c.loop-conflict.conflict-index c.args.list.now c.loop-conflict-test.false)
