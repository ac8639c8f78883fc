use Rattle.std.proofs.Common.{subst}
use Rattle.mol_report.proofs.IdLines.{lines-all, lines-more}
use Rattle.mol_report.proofs.ids.push_lines.Goals as goal
use Rattle.mol_table_rules.specs.Identities.{AreKnown}
use Rattle.mol_table_rules.specs.Program.{Program}

pub loop-id-preserved : goal.loop-id-preserved
loop-id-preserved c =
    lines-more c.args.labels.now c.ids-id-items.result.now c.loop-id.id-index c.id-item.result c.args.out.now.items c.loop-id.out.items _
    c.loop-id-test.true c.id-item.is c.loop-id.invariant c.in_ok-push_line.ensures

pub returns : goal.returns
returns c =
    let ids = c.ids-id-items in
    let known = subst (λ (base : Program). AreKnown base ids.result.now) c.base.ensures ids.ensures.known in
    lines-all c.args.labels.now ids.result.now c.loop-id.id-index c.args.out.now.items c.loop-id.out.items ids.ensures.ascending known
    c.loop-id-test.false c.loop-id.invariant
