use Rattle.std.proofs.Common.{◌∙◌, sym}
use Rattle.mol_conflict.proofs.Parts.{any-all, any-here, any-later}
use Rattle.mol_conflict.proofs.gone.is_any_gone.Goals as goal
use Rattle.mol_conflict.specs.Found.{is_gone}

pub loop-id-preserved : goal.loop-id-preserved
loop-id-preserved c =
    let gone = is_gone c.args.programs.now.base.now c.args.programs.now.gone.now c.args.programs.now.other.now in
    any-later gone c.args.ids.now c.loop-id.id-index c.id-item.result _ c.loop-id-test.true c.id-item.is
    (sym c.is_gone.ensures ∙ c.if-is_gone.false) c.loop-id.invariant

pub returns-then-is_gone : goal.returns-then-is_gone
returns-then-is_gone c =
    let gone = is_gone c.args.programs.now.base.now c.args.programs.now.gone.now c.args.programs.now.other.now in
    any-here gone c.args.ids.now c.loop-id.id-index c.id-item.result _ c.loop-id-test.true c.id-item.is
    (sym c.is_gone.ensures ∙ c.if-is_gone.true) c.loop-id.invariant

pub returns : goal.returns
returns c =
    let gone = is_gone c.args.programs.now.base.now c.args.programs.now.gone.now c.args.programs.now.other.now in
    any-all gone c.args.ids.now c.loop-id.id-index _ c.loop-id-test.false c.loop-id.invariant
