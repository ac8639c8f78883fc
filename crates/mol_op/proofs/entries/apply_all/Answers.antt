use Rattle.mol_op.proofs.Leaves.{next-applied, stopped-at, all-applied}
use Rattle.mol_op.proofs.entries.apply_all.Goals as goal

pub loop-at-preserved : goal.loop-at-preserved
loop-at-preserved g c =
    next-applied c.args.entries.now _ c.loop-at.at c.index-entries-at.result c.args.table.now c.loop-at.table c.apply.new.table
    c.loop-at-test.true c.index-entries-at.is c.loop-at.invariant c.in_default.ensures.fits c.in_default.ensures.ok

pub returns-in-Err : goal.returns-in-Err
returns-in-Err g c =
    stopped-at c.args.entries.now _ c.loop-at.at c.index-entries-at.result c.args.table.now c.loop-at.table c.apply.new.table c.in-Err.why
    c.loop-at-test.true c.index-entries-at.is c.loop-at.invariant c.in-Err.ensures.cause c.in-Err.ensures.err

pub returns : goal.returns
returns g c = all-applied c.args.entries.now _ c.loop-at.at c.args.table.now c.loop-at.table c.loop-at-test.false c.loop-at.invariant
