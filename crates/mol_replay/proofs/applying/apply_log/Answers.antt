use Rattle.std.proofs.Common.{subst}
use Rattle.mol_log_rules.specs.Logs.{change_of}
use Rattle.mol_op.proofs.Leaves.{next-applied}
use Rattle.mol_op.specs.Operation.{IsCause}
use Rattle.mol_replay.proofs.AllApplied.{all-entries, refused-entry}
use Rattle.mol_replay.proofs.applying.apply_log.Goals as goal

pub loop-entry-preserved : goal.loop-entry-preserved
loop-entry-preserved c =
    next-applied c.items-entry-items.result.now change_of c.loop-entry.entry-index c.entry-item.result c.args.table.now c.loop-entry.table
    c.apply.new.table c.loop-entry-test.true c.entry-item.is c.loop-entry.invariant c.in-Ok.ensures.fits c.in-Ok.ensures.ok

pub returns-in-Err-Refused-clause-refused : goal.returns-in-Err-Refused-clause-refused
returns-in-Err-Refused-clause-refused c =
    rw c.in-Err-Refused.field-0-is (
    refused-entry c.args.log.now.entries c.items-entry-items.result.now c.loop-entry.entry-index c.entry-item.result c.args.table.now
    c.loop-entry.table c.in-Err-Refused.why c.items-entry-items.ensures c.loop-entry-test.true c.entry-item.is c.loop-entry.invariant
    (subst (IsCause ((change_of c.entry-item.result).fault c.loop-entry.table.known)) c.in-Err-Refused.field-0-is
    c.in-Err-Refused.ensures.cause)
    )

pub returns-clause-applies : goal.returns-clause-applies
returns-clause-applies c = (all-entries c.args.log.now.entries c.items-entry-items.result.now c.loop-entry.entry-index c.args.table.now
    c.loop-entry.table c.items-entry-items.ensures c.loop-entry-test.false c.loop-entry.invariant).0

pub returns-clause-left : goal.returns-clause-left
returns-clause-left c = (all-entries c.args.log.now.entries c.items-entry-items.result.now c.loop-entry.entry-index c.args.table.now
    c.loop-entry.table c.items-entry-items.ensures c.loop-entry-test.false c.loop-entry.invariant).1
