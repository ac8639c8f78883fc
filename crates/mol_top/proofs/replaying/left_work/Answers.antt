use Rattle.mol_top.proofs.ReadLogs.{said_carries}
use Rattle.mol_top.proofs.ReplayedLogs.{large_refused}
use Rattle.mol_top.proofs.replaying.left_work.Goals as goal
use Rattle.mol_top.specs.Carried.{NoPath}

pub returns-in-Err-clause-stop : goal.returns-in-Err-clause-stop
returns-in-Err-clause-stop c =
    large_refused c.args.left.now c.in-Err.fault c.of.result c.in-Err.ensures.stop (rw (← c.from.ensures) c.of.ensures.status) c.of.ensures.line

pub returns-in-Err-clause-carries : goal.returns-in-Err-clause-carries
returns-in-Err-clause-carries c =
    said_carries NoPath NoPath NoPath c.in-Err.fault c.of.result.status c.in-Err.ensures.carries (rw (← c.from.ensures) c.of.ensures.status)
