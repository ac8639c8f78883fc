use Rattle.mol_log_rules.specs.Logs.{history}
use Rattle.mol_replay.proofs.LastWrites.{last-writes}
use Rattle.mol_replay.proofs.Refusals.{answered, refuses-memory}
use Rattle.mol_replay.proofs.replaying.replay.Goals as goal
use Rattle.mol_replay.specs.declared.fault.ReplayFault.TheVariants.{OutOfMemory}

pub returns-in_err-have-clause-refused : goal.returns-in_err-have-clause-refused
returns-in_err-have-clause-refused c =
    answered c.args.base.now c.args.log.now c.from_residual.result OutOfMemory c.from_residual.ensures.1
    (refuses-memory c.args.base.now c.args.log.now)

pub returns-clause-last_writes : goal.returns-clause-last_writes
returns-clause-last_writes c = last-writes c.args.base.now (history c.args.log.now) c.replay_on.result c.replay_on.ensures.left
