use Rattle.std.proofs.Common.{inl, subst, sym}
use Rattle.mol_replay.specs.declared.fault.ReplayFault.{ReplayFault}
use Rattle.mol_top.proofs.ReplayedLogs.{plain_refused}
use Rattle.mol_top.proofs.replaying.kept_refusal.Goals as goal
use Rattle.mol_top.specs.RefusedLogs.{IsRefusalOfFault}

pub returns-in-NotClean : goal.returns-in-NotClean
returns-in-NotClean c = λ base are.
    subst (λ (fault : ReplayFault). IsRefusalOfFault base 1 fault c.unclean_refusal.result) (sym c.in-NotClean.is) (c.unclean_refusal.ensures base are)

pub returns-in-OutOfMemory : goal.returns-in-OutOfMemory
returns-in-OutOfMemory c = λ base are. inl (record { status = c.out_of_memory.ensures.status; line = c.out_of_memory.ensures.line })

pub returns-in_default : goal.returns-in_default
returns-in_default c = λ base are.
    plain_refused base c.args.fault c.of.result c.in_default.not-NotClean c.in_default.not-OutOfMemory c.of.ensures.status c.of.ensures.line
