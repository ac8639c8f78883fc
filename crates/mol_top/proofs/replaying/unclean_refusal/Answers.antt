use Rattle.std.proofs.Common.{inl, subst}
use Rattle.mol_replay.specs.declared.fault.ReplayFault.TheVariants.{NotClean}
use Rattle.mol_table_rules.specs.Program.{Program}
use Rattle.mol_top.proofs.replaying.unclean_refusal.Goals as goal
use Rattle.mol_top.specs.RefusedLogs.{IsRefusalOfFault}

pub returns-in-Ok : goal.returns-in-Ok
returns-in-Ok c = λ base are.
    subst (λ (program : Program). IsRefusalOfFault program 1 (NotClean c.args.found) c.replay_refusal.result) (c.in-Ok.ensures base are)
    c.replay_refusal.ensures

pub returns-in-Err : goal.returns-in-Err
returns-in-Err c = λ base are. inl (record { status = c.out_of_memory.ensures.status; line = c.out_of_memory.ensures.line })
