use Rattle.std.proofs.Common.{inl}
use Rattle.mol_top.proofs.LogRefusals.{fault_with}
use Rattle.mol_top.proofs.logs.replay_refusal.Goals as goal

pub returns-in-Ok : goal.returns-in-Ok
returns-in-Ok c =
    fault_with c.args.base.now c.args.which c.args.fault c.in-Ok.line.items c.refusal_with.result c.in-Ok.ensures c.refusal_with.ensures

pub returns-in-Err : goal.returns-in-Err
returns-in-Err c = inl (record { status = c.out_of_memory.ensures.status; line = c.out_of_memory.ensures.line })
