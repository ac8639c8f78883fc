use Rattle.std.proofs.Common.{ap, inl, refl}
use Rattle.mol_top.proofs.MergedLogs.{plain_told, replay_told}
use Rattle.mol_top.proofs.merging.merge_refusal.Goals as goal
use Rattle.mol_top.specs.Answers.{merge_status}

pub returns-in-First : goal.returns-in-First
returns-in-First c =
    replay_told c.args.base.now 1 c.in-First.fault c.args.fault c.replay_refusal.result (ap merge_status c.in-First.is)
    c.replay_refusal.ensures

pub returns-in-Second : goal.returns-in-Second
returns-in-Second c =
    replay_told c.args.base.now 2 c.in-Second.fault c.args.fault c.replay_refusal-in-Second.result (ap merge_status c.in-Second.is)
    c.replay_refusal-in-Second.ensures

pub returns-in-SharedTag : goal.returns-in-SharedTag
returns-in-SharedTag c =
    plain_told c.args.base.now c.args.fault c.of.result _ (ap merge_status c.in-SharedTag.is) refl c.of.ensures.status c.of.ensures.line

pub returns-in-Limit : goal.returns-in-Limit
returns-in-Limit c =
    plain_told c.args.base.now c.args.fault c.of-in-Limit.result _ (ap merge_status c.in-Limit.is) refl c.of-in-Limit.ensures.status
    c.of-in-Limit.ensures.line

pub returns-in-OutOfMemory : goal.returns-in-OutOfMemory
returns-in-OutOfMemory c = inl (record { status = c.out_of_memory.ensures.status; line = c.out_of_memory.ensures.line })
