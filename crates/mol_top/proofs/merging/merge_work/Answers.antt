use Rattle.std.proofs.Common.{inl, subst, sym}
use Rattle.std.proofs.lemmas.Result.{IfErr-weaker, IfOk-weaker}
use Rattle.mol_top.proofs.MergedLogs.{answer_inside, answer_made, answer_ready, fault_carries, merge_refused}
use Rattle.mol_top.proofs.merging.merge_work.Goals as goal
use Rattle.mol_top.specs.Carried.{Carries, NoPath, WritesInside}
use Rattle.mol_top.specs.MergeWork.{IsAnswerWork, IsMergeWork, IsRefusalOfMerge}
use Rattle.mol_top.specs.Output.{IsReady}
use Rattle.mol_top.specs.Refused.{IsForMemory}

pub returns-in-Ok-clause-ready : goal.returns-in-Ok-clause-ready
returns-in-Ok-clause-ready c =
    let out = c.args.out.now in
    let base = c.args.base.now in
    let outcome = c.in-Ok.outcome in
    IfOk-weaker c.answer_work.result (IsAnswerWork out base outcome) IsReady (answer_ready out base outcome) c.answer_work.ensures.work

pub returns-in-Ok-clause-work : goal.returns-in-Ok-clause-work
returns-in-Ok-clause-work c =
    let out = c.args.out.now in
    let base = c.args.base.now in
    let first = c.args.first.now in
    let second = c.args.second.now in
    let outcome = c.in-Ok.outcome in
    IfOk-weaker c.answer_work.result (IsAnswerWork out base outcome) (IsMergeWork out base first second)
    (λ work is. answer_made out base first second c.in-Ok.ensures.allowed outcome work c.in-Ok.ensures.answer is) c.answer_work.ensures.work

pub returns-in-Ok-clause-inside : goal.returns-in-Ok-clause-inside
returns-in-Ok-clause-inside c =
    let out = c.args.out.now in
    let base = c.args.base.now in
    let outcome = c.in-Ok.outcome in
    IfOk-weaker c.answer_work.result (IsAnswerWork out base outcome) (WritesInside out) (answer_inside out base outcome) c.answer_work.ensures.work

pub returns-in-Ok-clause-stop : goal.returns-in-Ok-clause-stop
returns-in-Ok-clause-stop c =
    IfErr-weaker c.answer_work.result IsForMemory (IsRefusalOfMerge c.args.base.now c.args.first.now c.args.second.now)
    (λ refusal memory. inl memory) c.answer_work.ensures.memory

pub returns-in-Ok-clause-carries : goal.returns-in-Ok-clause-carries
returns-in-Ok-clause-carries c =
    IfErr-weaker c.answer_work.result IsForMemory (λ refusal. Carries NoPath NoPath NoPath refusal.status)
    (λ refusal memory. subst (Carries NoPath NoPath NoPath) (sym memory.status) tt) c.answer_work.ensures.memory

pub returns-in-Err-clause-stop : goal.returns-in-Err-clause-stop
returns-in-Err-clause-stop c =
    merge_refused c.args.base.now c.args.first.now c.args.second.now c.in-Err.fault c.merge_refusal.result c.in-Err.ensures.refused
    c.merge_refusal.ensures

pub returns-in-Err-clause-carries : goal.returns-in-Err-clause-carries
returns-in-Err-clause-carries c =
    fault_carries c.args.base.now c.in-Err.fault c.merge_refusal.result c.in-Err.ensures.above c.merge_refusal.ensures
