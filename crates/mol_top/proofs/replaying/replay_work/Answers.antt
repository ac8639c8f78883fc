use Rattle.std.proofs.Common.{List, inl, subst, sym}
use Rattle.std.proofs.lemmas.Result.{IfErr-weaker, IfOk-weaker, err_from_is_err_and}
use Rattle.mol_base.specs.declared.file.File.{File}
use Rattle.mol_top.proofs.ReplayedLogs.{left_made, left_refused, replay_number}
use Rattle.mol_top.proofs.replaying.replay_work.Goals as goal
use Rattle.mol_top.specs.KeptBases.{AreSources}
use Rattle.mol_top.specs.ProgramWork.{IsFilesWork}
use Rattle.mol_top.specs.ReplayWork.{IsRefusalOfLimits, IsReplayStopped, IsReplayWork}

pub replayed-requires-clause-sources : goal.replayed-requires-clause-sources
replayed-requires-clause-sources c =
    subst (λ (sources : List File). AreSources sources c.args.base.table) (sym c.as_slice.ensures.value) c.requires.sources

pub returns-in_err-left-clause-stop : goal.returns-in_err-left-clause-stop
returns-in_err-left-clause-stop c =
    let p = err_from_is_err_and c.from_residual.result c.from_residual.ensures.1 in
    rw (p.1, p.2) (inl c.in_err-left.ensures.stop)

pub returns-in_err-left-clause-carries : goal.returns-in_err-left-clause-carries
returns-in_err-left-clause-carries c =
    let p = err_from_is_err_and c.from_residual.result c.from_residual.ensures.1 in
    rw (p.1, p.2) (replay_number c.args.base.table c.args.log _ c.in_err-left.ensures.stop)

pub returns-clause-work : goal.returns-clause-work
returns-clause-work c =
    let out = c.args.out.now in
    let base = c.args.base.table in
    let log = c.args.log in
    let left = c.in_ok-left.left in
    IfOk-weaker c.left_work.result (IsFilesWork out left) (IsReplayWork out base log)
    (λ work is. left_made base log left c.in_ok-left.ensures.left c.in_ok-left.ensures.tidied c.in_ok-left.ensures.replays out work is) c.left_work.ensures.work

pub returns-clause-stop : goal.returns-clause-stop
returns-clause-stop c =
    let base = c.args.base.table in
    let log = c.args.log in
    let left = c.in_ok-left.left in
    IfErr-weaker c.left_work.result (IsRefusalOfLimits left) (IsReplayStopped base log)
    (λ refusal is. left_refused base log left c.in_ok-left.ensures.left c.in_ok-left.ensures.tidied c.in_ok-left.ensures.replays refusal is) c.left_work.ensures.stop
