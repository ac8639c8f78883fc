use Rattle.std.proofs.Common.{◌∙◌, arith, refl}
use Rattle.std.proofs.lemmas.Result.{IfErr-weaker, IfOk-weaker, err_from_is_err_and}
use Rattle.mol_top.proofs.Carrying.{log_carried, number_carried, out_carried}
use Rattle.mol_top.proofs.ReplayedLogs.{over_made, over_no_log, over_stopped, over_used}
use Rattle.mol_top.proofs.replaying.log_work.Goals as goal
use Rattle.mol_top.specs.Carried.{Carries, CarriesOwn, NoPath}
use Rattle.mol_top.specs.Command.{replay_paths}
use Rattle.mol_top.specs.Outside.{IfTold, store}
use Rattle.mol_top.specs.ReplayWork.{IsMadeOver, IsReplayStopped, IsReplayWork, IsStoppedOver}
use Rattle.mol_top.specs.Words.{replay_words}

pub returns-in_err-log-clause-stop : goal.returns-in_err-log-clause-stop
returns-in_err-log-clause-stop g c =
    let p = err_from_is_err_and c.from_residual.result c.from_residual.ensures.1 in
    rw (p.1, p.2) (over_no_log (replay_words c.args.words) c.args.base.table (store g.F.Files c.args.files.now)
    (store g.F.Files c.read_log_at.new.files) _ c.in_err-log.ensures.stop)

pub returns-in_err-log-clause-carries : goal.returns-in_err-log-clause-carries
returns-in_err-log-clause-carries g c =
    let w = replay_words c.args.words in
    let p = err_from_is_err_and c.from_residual.result c.from_residual.ensures.1 in
    rw (p.1, p.2) (log_carried (replay_paths w) _ w.log (0, omega arith, refl) c.in_err-log.ensures.carries)

pub returns-in_err-refuse_used-clause-stop : goal.returns-in_err-refuse_used-clause-stop
returns-in_err-refuse_used-clause-stop g c =
    let p = err_from_is_err_and c.from_residual-in_err-refuse_used.result c.from_residual-in_err-refuse_used.ensures.1 in
    rw (p.1, p.2) (over_used (replay_words c.args.words) c.args.base.table (store g.F.Files c.args.files.now)
    (store g.F.Files c.read_log_at.new.files) (store g.F.Files c.refuse_used.new.files) c.in_ok-log.log _ c.in_ok-log.ensures.log
    c.read_log_at.ensures.only_reads c.in_err-refuse_used.ensures.stop)

pub returns-in_err-refuse_used-clause-carries : goal.returns-in_err-refuse_used-clause-carries
returns-in_err-refuse_used-clause-carries g c =
    let w = replay_words c.args.words in
    let p = err_from_is_err_and c.from_residual-in_err-refuse_used.result c.from_residual-in_err-refuse_used.ensures.1 in
    rw (p.1, p.2) (out_carried (replay_paths w) _ w.out refl c.in_err-refuse_used.ensures.carries)

pub returns-clause-work : goal.returns-clause-work
returns-clause-work g c =
    let w = replay_words c.args.words in
    let base = c.args.base.table in
    let log = c.in_ok-log.log in
    let old = store g.F.Files c.args.files.now in
    let new = store g.F.Files c.refuse_used.new.files in
    IfOk-weaker c.replay_work.result (IsReplayWork w.out base log) (λ work. IfTold old.held (λ h. IsMadeOver w base h work))
    (λ work is. over_made w base old new log
    (λ h e. record {
      there = c.in_ok-log.ensures.log h e;
      free = c.in_ok-refuse_used.ensures.free h (c.read_log_at.ensures.only_reads.held ∙ e);
    }) work is) c.replay_work.ensures.work

pub returns-clause-stop : goal.returns-clause-stop
returns-clause-stop g c =
    let w = replay_words c.args.words in
    let base = c.args.base.table in
    let log = c.in_ok-log.log in
    let old = store g.F.Files c.args.files.now in
    let new = store g.F.Files c.refuse_used.new.files in
    IfErr-weaker c.replay_work.result (IsReplayStopped base log) (IsStoppedOver w base old new)
    (λ refusal is. over_stopped w base old new log
    (λ h e. record {
      there = c.in_ok-log.ensures.log h e;
      free = c.in_ok-refuse_used.ensures.free h (c.read_log_at.ensures.only_reads.held ∙ e);
    }) refusal is) c.replay_work.ensures.stop

pub returns-clause-carries : goal.returns-clause-carries
returns-clause-carries g c =
    let w = replay_words c.args.words in
    IfErr-weaker c.replay_work.result (λ refusal. Carries NoPath NoPath NoPath refusal.status)
    (λ refusal. CarriesOwn (replay_paths w) refusal.status) (λ refusal carried. number_carried (replay_paths w) refusal.status carried)
    c.replay_work.ensures.carries
