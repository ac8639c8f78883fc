use Rattle.std.proofs.Common.{◌∙◌, arith, refl}
use Rattle.std.proofs.lemmas.Result.{IfErr-weaker, IfOk-weaker, err_from_is_err_and}
use Rattle.mol_top.proofs.Carrying.{log_carried, number_carried, out_carried}
use Rattle.mol_top.proofs.MergedLogs.{with_made, with_no_second, with_stopped, with_used}
use Rattle.mol_top.proofs.merging.second_work.Goals as goal
use Rattle.mol_top.specs.Carried.{Carries, CarriesOwn, NoPath}
use Rattle.mol_top.specs.Command.{merge_paths}
use Rattle.mol_top.specs.MergeWork.{IsMadeWith, IsMergeWork, IsRefusalOfMerge, IsStoppedWith}
use Rattle.mol_top.specs.Outside.{IfTold, store}
use Rattle.mol_top.specs.Words.{merge_words}

pub returns-in_err-second-clause-stop : goal.returns-in_err-second-clause-stop
returns-in_err-second-clause-stop g c =
    let p = err_from_is_err_and c.from_residual.result c.from_residual.ensures.1 in
    rw (p.1, p.2) (with_no_second (merge_words c.args.words) c.args.base.now c.args.first.now (store g.F.Files c.args.files.now)
    (store g.F.Files c.read_log_at.new.files) _ c.in_err-second.ensures.stop)

pub returns-in_err-second-clause-carries : goal.returns-in_err-second-clause-carries
returns-in_err-second-clause-carries g c =
    let p = err_from_is_err_and c.from_residual.result c.from_residual.ensures.1 in
    let w = merge_words c.args.words in
    rw (p.1, p.2) (log_carried (merge_paths w) _ w.second (1, omega arith, refl) c.in_err-second.ensures.carries)

pub returns-in_err-refuse_used-clause-stop : goal.returns-in_err-refuse_used-clause-stop
returns-in_err-refuse_used-clause-stop g c =
    let p = err_from_is_err_and c.from_residual-in_err-refuse_used.result c.from_residual-in_err-refuse_used.ensures.1 in
    rw (p.1, p.2) (with_used (merge_words c.args.words) c.args.base.now c.args.first.now (store g.F.Files c.args.files.now)
    (store g.F.Files c.read_log_at.new.files) (store g.F.Files c.refuse_used.new.files) c.in_ok-second.second _ c.in_ok-second.ensures.log
    c.read_log_at.ensures.only_reads c.in_err-refuse_used.ensures.stop)

pub returns-in_err-refuse_used-clause-carries : goal.returns-in_err-refuse_used-clause-carries
returns-in_err-refuse_used-clause-carries g c =
    let p = err_from_is_err_and c.from_residual-in_err-refuse_used.result c.from_residual-in_err-refuse_used.ensures.1 in
    let w = merge_words c.args.words in
    rw (p.1, p.2) (out_carried (merge_paths w) _ w.out refl c.in_err-refuse_used.ensures.carries)

pub returns-clause-work : goal.returns-clause-work
returns-clause-work g c =
    let w = merge_words c.args.words in
    let base = c.args.base.now in
    let first = c.args.first.now in
    let second = c.in_ok-second.second in
    let old = store g.F.Files c.args.files.now in
    let new = store g.F.Files c.refuse_used.new.files in
    IfOk-weaker c.merge_work.result (IsMergeWork w.out base first second) (λ work. IfTold old.held (λ h. IsMadeWith w base first h work))
    (λ work is. with_made w base first old new second
    (λ h e. record {
      there = c.in_ok-second.ensures.log h e;
      free = c.in_ok-refuse_used.ensures.free h (c.read_log_at.ensures.only_reads.held ∙ e);
    }) work is) c.merge_work.ensures.work

pub returns-clause-stop : goal.returns-clause-stop
returns-clause-stop g c =
    let w = merge_words c.args.words in
    let base = c.args.base.now in
    let first = c.args.first.now in
    let second = c.in_ok-second.second in
    let old = store g.F.Files c.args.files.now in
    let new = store g.F.Files c.refuse_used.new.files in
    IfErr-weaker c.merge_work.result (IsRefusalOfMerge base first second) (IsStoppedWith w base first old new)
    (λ refusal is. with_stopped w base first old new second
    (λ h e. record {
      there = c.in_ok-second.ensures.log h e;
      free = c.in_ok-refuse_used.ensures.free h (c.read_log_at.ensures.only_reads.held ∙ e);
    }) refusal is) c.merge_work.ensures.stop

pub returns-clause-carries : goal.returns-clause-carries
returns-clause-carries g c =
    let w = merge_words c.args.words in
    IfErr-weaker c.merge_work.result (λ refusal. Carries NoPath NoPath NoPath refusal.status)
    (λ refusal. CarriesOwn (merge_paths w) refusal.status) (λ refusal carried. number_carried (merge_paths w) refusal.status carried)
    c.merge_work.ensures.carries
