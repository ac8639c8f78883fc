use Rattle.std.proofs.Common.{arith, refl}
use Rattle.std.proofs.lemmas.Result.{IfErr-weaker, IfOk-weaker, err_from_is_err_and}
use Rattle.mol_top.proofs.Carrying.{log_carried}
use Rattle.mol_top.proofs.MergedLogs.{over_made, over_no_first, over_stopped}
use Rattle.mol_top.proofs.merging.logs_work.Goals as goal
use Rattle.mol_top.specs.Command.{merge_paths}
use Rattle.mol_top.specs.MergeWork.{IsMadeOver, IsMadeWith, IsStoppedOver, IsStoppedWith}
use Rattle.mol_top.specs.Outside.{IfTold, store}
use Rattle.mol_top.specs.Words.{merge_words}

pub returns-in_err-first-clause-stop : goal.returns-in_err-first-clause-stop
returns-in_err-first-clause-stop g c =
    let p = err_from_is_err_and c.from_residual.result c.from_residual.ensures.1 in
    rw (p.1, p.2) (over_no_first (merge_words c.args.words) c.args.base.now (store g.F.Files c.args.files.now)
    (store g.F.Files c.read_log_at.new.files) _ c.in_err-first.ensures.stop)

pub returns-in_err-first-clause-carries : goal.returns-in_err-first-clause-carries
returns-in_err-first-clause-carries g c =
    let p = err_from_is_err_and c.from_residual.result c.from_residual.ensures.1 in
    let w = merge_words c.args.words in
    rw (p.1, p.2) (log_carried (merge_paths w) _ w.first (0, omega arith, refl) c.in_err-first.ensures.carries)

pub returns-clause-work : goal.returns-clause-work
returns-clause-work g c =
    let w = merge_words c.args.words in
    let base = c.args.base.now in
    let first = c.in_ok-first.first in
    let old = store g.F.Files c.args.files.now in
    let mid = store g.F.Files c.read_log_at.new.files in
    IfOk-weaker c.second_work.result (λ work. IfTold mid.held (λ h. IsMadeWith w base first h work))
    (λ work. IfTold old.held (λ h. IsMadeOver w base h work))
    (λ work made. over_made w base old mid first c.in_ok-first.ensures.log c.read_log_at.ensures.only_reads work made)
    c.second_work.ensures.work

pub returns-clause-stop : goal.returns-clause-stop
returns-clause-stop g c =
    let w = merge_words c.args.words in
    let base = c.args.base.now in
    let first = c.in_ok-first.first in
    let old = store g.F.Files c.args.files.now in
    let mid = store g.F.Files c.read_log_at.new.files in
    let new = store g.F.Files c.second_work.new.files in
    IfErr-weaker c.second_work.result (IsStoppedWith w base first mid new) (IsStoppedOver w base old new)
    (λ refusal stopped. over_stopped w base old mid first c.in_ok-first.ensures.log c.read_log_at.ensures.only_reads new refusal stopped)
    c.second_work.ensures.stop
