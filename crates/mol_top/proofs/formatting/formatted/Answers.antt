use Rattle.std.proofs.lemmas.Result.{IfErr-weaker, IfOk-weaker, err_from_is_err_and}
use Rattle.mol_top.proofs.Carrying.{Carries-more}
use Rattle.mol_top.proofs.FormattedFiles.{allowed, large, occupied}
use Rattle.mol_top.proofs.formatting.formatted.Goals as goal
use Rattle.mol_top.specs.Answers.{store_status}
use Rattle.mol_top.specs.Carried.{Carries, IsInside, NoPath}
use Rattle.mol_top.specs.Formatting.{MakesFiles, output_refusal}
use Rattle.mol_top.specs.Outside.{IfTold, store}
use Rattle.mol_top.specs.ProgramWork.{IsFilesWork, StopsLarge}
use Rattle.mol_top.specs.Steps.{Only, Stops}

pub returns-in_err-check_out-clause-stop : goal.returns-in_err-check_out-clause-stop
returns-in_err-check_out-clause-stop g c =
    let p = err_from_is_err_and c.from_residual.result c.from_residual.ensures.1 in
    rw (p.1, p.2) (occupied c.args.out.now c.args.program.now (store g.F.Files c.args.files.now) (store g.F.Files c.check_out.new.files) _
    c.in_err-check_out.ensures.stop)

pub returns-clause-work : goal.returns-clause-work
returns-clause-work g c =
    let out = c.args.out.now in
    let program = c.args.program.now in
    IfOk-weaker c.files_work.result (IsFilesWork out program) (λ work. IfTold (g.F.Files.holds c.args.files.now) (λ h. MakesFiles out program h work))
    (λ work is h e. allowed out program h work (c.in_ok-check_out.ensures.free h e) is) c.files_work.ensures.work

pub returns-clause-stop : goal.returns-clause-stop
returns-clause-stop g c =
    let out = c.args.out.now in
    let program = c.args.program.now in
    let old = store g.F.Files c.args.files.now in
    let new = store g.F.Files c.check_out.new.files in
    IfErr-weaker c.files_work.result (StopsLarge program) (Stops (Only out) old new (output_refusal out program))
    (λ fault stops. large out program old new fault c.in_ok-check_out.ensures.free stops) c.files_work.ensures.stop

pub returns-clause-carries : goal.returns-clause-carries
returns-clause-carries g c =
    let out = c.args.out.now in
    IfErr-weaker c.files_work.result (λ fault. Carries NoPath NoPath NoPath (store_status fault))
    (λ fault. Carries (Only out) NoPath (IsInside out) (store_status fault))
    (λ fault carried. Carries-more (Only out) NoPath NoPath NoPath (IsInside out) NoPath (store_status fault)
    (λ q none. absurd none) (λ q none. none) (λ q none. absurd none) carried) c.files_work.ensures.carries
