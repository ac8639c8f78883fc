use Rattle.std.proofs.Common.{inl}
use Rattle.std.proofs.lemmas.Result.{IfErr-weaker, IfOk-weaker, err_from_is_err_and}
use Rattle.mol_top.proofs.BaseStops.{base_stopped}
use Rattle.mol_top.proofs.FormattedFiles.{work_carries, work_prepared, work_stopped}
use Rattle.mol_top.proofs.ReadBases.{base_carries}
use Rattle.mol_top.proofs.formatting.prepare_fmt.Goals as goal
use Rattle.mol_top.specs.Carried.{CarriesOwn}
use Rattle.mol_top.specs.Command.{Command, fmt_paths}
use Rattle.mol_top.specs.Formatting.{FmtRefuses}
use Rattle.mol_top.specs.Outside.{store}
use Rattle.mol_top.specs.Prepared.{IsStopped, Prepares}
use Rattle.mol_top.specs.ProgramWork.{IsCleanWork, IsProgramStopped}
use Rattle.mol_top.specs.Words.{fmt_words}

pub returns-in_err-base-clause-stop : goal.returns-in_err-base-clause-stop
returns-in_err-base-clause-stop g c =
    let w = fmt_words c.args.words in
    let p = err_from_is_err_and c.from_residual.result c.from_residual.ensures.1 in
    rw (p.1, p.2) (base_stopped (Command.fmt w) w.base (store g.F.Files c.args.files.now) (store g.F.Files c.read_base_program.new.files) _
    (λ h s refuses. FmtRefuses.base refuses) (λ h s line is. is) (λ path below. inl below) c.in_err-base.ensures.stop)

pub returns-in_err-base-clause-carries : goal.returns-in_err-base-clause-carries
returns-in_err-base-clause-carries g c =
    let p = err_from_is_err_and c.from_residual.result c.from_residual.ensures.1 in
    rw (p.1, p.2) (base_carries (fmt_paths (fmt_words c.args.words)) _ c.in_err-base.ensures.carries)

pub returns-clause-work : goal.returns-clause-work
returns-clause-work g c =
    let w = fmt_words c.args.words in
    let old = store g.F.Files c.args.files.now in
    let mid = store g.F.Files c.read_base_program.new.files in
    let table = c.in_ok-base.base.table in
    IfOk-weaker c.program_work.result (IsCleanWork w.out table mid) (Prepares (Command.fmt w) old)
    (λ work is. work_prepared w old table (λ h e. (c.in_ok-base.ensures.base h e).program) c.rules.ensures mid work
    c.read_base_program.ensures.only_reads is) c.program_work.ensures.work

pub returns-clause-stop : goal.returns-clause-stop
returns-clause-stop g c =
    let w = fmt_words c.args.words in
    let old = store g.F.Files c.args.files.now in
    let mid = store g.F.Files c.read_base_program.new.files in
    let new = store g.F.Files c.program_work.new.files in
    let table = c.in_ok-base.base.table in
    IfErr-weaker c.program_work.result (IsProgramStopped w.out table mid new) (IsStopped (Command.fmt w) old new)
    (λ refusal is. work_stopped w old table (λ h e. (c.in_ok-base.ensures.base h e).program) c.rules.ensures mid new refusal
    c.read_base_program.ensures.only_reads is) c.program_work.ensures.stop

pub returns-clause-carries : goal.returns-clause-carries
returns-clause-carries g c =
    let w = fmt_words c.args.words in
    let mid = store g.F.Files c.read_base_program.new.files in
    let new = store g.F.Files c.program_work.new.files in
    let table = c.in_ok-base.base.table in
    IfErr-weaker c.program_work.result (IsProgramStopped w.out table mid new) (λ refusal. CarriesOwn (fmt_paths w) refusal.status)
    (λ refusal is. work_carries w table mid new refusal is) c.program_work.ensures.stop

pub returns-clause-inside : goal.returns-clause-inside
returns-clause-inside g c = c.program_work.ensures.inside
