use Rattle.std.proofs.Common.{inl}
use Rattle.std.proofs.lemmas.Result.{IfErr-weaker, IfOk-weaker, err_from_is_err_and}
use Rattle.mol_top.proofs.BaseStops.{base_stopped, program_stopped}
use Rattle.mol_top.proofs.MergedLogs.{merge_prepared, merge_stopped}
use Rattle.mol_top.proofs.ReadBases.{base_carries, unclean_carries}
use Rattle.mol_top.proofs.merging.prepare_merge.Goals as goal
use Rattle.mol_top.specs.Command.{Command, merge_paths}
use Rattle.mol_top.specs.MergeWork.{IsMadeOver, IsStoppedOver}
use Rattle.mol_top.specs.Merging.{MergeRefuses}
use Rattle.mol_top.specs.Outside.{IfTold, store}
use Rattle.mol_top.specs.Prepared.{IsStopped, Prepares}
use Rattle.mol_top.specs.Words.{merge_words}

pub returns-in_err-base-clause-stop : goal.returns-in_err-base-clause-stop
returns-in_err-base-clause-stop g c =
    let w = merge_words c.args.words in
    let p = err_from_is_err_and c.from_residual.result c.from_residual.ensures.1 in
    rw (p.1, p.2) (base_stopped (Command.merge w) w.base (store g.F.Files c.args.files.now) (store g.F.Files c.read_base_program.new.files) _
    (λ h s refuses. MergeRefuses.base refuses) (λ h s line is. is) (λ path below. inl below) c.in_err-base.ensures.stop)

pub returns-in_err-base-clause-carries : goal.returns-in_err-base-clause-carries
returns-in_err-base-clause-carries g c =
    let p = err_from_is_err_and c.from_residual.result c.from_residual.ensures.1 in
    rw (p.1, p.2) (base_carries (merge_paths (merge_words c.args.words)) _ c.in_err-base.ensures.carries)

pub returns-in_err-refuse_unclean_table-clause-stop : goal.returns-in_err-refuse_unclean_table-clause-stop
returns-in_err-refuse_unclean_table-clause-stop g c =
    let w = merge_words c.args.words in
    let old = store g.F.Files c.args.files.now in
    let new = store g.F.Files c.read_base_program.new.files in
    let p = err_from_is_err_and c.from_residual-in_err-refuse_unclean_table.result c.from_residual-in_err-refuse_unclean_table.ensures.1 in
    rw (p.1, p.2) (base_stopped (Command.merge w) w.base old new _ (λ h s refuses. MergeRefuses.base refuses) (λ h s line is. is)
    (λ path below. inl below) (program_stopped w.base old new c.in_ok-base.base.table (λ h e. (c.in_ok-base.ensures.base h e).program) _
    c.in_err-refuse_unclean_table.ensures.stop))

pub returns-in_err-refuse_unclean_table-clause-carries : goal.returns-in_err-refuse_unclean_table-clause-carries
returns-in_err-refuse_unclean_table-clause-carries g c =
    let w = merge_words c.args.words in
    let p = err_from_is_err_and c.from_residual-in_err-refuse_unclean_table.result c.from_residual-in_err-refuse_unclean_table.ensures.1 in
    rw (p.1, p.2) (base_carries (merge_paths w) _
    (unclean_carries w.base c.in_ok-base.base.table _ c.in_err-refuse_unclean_table.ensures.stop))

pub returns-clause-work : goal.returns-clause-work
returns-clause-work g c =
    let w = merge_words c.args.words in
    let old = store g.F.Files c.args.files.now in
    let mid = store g.F.Files c.read_base_program.new.files in
    let table = c.in_ok-base.base.table in
    IfOk-weaker c.logs_work.result (λ work. IfTold mid.held (λ h. IsMadeOver w table h work)) (Prepares (Command.merge w) old)
    (λ work made. merge_prepared w old mid table
    (λ h e. record { is = (c.in_ok-base.ensures.base h e).program; rules = c.rules.ensures; clean = c.in_ok-refuse_unclean_table.ensures.clean })
    c.read_base_program.ensures.only_reads work made) c.logs_work.ensures.work

pub returns-clause-stop : goal.returns-clause-stop
returns-clause-stop g c =
    let w = merge_words c.args.words in
    let old = store g.F.Files c.args.files.now in
    let mid = store g.F.Files c.read_base_program.new.files in
    let new = store g.F.Files c.logs_work.new.files in
    let table = c.in_ok-base.base.table in
    IfErr-weaker c.logs_work.result (IsStoppedOver w table mid new) (IsStopped (Command.merge w) old new)
    (λ refusal stopped. merge_stopped w old mid table
    (λ h e. record { is = (c.in_ok-base.ensures.base h e).program; rules = c.rules.ensures; clean = c.in_ok-refuse_unclean_table.ensures.clean })
    c.read_base_program.ensures.only_reads new refusal stopped) c.logs_work.ensures.stop

pub returns-clause-inside : goal.returns-clause-inside
returns-clause-inside g c = c.logs_work.ensures.inside
