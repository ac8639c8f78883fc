use Rattle.std.proofs.Common.{◌≡◌}
use Rattle.std.proofs.lemmas.Result.{IfErr-weaker, IfOk-weaker}
use Rattle.mol_base.specs.Files.{file_pairs}
use Rattle.mol_table_rules.specs.Tidy.{tidy}
use Rattle.mol_top.proofs.BaseStops.{files_stopped, unread_stopped}
use Rattle.mol_top.proofs.KeptBases.{kept_base}
use Rattle.mol_top.proofs.ReadBases.{refused_carries, unread_carries}
use Rattle.mol_top.proofs.kept_base.read_kept_base.Goals as goal
use Rattle.mol_top.specs.Bases.{IsBaseOf}
use Rattle.mol_top.specs.CleanBases.{CarriesBase, IsBaseStopped}
use Rattle.mol_top.specs.KeptBases.{AreSources, IsKept}
use Rattle.mol_top.specs.Outside.{IfTold, store}
use Rattle.mol_top.specs.Refused.{IsRefusalOfFiles}

pub returns-in-Ok-clause-base : goal.returns-in-Ok-clause-base
returns-in-Ok-clause-base g c =
    let base = c.args.base.now in
    let read = c.in-Ok.sources.items in
    IfOk-weaker c.kept_program.result (IsKept read) (λ kept. IfTold (g.F.Files.holds c.args.files.now) (λ h. IsBaseOf base h kept.table))
    (λ kept is h e. kept_base base h read kept (c.in-Ok.ensures.base h e) is) c.kept_program.ensures.kept

pub returns-in-Ok-clause-tidied : goal.returns-in-Ok-clause-tidied
returns-in-Ok-clause-tidied g c =
    IfOk-weaker c.kept_program.result (IsKept c.in-Ok.sources.items) (λ kept. tidy kept.table ≡ kept.table)
    (λ kept is. is.are.read_as.read.tidied) c.kept_program.ensures.kept

pub returns-in-Ok-clause-sources : goal.returns-in-Ok-clause-sources
returns-in-Ok-clause-sources g c =
    IfOk-weaker c.kept_program.result (IsKept c.in-Ok.sources.items) (λ kept. AreSources kept.sources.items kept.table)
    (λ kept is. is.are) c.kept_program.ensures.kept

pub returns-in-Ok-clause-stop : goal.returns-in-Ok-clause-stop
returns-in-Ok-clause-stop g c =
    let base = c.args.base.now in
    let read = c.in-Ok.sources.items in
    let old = store g.F.Files c.args.files.now in
    let new = store g.F.Files c.read_base.new.files in
    IfErr-weaker c.kept_program.result (IsRefusalOfFiles (file_pairs read)) (IsBaseStopped base old new)
    (λ refusal is. files_stopped base old new read c.in-Ok.ensures.base refusal is) c.kept_program.ensures.stop

pub returns-in-Ok-clause-carries : goal.returns-in-Ok-clause-carries
returns-in-Ok-clause-carries g c =
    let base = c.args.base.now in
    let files = file_pairs c.in-Ok.sources.items in
    IfErr-weaker c.kept_program.result (IsRefusalOfFiles files) (λ refusal. CarriesBase base refusal.status)
    (λ refusal is. refused_carries base files refusal is) c.kept_program.ensures.stop

pub returns-in-Err-clause-stop : goal.returns-in-Err-clause-stop
returns-in-Err-clause-stop g c =
    unread_stopped c.args.base.now (store g.F.Files c.args.files.now) (store g.F.Files c.read_base.new.files) c.in-Err.fault c.of.result
    c.in-Err.ensures.stop (rw (← c.from.ensures) c.of.ensures.status) c.of.ensures.line

pub returns-in-Err-clause-carries : goal.returns-in-Err-clause-carries
returns-in-Err-clause-carries g c =
    unread_carries c.args.base.now c.in-Err.fault c.of.result.status c.in-Err.ensures.carries (rw (← c.from.ensures) c.of.ensures.status)
