use Rattle.std.proofs.lemmas.Result.{IfErr-weaker, IfOk-weaker}
use Rattle.mol_base.specs.Files.{file_pairs}
use Rattle.mol_top.proofs.BaseStops.{files_stopped, unread_stopped}
use Rattle.mol_top.proofs.ReadBases.{program_read, refused_carries, unread_carries}
use Rattle.mol_top.proofs.clean_base.read_base_program.Goals as goal
use Rattle.mol_top.specs.CleanBases.{CarriesBase, IsBaseStopped, IsProgramOf, IsReadOf}
use Rattle.mol_top.specs.Outside.{IfTold, store}
use Rattle.mol_top.specs.Refused.{IsRefusalOfFiles}

pub returns-in-Ok-clause-base : goal.returns-in-Ok-clause-base
returns-in-Ok-clause-base g c =
    let base = c.args.base.now in
    let read = c.in-Ok.read.items in
    IfOk-weaker c.base_program.result (IsProgramOf (file_pairs read))
    (λ made. IfTold (g.F.Files.holds c.args.files.now) (λ h. IsReadOf base h made))
    (λ made is h e. program_read base h read made (c.in-Ok.ensures.base h e) is) (rw c.as_slice.ensures.value at c.base_program.ensures.program)

pub returns-in-Ok-clause-stop : goal.returns-in-Ok-clause-stop
returns-in-Ok-clause-stop g c =
    let base = c.args.base.now in
    let read = c.in-Ok.read.items in
    let old = store g.F.Files c.args.files.now in
    let new = store g.F.Files c.read_base.new.files in
    IfErr-weaker c.base_program.result (IsRefusalOfFiles (file_pairs read)) (IsBaseStopped base old new)
    (λ refusal is. files_stopped base old new read c.in-Ok.ensures.base refusal is) (rw c.as_slice.ensures.value at c.base_program.ensures.stop)

pub returns-in-Ok-clause-carries : goal.returns-in-Ok-clause-carries
returns-in-Ok-clause-carries g c =
    let base = c.args.base.now in
    let files = file_pairs c.in-Ok.read.items in
    IfErr-weaker c.base_program.result (IsRefusalOfFiles files) (λ refusal. CarriesBase base refusal.status)
    (λ refusal is. refused_carries base files refusal is) (rw c.as_slice.ensures.value at c.base_program.ensures.stop)

pub returns-in-Err-clause-stop : goal.returns-in-Err-clause-stop
returns-in-Err-clause-stop g c =
    unread_stopped c.args.base.now (store g.F.Files c.args.files.now) (store g.F.Files c.read_base.new.files) c.in-Err.fault c.of.result
    c.in-Err.ensures.stop (rw (← c.from.ensures) c.of.ensures.status) c.of.ensures.line

pub returns-in-Err-clause-carries : goal.returns-in-Err-clause-carries
returns-in-Err-clause-carries g c =
    unread_carries c.args.base.now c.in-Err.fault c.of.result.status c.in-Err.ensures.carries (rw (← c.from.ensures) c.of.ensures.status)
