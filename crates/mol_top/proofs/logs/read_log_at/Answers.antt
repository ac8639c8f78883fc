use Rattle.std.proofs.lemmas.Result.{IfErr-weaker, IfOk-weaker}
use Rattle.mol_log.specs.Form.{IsLogText}
use Rattle.mol_top.proofs.ReadLogs.{form_carries, form_stopped, log_there, said_carries, store_step}
use Rattle.mol_top.proofs.logs.read_log_at.Goals as goal
use Rattle.mol_top.specs.Carried.{NoPath}
use Rattle.mol_top.specs.Logs.{IsLogAt, LogRefuses}
use Rattle.mol_top.specs.Outside.{IfTold, store}
use Rattle.mol_top.specs.ReadLogs.{CarriesLog, IsLogStopped, IsRefusalOfLog}
use Rattle.mol_top.specs.Refusals.{absent_input}
use Rattle.mol_top.specs.Steps.{Only}

pub returns-in-Ok-clause-log : goal.returns-in-Ok-clause-log
returns-in-Ok-clause-log g c =
    let path = c.args.path.now in
    let bytes = c.in-Ok.bytes in
    IfOk-weaker c.log_of.result (IsLogText bytes) (λ log. IfTold (g.F.Files.holds c.args.files.now) (λ h. IsLogAt path h log))
    (λ log is h e. log_there path h bytes log (c.in-Ok.ensures.bytes h e) is) (rw c.items.ensures at c.log_of.ensures.log)

pub returns-in-Ok-clause-stop : goal.returns-in-Ok-clause-stop
returns-in-Ok-clause-stop g c =
    let path = c.args.path.now in
    let bytes = c.in-Ok.bytes in
    let old = store g.F.Files c.args.files.now in
    let new = store g.F.Files c.read_input.new.files in
    IfErr-weaker c.log_of.result (IsRefusalOfLog c.args.which bytes) (IsLogStopped c.args.which path old new)
    (λ refusal is. form_stopped c.args.which path old new bytes c.in-Ok.ensures.bytes refusal is) (rw c.items.ensures at c.log_of.ensures.stop)

pub returns-in-Ok-clause-carries : goal.returns-in-Ok-clause-carries
returns-in-Ok-clause-carries g c =
    let path = c.args.path.now in
    let bytes = c.in-Ok.bytes in
    IfErr-weaker c.log_of.result (IsRefusalOfLog c.args.which bytes) (λ refusal. CarriesLog path refusal.status)
    (λ refusal is. form_carries c.args.which path bytes refusal is) (rw c.items.ensures at c.log_of.ensures.stop)

pub returns-in-Err-clause-stop : goal.returns-in-Err-clause-stop
returns-in-Err-clause-stop g c =
    let path = c.args.path.now in
    store_step path (store g.F.Files c.args.files.now) (store g.F.Files c.read_input.new.files) (absent_input path)
    (LogRefuses c.args.which path) (λ h s is. LogRefuses.absent is) c.in-Err.fault c.of.result c.in-Err.ensures.stop
    (rw (← c.from.ensures) c.of.ensures.status) c.of.ensures.line

pub returns-in-Err-clause-carries : goal.returns-in-Err-clause-carries
returns-in-Err-clause-carries g c =
    let path = c.args.path.now in
    said_carries (Only path) (Only path) NoPath c.in-Err.fault c.of.result.status c.in-Err.ensures.carries
    (rw (← c.from.ensures) c.of.ensures.status)
