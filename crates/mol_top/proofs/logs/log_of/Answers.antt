use Rattle.mol_top.proofs.ReadLogs.{wrong_log}
use Rattle.mol_top.proofs.logs.log_of.Goals as goal

pub returns-in-Ok-clause-log : goal.returns-in-Ok-clause-log
returns-in-Ok-clause-log c = c.in-Ok.ensures.spelled

pub returns-in-Err-clause-stop : goal.returns-in-Err-clause-stop
returns-in-Err-clause-stop c =
    wrong_log c.args.which c.args.bytes.now c.in-Err.fault c.of.result c.in-Err.ensures.fault (rw (← c.log_status.ensures) c.of.ensures.status)
    c.of.ensures.line
