use Rattle.mol_top.proofs.ReplayedLogs.{fault_refused}
use Rattle.mol_top.proofs.replaying.replayed.Goals as goal

pub returns-in-Err-clause-stop : goal.returns-in-Err-clause-stop
returns-in-Err-clause-stop c =
    fault_refused c.args.base c.args.log c.in-Err.fault c.kept_refusal.result c.in-Err.ensures.refused
    (c.kept_refusal.ensures c.args.base c.requires.sources)
