use Rattle.std.proofs.lemmas.Result.{err_from_is_err_and}
use Rattle.mol_log.specs.Written.{written}
use Rattle.mol_merge.proofs.LimitsPassed.{no-memory}
use Rattle.mol_merge.proofs.limits.refuse_long.Goals as goal
use Rattle.mol_merge.specs.Outcomes.{long_log}

pub returns-in_err-text-clause-refused : goal.returns-in_err-text-clause-refused
returns-in_err-text-clause-refused c =
    let p = err_from_is_err_and c.from_residual.result c.from_residual.ensures.1 in
    rw (p.1, p.2) (no-memory (long_log (written c.args.log.now)))
