use Rattle.std.proofs.Common.{inl, inr}
use Rattle.std.proofs.lemmas.Result.{err_from_is_err_and}
use Rattle.mol_top.proofs.formatting.clean_work.Goals as goal

pub returns-in_err-refuse_unclean-clause-stop : goal.returns-in_err-refuse_unclean-clause-stop
returns-in_err-refuse_unclean-clause-stop g c =
    let p = err_from_is_err_and c.from_residual.result c.from_residual.ensures.1 in
    rw (p.1, p.2) (inl c.in_err-refuse_unclean.ensures.stop)

pub returns-in-Ok-clause-work : goal.returns-in-Ok-clause-work
returns-in-Ok-clause-work g c = record { clean = c.in_ok-refuse_unclean.ensures.clean; made = c.in-Ok.ensures.work }

pub returns-in-Err-clause-stop : goal.returns-in-Err-clause-stop
returns-in-Err-clause-stop g c = inr (record {
  clean = c.in_ok-refuse_unclean.ensures.clean;
  fault = c.in-Err.fault;
  stops = c.in-Err.ensures.stop;
  carries = c.in-Err.ensures.carries;
  status = rw (← c.from.ensures) c.of.ensures.status;
  line = c.of.ensures.line;
})
