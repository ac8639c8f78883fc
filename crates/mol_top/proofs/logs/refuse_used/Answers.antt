use Rattle.mol_top.proofs.ReadLogs.{said_carries, store_step}
use Rattle.mol_top.proofs.logs.refuse_used.Goals as goal
use Rattle.mol_top.specs.Carried.{IsInside, NoPath}
use Rattle.mol_top.specs.Outside.{store}
use Rattle.mol_top.specs.ReadLogs.{RefusesOut}
use Rattle.mol_top.specs.Refusals.{out_refusal}
use Rattle.mol_top.specs.Steps.{Only}

pub returns-in-Err-clause-stop : goal.returns-in-Err-clause-stop
returns-in-Err-clause-stop g c =
    let out = c.args.out.now in
    store_step out (store g.F.Files c.args.files.now) (store g.F.Files c.check_out.new.files) (out_refusal out) (RefusesOut out)
    (λ h s is. is) c.in-Err.fault c.of.result c.in-Err.ensures.stop (rw (← c.from.ensures) c.of.ensures.status) c.of.ensures.line

pub returns-in-Err-clause-carries : goal.returns-in-Err-clause-carries
returns-in-Err-clause-carries g c =
    let out = c.args.out.now in
    said_carries (Only out) NoPath (IsInside out) c.in-Err.fault c.of.result.status c.in-Err.ensures.carries
    (rw (← c.from.ensures) c.of.ensures.status)
