use Rattle.std.proofs.Common.{refl, sym}
use Rattle.std.proofs.lemmas.Result.{on_ok_weaker}
use Rattle.mol_faults_support.proofs.Owners.{owner-above, no-owner}
use Rattle.mol_faults_support.proofs.ways.meet_owner.Goals as goal

pub returns-in-Some-clause-met : goal.returns-in-Some-clause-met
returns-in-Some-clause-met c = on_ok_weaker c.meet_way.result
    (owner-above c.args.table.now c.args.declaration.now c.args.met.now.keys _ c.in-Some.owner (sym c.in-Some.ensures))
    c.meet_way.ensures.met

pub returns-in-None-clause-met : goal.returns-in-None-clause-met
returns-in-None-clause-met c = no-owner c.args.table.now c.args.declaration.now c.args.met.now.keys _ (sym c.in-None.ensures) refl
