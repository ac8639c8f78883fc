use Rattle.std.proofs.Common.{subst}
use Rattle.std.proofs.lemmas.List.{take_all}
use Rattle.mol_faults_support.specs.Declarations.{AreSame}
use Rattle.mol_faults_support.proofs.Among.{same-none, same-more}
use Rattle.mol_faults_support.proofs.identities.set_of.Goals as goal

pub loop-id-init : goal.loop-id-init
loop-id-init c = same-none c.new-set.result.keys c.new-set.ensures.empty

pub loop-id-preserved : goal.loop-id-preserved
loop-id-preserved c =
    same-more c.loop-id.set.keys c.args.ids.now c.loop-id.id-index c.id-item.result c.loop-id-test.true c.id-item.is c.loop-id.invariant
    _ c.in_ok-insert.ensures.keys

pub returns : goal.returns
returns c = subst (AreSame c.loop-id.set.keys) (take_all c.loop-id.id-index c.args.ids.now c.loop-id-test.false) c.loop-id.invariant
