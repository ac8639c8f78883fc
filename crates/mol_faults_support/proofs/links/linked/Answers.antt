use Rattle.std.proofs.Common.{subst}
use Rattle.std.proofs.lemmas.List.{take_all}
use Rattle.mol_faults_support.specs.Links.{AreLinked}
use Rattle.mol_faults_support.proofs.Linked.{none-linked, one-linked}
use Rattle.mol_faults_support.proofs.links.linked.Goals as goal

pub loop-key-init : goal.loop-key-init
loop-key-init c = none-linked c.args.links.now c.new-found.result.items c.new-found.ensures.items

pub loop-key-preserved : goal.loop-key-preserved
loop-key-preserved c =
    one-linked c.args.links.now c.args.keys.now c.loop-key.key-index c.key-item.result c.loop-key-test.true c.key-item.is
    c.loop-key.found.items _ c.loop-key.invariant c.in_ok-add_linked.ensures

pub returns : goal.returns
returns c = subst (λ keys. AreLinked c.args.links.now keys c.loop-key.found.items)
    (take_all c.loop-key.key-index c.args.keys.now c.loop-key-test.false) c.loop-key.invariant
