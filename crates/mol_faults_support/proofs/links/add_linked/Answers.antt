use Rattle.std.proofs.Common.{subst}
use Rattle.std.proofs.lemmas.List.{take_all}
use Rattle.mol_faults_support.proofs.Linked.{AreAdded, key-added, none-added, one-added}
use Rattle.mol_faults_support.proofs.links.add_linked.Goals as goal

pub loop-link-init : goal.loop-link-init
loop-link-init c = none-added c.args.found.now.items

pub loop-link-preserved : goal.loop-link-preserved
loop-link-preserved c =
    one-added c.at_key-link-items.result.now c.loop-link.link-index c.link-item.result c.loop-link-test.true c.link-item.is
    c.args.found.now.items c.loop-link.found.items _ c.loop-link.invariant c.in_ok-push.ensures.items

pub returns : goal.returns
returns c =
    let run = c.at_key-link-items.result.now in
    key-added c.args.links.now run c.args.key.now c.at_key-link-items.ensures c.args.found.now.items c.loop-link.found.items
    (subst (λ all. AreAdded all c.args.found.now.items c.loop-link.found.items)
    (take_all c.loop-link.link-index run c.loop-link-test.false) c.loop-link.invariant)
