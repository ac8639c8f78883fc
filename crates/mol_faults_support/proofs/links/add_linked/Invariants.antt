use Rattle.std.proofs.Common.{take}
use Rattle.mol_faults_support.proofs.Linked.{AreAdded}
use Rattle.mol_faults_support.proofs.links.add_linked.Given as goal

abbrev pub invariant-loop-link : goal.invariant-loop-link
invariant-loop-link l = AreAdded (take l.link-index l.link-items) l.fn.found.items l.found.items
