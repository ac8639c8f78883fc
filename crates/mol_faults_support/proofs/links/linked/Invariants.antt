use Rattle.std.proofs.Common.{take}
use Rattle.mol_faults_support.specs.Links.{AreLinked}
use Rattle.mol_faults_support.proofs.links.linked.Given as goal

abbrev pub invariant-loop-key : goal.invariant-loop-key
invariant-loop-key l = AreLinked l.links (take l.key-index l.keys) l.found.items
