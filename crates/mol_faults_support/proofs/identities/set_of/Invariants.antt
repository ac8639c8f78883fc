use Rattle.std.proofs.Common.{take}
use Rattle.mol_faults_support.specs.Declarations.{AreSame}
use Rattle.mol_faults_support.proofs.identities.set_of.Given as goal

abbrev pub invariant-loop-id : goal.invariant-loop-id
invariant-loop-id l = AreSame l.set.keys (take l.id-index l.ids)
