use Rattle.std.proofs.Common.{take}
use Rattle.mol_faults_support.specs.Ways.{AreAbove, IsClosed}
use Rattle.mol_faults_support.proofs.ways.classes_above.Given as goal

abbrev pub invariant-loop-declaration : goal.invariant-loop-declaration
invariant-loop-declaration l = record {
  closed : IsClosed l.table l.met.keys;
  above : AreAbove l.table (take l.declaration-index l.declarations) l.met.keys;
}
