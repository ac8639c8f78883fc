use Rattle.mol_op.proofs.Leaves.{FirstApplied}
use Rattle.mol_op.proofs.entries.apply_all.Given as goal

abbrev pub invariant-loop-at : goal.invariant-loop-at
invariant-loop-at g l = FirstApplied l.entries (λ entry. record {
  fault = g.O.Operation.fault entry.operation entry.tag;
  writes = g.O.Operation.writes entry.operation;
  names = g.O.Operation.names entry.operation;
}) l.initial.table l.at l.table
