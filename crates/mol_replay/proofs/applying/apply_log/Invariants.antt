use Rattle.mol_log_rules.specs.Logs.{change_of}
use Rattle.mol_op.proofs.Leaves.{FirstApplied}
use Rattle.mol_replay.proofs.applying.apply_log.Given as goal

abbrev pub invariant-loop-entry : goal.invariant-loop-entry
invariant-loop-entry l = FirstApplied l.entry-items change_of l.initial.table l.entry-index l.table
