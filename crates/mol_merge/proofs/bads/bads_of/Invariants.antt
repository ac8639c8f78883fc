use Rattle.std.specs.List.{AllZip}
use Rattle.mol_log_rules.specs.Logs.{history}
use Rattle.mol_merge.proofs.bads.bads_of.Given as goal
use Rattle.mol_merge.specs.Finding.{IsBadIn}

abbrev pub invariant-loop-fault : goal.invariant-loop-fault
invariant-loop-fault l = AllZip (IsBadIn l.supports (history l.one) (history l.other)) l.yielded l.list
