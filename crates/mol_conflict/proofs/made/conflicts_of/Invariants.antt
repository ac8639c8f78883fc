use Rattle.std.proofs.Common.{take}
use Rattle.std.specs.List.{AllZip}
use Rattle.mol_conflict.proofs.made.conflicts_of.Given as goal
use Rattle.mol_conflict.specs.Made.{IsMade}
use Rattle.mol_log_rules.specs.Logs.{history}

abbrev pub invariant-loop-pair : goal.invariant-loop-pair
invariant-loop-pair l =
    AllZip (IsMade l.one.left.now l.other.left.now (history l.one.writes.now) (history l.other.writes.now)) (take l.pair-index l.pairs)
    l.conflicts
