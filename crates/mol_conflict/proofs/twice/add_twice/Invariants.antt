use Rattle.std.proofs.Common.{◌≡◌, ◌++◌, drop}
use Rattle.mol_conflict.proofs.twice.add_twice.Given as goal
use Rattle.mol_conflict.specs.Found.{twice_in}
use Rattle.mol_log_rules.specs.Logs.{history}

abbrev pub invariant-loop-at : goal.invariant-loop-at
invariant-loop-at l = l.found.items ++ twice_in l.one.left.now l.other.left.now (history l.other.writes.now) (drop l.at-index l.cells)
    ≡ l.initial.found.items ++ twice_in l.one.left.now l.other.left.now (history l.other.writes.now) l.cells
