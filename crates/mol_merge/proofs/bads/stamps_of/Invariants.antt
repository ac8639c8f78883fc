use Rattle.std.proofs.Common.{◌≡◌, take}
use Rattle.std.specs.List.{flat_map}
use Rattle.mol_log_rules.specs.Logs.{history}
use Rattle.mol_merge.proofs.bads.stamps_of.Given as goal
use Rattle.mol_merge_rules.specs.Conflicts.{writers}

abbrev pub invariant-loop-at : goal.invariant-loop-at
invariant-loop-at l = l.stamps.items ≡ flat_map (writers (history l.one) (history l.other)) (take l.at-index l.cells)
