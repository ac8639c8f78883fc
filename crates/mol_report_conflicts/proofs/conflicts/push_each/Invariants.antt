use Rattle.std.proofs.Common.{◌≡◌, ◌++◌, take}
use Rattle.std.specs.List.{flat_map}
use Rattle.mol_report_conflicts.specs.Conflicts.{conflict_line}
use Rattle.mol_report_conflicts.proofs.conflicts.push_each.Given as goal

abbrev pub invariant-loop-conflict : goal.invariant-loop-conflict
invariant-loop-conflict l = l.out.items ≡ l.fn.out.items ++ flat_map (conflict_line l.labels) (take l.conflict-index l.list)
