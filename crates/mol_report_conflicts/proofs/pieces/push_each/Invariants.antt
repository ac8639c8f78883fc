use Rattle.std.proofs.Common.{◌≡◌, ◌++◌, take}
use Rattle.std.specs.List.{flat_map}
use Rattle.mol_report_conflicts.specs.Conflicts.{stamp_text}
use Rattle.mol_report_conflicts.proofs.pieces.push_each.Given as goal

abbrev pub invariant-loop-stamp : goal.invariant-loop-stamp
invariant-loop-stamp l = l.out.items ≡ l.fn.out.items ++ flat_map stamp_text (take l.stamp-index l.stamps)
