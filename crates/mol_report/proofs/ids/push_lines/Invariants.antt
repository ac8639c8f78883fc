use Rattle.std.proofs.Common.{◌≡◌, ◌++◌, take}
use Rattle.std.specs.List.{flat_map}
use Rattle.mol_report.specs.Ids.{line_at}
use Rattle.mol_report.proofs.ids.push_lines.Given as goal

abbrev pub invariant-loop-id : goal.invariant-loop-id
invariant-loop-id l = l.out.items ≡ l.fn.out.items ++ flat_map (line_at l.labels) (take l.id-index l.id-items)
