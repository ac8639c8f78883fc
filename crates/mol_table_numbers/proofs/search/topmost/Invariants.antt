use Rattle.std.proofs.Common.{◌≡◌, drop}
use Rattle.std.specs.List.{find}
use Rattle.mol_table_rules.specs.Faults.{is_topmost}
use Rattle.mol_table.specs.Maps.{program_in}
use Rattle.mol_table_numbers.proofs.search.topmost.Given as goal

abbrev pub invariant-loop-id : goal.invariant-loop-id
invariant-loop-id l = find (is_topmost (program_in l.maps) l.fn.method) l.id-items ≡ find (is_topmost (program_in l.maps) l.fn.method) (drop l.id-index l.id-items)
