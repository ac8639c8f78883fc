use Rattle.std.proofs.Common.{◌≡◌, map, take}
use Rattle.std.specs.List.{filter}
use Rattle.mol_table_rules.specs.Life.{lives}
use Rattle.mol_table_numbers.specs.Looked.{rank_of}
use Rattle.mol_table.specs.Maps.{program_in}
use Rattle.mol_table_rules.specs.Renumber.{rank}
use Rattle.mol_table_numbers.proofs.order.ranks.Given as goal

abbrev pub invariant-loop-id : goal.invariant-loop-id
invariant-loop-id l = map rank_of l.ranks.items ≡ map (rank (program_in l.maps)) (filter (lives (program_in l.maps)) (take l.id-index l.id-items))
