use Rattle.std.proofs.Common.{◌≡◌, ◌+◌, drop}
use Rattle.mol_table_rules.specs.Room.{names_among}
use Rattle.mol_table.proofs.maps.change.count_among.Given as goal

abbrev pub invariant-loop-value : goal.invariant-loop-value
invariant-loop-value l = l.count + names_among (drop l.value-index l.values) ≡ names_among l.values
