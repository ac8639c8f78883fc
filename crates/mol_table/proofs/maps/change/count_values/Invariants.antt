use Rattle.std.proofs.Common.{◌≡◌, ◌+◌, drop}
use Rattle.mol_table_rules.specs.Room.{values_in}
use Rattle.mol_table.proofs.maps.change.count_values.Given as goal

abbrev pub invariant-loop-entity : goal.invariant-loop-entity
invariant-loop-entity l = l.count + values_in (drop l.entity-index l.entities) ≡ values_in l.entities
