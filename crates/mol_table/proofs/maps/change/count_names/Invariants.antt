use Rattle.std.proofs.Common.{◌≡◌, ◌+◌, drop}
use Rattle.mol_table_rules.specs.Room.{names_of}
use Rattle.mol_table.proofs.maps.change.count_names.Given as goal

abbrev pub invariant-loop-entity : goal.invariant-loop-entity
invariant-loop-entity l = l.count + names_of (drop l.entity-index l.entities) ≡ names_of l.entities
