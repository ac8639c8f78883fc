use Rattle.std.proofs.Common.{◌≡◌, map, filter_map, take}
use Rattle.mol_faults_entities.specs.override_faults.Declarations.{declared_at, row_of}
use Rattle.mol_faults_entities.proofs.override_faults.rows.declarations.Given as goal

abbrev pub invariant-loop-id : goal.invariant-loop-id
invariant-loop-id l = map row_of l.rows.items ≡ filter_map (declared_at l.table l.paths.positions.entries) (take l.id-index l.id-items)
