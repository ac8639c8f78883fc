use Rattle.std.proofs.Common.{◌≡◌, filter_map, take}
use Rattle.mol_faults_entities.specs.package_faults.Packages.{living_row}
use Rattle.mol_faults_entities.proofs.package_faults.package_rows.unsorted_rows.Given as goal

abbrev pub invariant-loop-id : goal.invariant-loop-id
invariant-loop-id l = l.rows.items ≡ filter_map (living_row l.table) (take l.id-index l.id-items)
