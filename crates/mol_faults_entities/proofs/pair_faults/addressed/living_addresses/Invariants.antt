use Rattle.std.proofs.Common.{◌≡◌, map, filter_map, take}
use Rattle.mol_faults_entities.specs.pair_faults.Addresses.{located, located_at}
use Rattle.mol_faults_entities.proofs.pair_faults.addressed.living_addresses.Given as goal

abbrev pub invariant-loop-id : goal.invariant-loop-id
invariant-loop-id l = map located l.rows.items ≡ filter_map (located_at l.table) (take l.id-index l.id-items)
