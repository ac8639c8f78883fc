use Rattle.std.proofs.Common.{◌≡◌, flat_map, take}
use Rattle.mol_faults_entities.specs.package_faults.Pairs.{pairs_at}
use Rattle.mol_faults_entities.proofs.package_faults.inside.pairs.Given as goal

abbrev pub invariant-loop-id : goal.invariant-loop-id
invariant-loop-id l = l.pairs.items ≡ flat_map (pairs_at l.table l.rows) (take l.id-index l.id-items)
