use Rattle.std.proofs.Common.{◌≡◌, filter_map, take}
use Rattle.mol_faults_support.specs.Links.{constructor_link}
use Rattle.mol_faults_support.proofs.links.constructors.Given as goal

abbrev pub invariant-loop-id : goal.invariant-loop-id
invariant-loop-id l = l.links.items ≡ filter_map (constructor_link l.table) (take l.id-index l.id-items)
