use Rattle.std.proofs.Common.{◌≡◌, filter_map, take}
use Rattle.mol_faults_support.specs.Links.{declared_link}
use Rattle.mol_faults_support.proofs.links.declared.Given as goal

abbrev pub invariant-loop-id : goal.invariant-loop-id
invariant-loop-id l = l.links.items ≡ filter_map (declared_link l.table) (take l.id-index l.id-items)
