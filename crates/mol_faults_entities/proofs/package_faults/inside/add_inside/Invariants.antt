use Rattle.std.proofs.Common.{◌≡◌, ◌++◌, filter_map, take}
use Rattle.mol_faults_entities.specs.package_faults.Pairs.{inside_of}
use Rattle.mol_faults_entities.proofs.package_faults.inside.add_inside.Given as goal

abbrev pub invariant-loop-row : goal.invariant-loop-row
invariant-loop-row l = l.pairs.items ≡ l.fn.pairs.items ++ filter_map (inside_of l.class l.name) (take l.row-index l.run)
