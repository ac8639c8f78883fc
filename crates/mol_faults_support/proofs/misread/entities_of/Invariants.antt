use Rattle.std.proofs.Common.{◌≡◌, filter_map, take}
use Rattle.mol_faults_rules.specs.Met.{kept_met}
use Rattle.mol_faults_support.specs.Met.{entity_of}
use Rattle.mol_faults_support.proofs.misread.entities_of.Given as goal

abbrev pub invariant-loop-target : goal.invariant-loop-target
invariant-loop-target l = l.ids.items ≡ filter_map (λ target. entity_of l.table (kept_met target)) (take l.target-index l.met)
