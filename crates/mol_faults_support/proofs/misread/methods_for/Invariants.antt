use Rattle.std.proofs.Common.{◌≡◌, filter_map, take}
use Rattle.mol_faults_rules.specs.Met.{kept_met}
use Rattle.mol_faults_support.specs.Met.{method_for}
use Rattle.mol_faults_support.proofs.misread.methods_for.Given as goal

abbrev pub invariant-loop-target : goal.invariant-loop-target
invariant-loop-target l = l.ids.items ≡ filter_map (λ target. method_for l.table (kept_met target)) (take l.target-index l.met)
