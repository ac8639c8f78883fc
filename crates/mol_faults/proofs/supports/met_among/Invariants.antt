use Rattle.std.proofs.Common.{◌≡◌, map, take}
use Rattle.mol_faults_rules.specs.Kept.{kept_target}
use Rattle.mol_faults.specs.Met.{met_among}
use Rattle.mol_faults_misread.specs.misread_faults.Found.{kept_name}
use Rattle.mol_faults_rules.specs.Met.{kept_met}
use Rattle.mol_faults.proofs.supports.met_among.Given as goal

abbrev pub invariant-loop-name : goal.invariant-loop-name
invariant-loop-name l =
    map kept_met l.met.items ≡ met_among l.at l.number (kept_target l.target) (map kept_name (take l.name-index l.names))
