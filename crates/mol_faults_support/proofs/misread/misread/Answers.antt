use Rattle.std.proofs.Common.{map}
use Rattle.mol_faults_rules.specs.Met.{kept_met}
use Rattle.mol_faults_support.proofs.OfTargets.{misread-rests}
use Rattle.mol_faults_support.proofs.misread.misread.Goals as goal

pub returns : goal.returns
returns c = λ number target met.
    misread-rests c.args.index.now c.args.at.now number target (map kept_met c.args.met.now) met c.in_ok-cells.cells.items _ _
    c.in_ok-cells.ensures c.in_ok-add_cell.ensures c.in_ok-add_targets.ensures
