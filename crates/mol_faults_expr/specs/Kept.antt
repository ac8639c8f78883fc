-- Misread names, and names that follow, as the code keeps them.
use Rattle.std.specs.Prelude.{Option, option_map}
use Rattle.std.specs.Borrow.{Bor}
use Rattle.jav_names.specs.DottedNames.{Names}
use Rattle.mol_faults_expr.specs.Noted.{Misreading}
use Rattle.mol_faults_expr.specs.declared.misreads.Misread.{Misread}
use Rattle.mol_faults_rules.specs.Kept.{kept_target}
use Rattle.mol_resolve_rules.specs.ReadTrees.{Mode}
use Rattle.mol_faults_rules.specs.Met.{kept_met}

abbrev pub kept_misread : Misread → Misreading
kept_misread misread = record {
  number = misread.number;
  target = kept_target misread.target;
  named = option_map kept_met misread.named;
  instead = option_map kept_met misread.instead;
}

-- how a name stands: alone, or before these after dots
abbrev pub mode_of : Option (Bor Names) → Mode
mode_of follow = option_map (λ (names : Bor Names). names.now) follow
