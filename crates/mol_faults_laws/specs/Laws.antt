-- The laws of the first fault.
use Rattle.std.specs.Prelude.{◌≡◌, ◌⊎◌}
use Rattle.mol_faults.specs.First.{IsFirstFault}
use Rattle.mol_spell_rules.specs.Clean.{Clean}
use Rattle.mol_spell_rules.specs.FaultList.{Fault}
use Rattle.mol_table_rules.specs.Program.{Program}

-- Each program is clean or has a first fault, and not both; and it has no two of these.
pub record FirstFaultTold : Type 0 where
  pub either : (program : Program) → Clean program ⊎ ((fault : Fault) × IsFirstFault program fault)
  pub apart : (program : Program) (fault : Fault) → Clean program → ¬ IsFirstFault program fault
  pub one : (program : Program) (first second : Fault) → IsFirstFault program first → IsFirstFault program second → first ≡ second
