-- Faults of what two logs leave together, by the entries that they name.
use Rattle.std.specs.FinMap.{get}
use Rattle.std.specs.Prelude.{◌≡◌}
use Rattle.mol_faults_rules.specs.Kept.{kept_fault}
use Rattle.mol_faults_rules.specs.declared.conflict.Conflict.{Conflict}
use Rattle.mol_faults_rules.specs.declared.fault.Fault.{Fault as Kept}
use Rattle.mol_log.specs.declared.log.Log.{Log}
use Rattle.mol_log_rules.specs.Histories.{after}
use Rattle.mol_log_rules.specs.Logs.{history}
use Rattle.mol_merge_laws.specs.PartLaws.{GoTogether, IsLeftIn}
use Rattle.mol_merge_rules.specs.Conflicts.{IsBad, NamesBoth}
use Rattle.mol_merge_rules.specs.United.{united}
use Rattle.mol_spell_rules.specs.Clean.{Clean}
use Rattle.mol_spell_rules.specs.FaultList.{Fault}
use Rattle.mol_spell_rules.specs.Support.{Supports}
use Rattle.mol_table_rules.specs.Program.{Program}
use Rattle.mol_table_rules.specs.Rules.{IsProgram}
use Rattle.mol_values_types.specs.declared.cell.Cell.{Cell}

-- No part of the program that keeps the rules and holds what it does in each cell which the fault rests on is clean.
abbrev pub RestsIn : Program → Fault → Type 0
RestsIn whole fault = (part : Program) → IsProgram part → IsLeftIn whole part
    → ((at : Cell) → Supports whole fault at → get whole.cells at ≡ get part.cells at) → ¬ Clean part

pub record BadsNamed : Type 0 where
  -- where each of two logs leaves a clean program, such a fault names an entry of each
  pub named : (base : Program) (one other : Log) → GoTogether base one other → Clean (after base (history one))
      → Clean (after base (history other)) → (fault : Kept) (conflict : Conflict) → IsBad base (history one) (history other) fault conflict
      → RestsIn (united base (history one) (history other)) (kept_fault fault) → NamesBoth (history one) (history other) conflict
