-- Clean programs: each name in their files will mean what it means.
use Rattle.std.specs.Prelude.{ℕ}
use Rattle.mol_base.specs.declared.ident.Id.{Id}
use Rattle.mol_spell_rules.specs.references.References.{Target}
use Rattle.mol_table_rules.specs.Faults.{SameAddress, Apart, Missing}
use Rattle.mol_table_rules.specs.Program.{Program}
use Rattle.mol_values_types.specs.declared.cell.Cell.{Cell}
use Rattle.jav_names.specs.DottedNames.{Name}
use Rattle.mol_spell_rules.specs.NameFaults.{FalseOverride, OutsideName, Misread, LocalClash, PackageIsClass}

-- A program is clean where it has none of the eight faults.
pub record Clean (program : Program) : Type 0 where
  pub addresses : (first second : Id) → ¬ (SameAddress program first second)
  pub overrides : (first second : Id) → ¬ (FalseOverride program first second)
  pub together : (method : Id) → ¬ (Apart program method)
  pub names : (method : Id) → ¬ (OutsideName program method)
  pub present : (at : Cell) (target : Id) → ¬ (Missing program at target)
  pub read : (at : Cell) (number : ℕ) (target : Target) → ¬ (Misread program at number target)
  pub locals : (at : Cell) (name : Name) → ¬ (LocalClash program at name)
  pub packages : (class inside : Id) → ¬ (PackageIsClass program class inside)
