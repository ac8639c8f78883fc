-- What misread names have to do with.
use Rattle.std.specs.Prelude.{ℕ, List, [], ◌++◌, if◌then◌else◌}
use Rattle.std.specs.List.{flat_map}
use Rattle.std.specs.Option.{option_to_list}
use Rattle.mol_faults_misread.specs.misread_faults.Found.{Found, is_name}
use Rattle.mol_faults_misread.specs.body_misreads.Noted.{Misreading}
use Rattle.mol_spell_rules.specs.references.References.{Target}
use Rattle.mol_spell_rules.specs.FaultList.{FaultTarget}
use Rattle.mol_values_types.specs.declared.cell.Cell.{Cell}

-- what of the program it is the name of, and what it reads as instead
abbrev pub met_by : Misreading → List Target
met_by name = option_to_list name.named ++ option_to_list name.instead

-- of the name of this number in a cell, with this target
module _ (at : Cell) (number : ℕ) (target : FaultTarget) where
  abbrev pub met_in : Found → List Target
  met_in found = if is_name at number target found then met_by found.name else []

  abbrev pub met_among : List Found → List Target
  met_among names = flat_map met_in names
