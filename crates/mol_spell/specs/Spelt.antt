-- Source files as the code has them.
use Rattle.mol_spell_rules.specs.SpelledUnits.{SpelledUnit, UnitKey, unit_tree}
use Rattle.mol_spell.specs.declared.spelt_unit.SpeltUnit.{SpeltUnit}
use Rattle.mol_table_rules.specs.Program.{Program}

abbrev pub spelled_of : SpeltUnit → SpelledUnit
spelled_of unit = record { class = unit.class; path = unit.path; unit = unit.unit }

-- the file of a key
abbrev pub unit_at : Program → UnitKey → SpelledUnit
unit_at program key = record { class = key.class; path = key.path; unit = unit_tree program key.class }
