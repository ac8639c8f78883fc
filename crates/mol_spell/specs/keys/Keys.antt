-- Keys of files, as the code has them.
use Rattle.std.specs.Prelude.{Option, option_map}
use Rattle.mol_spell_rules.specs.SpelledUnits.{UnitKey as Key}
use Rattle.mol_spell.specs.declared.keys.unit_key.UnitKey.{UnitKey}

abbrev pub key_of : UnitKey → Key
key_of key = record { path = key.path; class = key.class }

abbrev pub maybe_key : Option UnitKey → Option Key
maybe_key key = option_map key_of key
