-- Expressions and types as they are kept, as those of the rules on names, with numbers of files as the keys of classes.
use Rattle.std.specs.Prelude.{ℕ, Option, option_map}
use Rattle.jav_names.specs.seen.Kept.{view_type, view_value}
use Rattle.mol_resolve_readings.specs.declared.meant.meant.Meant.{Meant}
use Rattle.mol_resolve_readings.specs.declared.meant.read_type.ReadType.{ReadType}
use Rattle.mol_resolve_rules.specs.ReadTrees as trees
use Rattle.mol_resolve_rules.specs.ReadTypes as types

abbrev pub view_meant : Meant → trees.Meant ℕ
view_meant value = record { tree = value.tree; is_this = value.is_this; static_type = view_value value.ty }

abbrev pub view_part : Option Meant → Option (trees.Meant ℕ)
view_part = option_map view_meant

abbrev pub view_read : ReadType → types.ReadType ℕ
view_read type = record { tree = type.tree; type = view_type type.ty }

abbrev pub view_reading : Option ReadType → Option (types.ReadType ℕ)
view_reading = option_map view_read
