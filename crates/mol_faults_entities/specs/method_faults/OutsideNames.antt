-- Methods that have the name and the number of parameters of one of `Object` now and had not when they were added, or the other way round.
use Rattle.std.specs.Prelude.{Bool, true, false, ◌&&◌, cond, not, length, Option, Some}
use Rattle.std.specs.FinMap.{get}
use Rattle.jav_names.specs.Members.{is_object_method}
use Rattle.mol_base.specs.declared.ident.Id.{Id}
use Rattle.mol_table_rules.specs.Life.{lives}
use Rattle.mol_table_rules.specs.Program.{Program, value_at, name_at, params_at}
use Rattle.mol_values_types.specs.declared.cell.Slot.TheVariants as slots
use Rattle.mol_values_types.specs.declared.kind.MethodKind.TheVariants.{Instance, Static}
use Rattle.mol_values_types.specs.declared.known.Known.{Known}
use Rattle.mol_values_types.specs.declared.known.Known.TheVariants as knowns
use Rattle.mol_values_types.specs.declared.value.Value.{Value}
use Rattle.mol_values_types.specs.declared.value.Value.TheVariants as values

abbrev pub is_method : Option Known → Bool
is_method (Some (knowns.Method Instance)) = true
is_method (Some (knowns.Method Static)) = true
is_method known = false

-- a method that lives, and no constructor
abbrev pub is_living_method : Program → Id → Bool
is_living_method program id = is_method (get program.known id) && lives program id

-- whether what was noted is not what is so now
abbrev pub is_otherwise : Option Value → Bool → Bool
is_otherwise (Some (values.Fixed fixed)) now = cond fixed (not now) now
is_otherwise value now = false

abbrev pub is_noted_otherwise : Program → Id → Bool
is_noted_otherwise program method =
    is_otherwise (value_at program method slots.Fixed) (is_object_method (name_at program method) (length (params_at program method)))

abbrev pub has_outside_name : Program → Id → Bool
has_outside_name program id = is_living_method program id && is_noted_otherwise program id
