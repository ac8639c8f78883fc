-- The form of each slot's values.
use Rattle.std.specs.Prelude.{Bool, true, ◌&&◌, not, nat_le, List, [], ◌∷◌, length, map}
use Rattle.std.specs.List.{list_all, list_any}
use Rattle.std.specs.Option.{option_map_or}
use Rattle.mol_base.specs.Limits.{max_items}
use Rattle.mol_base.specs.Modifiers.{class_words, field_words, kept_words}
use Rattle.mol_base.specs.declared.ident.Id.{Id}
use Rattle.mol_table_rules.specs.ExpressionForms.{is_initial}
use Rattle.mol_table_rules.specs.Program.{same_id}
use Rattle.mol_values_types.specs.Slots.{slot_of, same_slot}
use Rattle.mol_table_rules.specs.StatementForms.{is_body}
use Rattle.mol_values_types.specs.TokenForms.{is_name, is_dotted, is_filler, are_comments, is_empty}
use Rattle.mol_table_rules.specs.TypeForms.{is_type, is_void, is_result, is_class}
use Rattle.mol_values_types.specs.Words.{are_words}
use Rattle.mol_values_types.specs.declared.cell.Slot.{Slot}
use Rattle.mol_values_types.specs.declared.kind.MethodKind.TheVariants.{Constructor}
use Rattle.mol_values_types.specs.declared.known.Known.{Known}
use Rattle.mol_values_types.specs.declared.known.Known.TheVariants as knowns
use Rattle.mol_values_types.specs.declared.param.Param.{Param}
use Rattle.mol_values_types.specs.declared.value.Value.{Value}
use Rattle.mol_values_types.specs.declared.value.Value.TheVariants.{Live, Package, Owner, Method, Name, Super, Result, Params, Kind, Fixed, Words, Notes, Body, Value as FieldValue}

abbrev pub is_param : Param → Bool
is_param param = is_name param.name && is_type param.ty && is_filler param.filler

-- no identity stands twice
abbrev pub differ : List Id → Bool
differ [] = true
differ (id ∷ ids) = not (list_any (same_id id) ids) && differ ids

-- at most 255 parameters, none twice
abbrev pub are_params : List Param → Bool
are_params params = list_all is_param params && nat_le (length params) max_items && differ (map (λ (param : Param). param.id) params)

-- What a value may be in a cell of what is known so. A constructor has no name of its own, gives no result and is not static
-- (JLS 8.8), so these cells hold the empty text, `void` and no. Comments at the head and at the tail of braces are a class's.
abbrev pub is_formed : Known → Value → Bool
is_formed known (Live live) = true
is_formed known (Package name) = is_dotted name
is_formed known (Owner owner) = true
is_formed known (Method method) = true
is_formed (knowns.Method Constructor) (Name name) = is_empty name
is_formed known (Name name) = is_name name
is_formed known (Super parent) = option_map_or is_class parent true
is_formed (knowns.Method Constructor) (Result ty) = is_void ty
is_formed known (Result ty) = is_result ty
is_formed known (Params params) = are_params params
is_formed known (Kind kind) = true
is_formed (knowns.Method Constructor) (Fixed fixed) = not fixed
is_formed known (Fixed fixed) = true
is_formed knowns.Class (Words words) = are_words class_words words.texts
is_formed knowns.Field (Words words) = are_words field_words words.texts
is_formed known (Words words) = are_words kept_words words.texts
is_formed knowns.Class (Notes notes) = are_comments notes.front && are_comments notes.head && are_comments notes.tail
is_formed known (Notes notes) = are_comments notes.front && is_empty notes.head && is_empty notes.tail
is_formed known (Body body) = option_map_or is_body body true
is_formed known (FieldValue ty init) = is_type ty && option_map_or is_initial init true

-- a value has the form of this slot of what is known so
abbrev pub has_form : Known → Slot → Value → Bool
has_form known slot value = same_slot (slot_of value) slot && is_formed known value
