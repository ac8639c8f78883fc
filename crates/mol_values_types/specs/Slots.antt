-- Slots: which value has the form of which, and which of them each kind of entity has.
use Rattle.std.specs.Prelude.{◌==◌, Bool, false, List, [], ◌∷◌, Option, None, Some}
use Rattle.std.specs.List.{list_any}
use Rattle.mol_values_types.specs.Order.{slot_number}
use Rattle.mol_values_types.specs.declared.cell.Slot.{Slot}
use Rattle.mol_values_types.specs.declared.cell.Slot.TheVariants as slots
use Rattle.mol_values_types.specs.declared.kind.Kind.{Kind}
use Rattle.mol_values_types.specs.declared.kind.Kind.TheVariants as kinds
use Rattle.mol_values_types.specs.declared.known.Known.{Known}
use Rattle.mol_values_types.specs.declared.known.Known.TheVariants as knowns
use Rattle.mol_values_types.specs.declared.value.Value.{Value}
use Rattle.mol_values_types.specs.declared.value.Value.TheVariants as values

-- the slot whose form a value has
abbrev pub slot_of : Value → Slot
slot_of (values.Live live) = slots.Live
slot_of (values.Package name) = slots.Package
slot_of (values.Owner owner) = slots.Owner
slot_of (values.Method method) = slots.Method
slot_of (values.Name name) = slots.Name
slot_of (values.Super parent) = slots.Super
slot_of (values.Result ty) = slots.Result
slot_of (values.Params params) = slots.Params
slot_of (values.Kind kind) = slots.Kind
slot_of (values.Fixed fixed) = slots.Fixed
slot_of (values.Words words) = slots.Words
slot_of (values.Notes notes) = slots.Notes
slot_of (values.Body body) = slots.Body
slot_of (values.Value ty init) = slots.Value

abbrev pub same_slot : Slot → Slot → Bool
same_slot first second = slot_number first == slot_number second

-- what an identity names, of what is known of it
abbrev pub kind_of_known : Known → Kind
kind_of_known knowns.Class = kinds.Class
kind_of_known (knowns.Method kind) = kinds.Method
kind_of_known (knowns.Decl method) = kinds.Decl
kind_of_known knowns.Field = kinds.Field
kind_of_known (knowns.Param method) = kinds.Param

-- the slots of each kind, in their order. A parameter is no entity and has none
abbrev pub slots_of : Kind → List Slot
slots_of kinds.Class = slots.Live ∷ slots.Package ∷ slots.Name ∷ slots.Super ∷ slots.Words ∷ slots.Notes ∷ []
slots_of kinds.Method = slots.Name ∷ slots.Result ∷ slots.Params ∷ slots.Kind ∷ slots.Fixed ∷ []
slots_of kinds.Decl = slots.Live ∷ slots.Owner ∷ slots.Method ∷ slots.Words ∷ slots.Notes ∷ slots.Body ∷ []
slots_of kinds.Field = slots.Live ∷ slots.Owner ∷ slots.Name ∷ slots.Words ∷ slots.Notes ∷ slots.Value ∷ []
slots_of kinds.Param = []

-- whether what is known so has this slot; what is not known has none
abbrev pub has_slot : Option Known → Slot → Bool
has_slot None slot = false
has_slot (Some known) slot = list_any (same_slot slot) (slots_of (kind_of_known known))
