-- What files say of a cell has the form of its slot.
use Rattle.std.proofs.Common.{◌≡◌, ℕ, Option, Some, None, option_map, slice_get, refl, sym, ◌∙◌, ap}
use Rattle.std.specs.Option.{option_and_then}
use Rattle.jav_tree.specs.declared.types.TypeName.{TypeName}
use Rattle.jav_tree.specs.declared.unit.Member.{Member}
use Rattle.jav_tree.specs.declared.unit.Member.TheVariants as member
use Rattle.jav_names.specs.UnitViews.{MemberKey}
use Rattle.jav_names.specs.Views.{ViewDeclaration}
use Rattle.mol_resolve_rules.proofs.FilesStand.{some-same}
use Rattle.mol_resolve_rules.specs.Expected.{super_cell, cell_of_class, body_cell, value_cell, method_cell, cell_of_member, result_cell, cell_of_method, value_of}
use Rattle.mol_resolve_rules.specs.Files.{File, Files, PlacedMember, member_at}
use Rattle.mol_resolve_rules.specs.Numbering.{Numbered, numbered_class, numbered_member, numbered_method, numbered_param}
use Rattle.mol_resolve_rules.specs.ReadFiles.{member_reader}
use Rattle.mol_resolve_rules.specs.Readers.{Reader}
use Rattle.mol_values_types.specs.Slots.{slot_of}
use Rattle.mol_values_types.specs.declared.cell.Slot.{Slot}
use Rattle.mol_values_types.specs.declared.cell.Slot.TheVariants as slots
use Rattle.mol_values_types.specs.declared.value.Value.{Value}
use Rattle.mol_resolve_laws.proofs.Gives.{none-some}

abbrev HasSlot : Slot → Option Value → Type 0
HasSlot slot said = (value : Value) → said ≡ Some value → slot_of value ≡ slot

no-value : (slot : Slot) → HasSlot slot None
no-value slot value is = absurd (none-some is)

this-value : (v : Value) → HasSlot (slot_of v) (Some v)
this-value v value is = ap slot_of (sym (some-same is))

made-value : {A : Type 0} (slot : Slot) (make : A → Value) (o : Option A) → ((a : A) → slot_of (make a) ≡ slot)
    → HasSlot slot (option_map make o)
made-value slot make None each value is = no-value slot value is
made-value slot make (Some a) each value is = ap slot_of (sym (some-same is)) ∙ each a

module _ (files : Files) where
  super-slot : (file : ℕ × File) (parent : Option TypeName) → HasSlot slots.Super (super_cell files file parent)
  super-slot file None = this-value _
  super-slot file (Some name) = made-value slots.Super _ _ (λ a. refl)

  class-slot : (number : ℕ) (slot : Slot) (file : File) → HasSlot slot (cell_of_class files number slot file)
  class-slot number slots.Live file = this-value _
  class-slot number slots.Package file = this-value _
  class-slot number slots.Name file = this-value _
  class-slot number slots.Super file = super-slot (number, file) file.unit.class.parent
  class-slot number slots.Words file = this-value _
  class-slot number slots.Notes file = this-value _
  class-slot number slots.Owner file = no-value slots.Owner
  class-slot number slots.Method file = no-value slots.Method
  class-slot number slots.Result file = no-value slots.Result
  class-slot number slots.Params file = no-value slots.Params
  class-slot number slots.Kind file = no-value slots.Kind
  class-slot number slots.Fixed file = no-value slots.Fixed
  class-slot number slots.Body file = no-value slots.Body
  class-slot number slots.Value file = no-value slots.Value

  body-slot : (reader : Reader ℕ MemberKey) (m : Member) → HasSlot slots.Body (body_cell reader m)
  body-slot reader (member.Field f) = no-value slots.Body
  body-slot reader (member.Method m) = made-value slots.Body _ _ (λ a. refl)
  body-slot reader (member.Ctor c) = made-value slots.Body _ _ (λ a. refl)

  field-slot : (reader : Reader ℕ MemberKey) (m : Member) → HasSlot slots.Value (value_cell reader m)
  field-slot reader (member.Field f) = made-value slots.Value _ _ (λ a. refl)
  field-slot reader (member.Method m) = no-value slots.Value
  field-slot reader (member.Ctor c) = no-value slots.Value

  of_method-slot : (declared : Option (ViewDeclaration ℕ MemberKey)) → HasSlot slots.Method (method_cell files declared)
  of_method-slot None = no-value slots.Method
  of_method-slot (Some declared) = this-value _

  member-slot : (slot : Slot) (at : PlacedMember) → HasSlot slot (cell_of_member files slot at)
  member-slot slots.Live at = this-value _
  member-slot slots.Owner at = this-value _
  member-slot slots.Method at = of_method-slot at.declared
  member-slot slots.Name at = this-value _
  member-slot slots.Words at = this-value _
  member-slot slots.Notes at = this-value _
  member-slot slots.Body at = body-slot (member_reader files at) at.member
  member-slot slots.Value at = field-slot (member_reader files at) at.member
  member-slot slots.Package at = no-value slots.Package
  member-slot slots.Super at = no-value slots.Super
  member-slot slots.Result at = no-value slots.Result
  member-slot slots.Params at = no-value slots.Params
  member-slot slots.Kind at = no-value slots.Kind
  member-slot slots.Fixed at = no-value slots.Fixed

  result-slot : (reader : Reader ℕ MemberKey) (m : Member) → HasSlot slots.Result (result_cell reader m)
  result-slot reader (member.Field f) = this-value _
  result-slot reader (member.Method m) = made-value slots.Result _ _ (λ a. refl)
  result-slot reader (member.Ctor c) = this-value _

  method-slot : (slot : Slot) (at : PlacedMember) → HasSlot slot (cell_of_method files slot at)
  method-slot slots.Name at = this-value _
  method-slot slots.Result at = result-slot (member_reader files at) at.member
  method-slot slots.Params at = made-value slots.Params _ _ (λ a. refl)
  method-slot slots.Kind at = made-value slots.Kind _ at.declared (λ a. refl)
  method-slot slots.Fixed at = made-value slots.Fixed _ at.declared (λ a. refl)
  method-slot slots.Live at = no-value slots.Live
  method-slot slots.Package at = no-value slots.Package
  method-slot slots.Owner at = no-value slots.Owner
  method-slot slots.Method at = no-value slots.Method
  method-slot slots.Super at = no-value slots.Super
  method-slot slots.Words at = no-value slots.Words
  method-slot slots.Notes at = no-value slots.Notes
  method-slot slots.Body at = no-value slots.Body
  method-slot slots.Value at = no-value slots.Value

  of-some : {A : Type 0} (slot : Slot) (make : A → Option Value) (o : Option A) → ((a : A) → HasSlot slot (make a))
      → HasSlot slot (option_and_then make o)
  of-some slot make None each = no-value slot
  of-some slot make (Some a) each = each a

  pub value-slot : (item : Numbered) (slot : Slot) (value : Value) → value_of files item slot ≡ Some value → slot_of value ≡ slot
  value-slot (numbered_class number) slot =
      of-some slot (cell_of_class files number slot) (slice_get files number) (class-slot number slot)
  value-slot (numbered_member key) slot = of-some slot (cell_of_member files slot) (member_at files key) (member-slot slot)
  value-slot (numbered_method key) slot = of-some slot (cell_of_method files slot) (member_at files key) (method-slot slot)
  value-slot (numbered_param key place) slot = no-value slot
