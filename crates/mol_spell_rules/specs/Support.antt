-- The cells that a fault rests on: those that its condition looks at first, so that the operations that last wrote them are told with it.
-- They need not be all that it can go by. A creation by a default constructor, for one, becomes another one also by the parameters of a
-- constructor and by where that stands, and a name reads as something else also by what is added beside it.
use Rattle.std.specs.Prelude.{◌≡◌, ◌≢◌, ◌⊎◌, ℕ, IsTrue, List, [], ◌∷◌, ◌++◌, Some, Contains}
use Rattle.std.specs.FinMap.{get}
use Rattle.std.specs.List.Sorted.{IsStrictlySortedBy}
use Rattle.std.specs.Prelude.{◌↔◌}
use Rattle.mol_base.specs.declared.ident.Id.{Id}
use Rattle.mol_spell_rules.specs.references.References.{Target, class_target, field_target, method_target, param_target, default_target}
use Rattle.mol_table_rules.specs.Ancestors.{way}
use Rattle.mol_table_rules.specs.Mentions.{Role, a_called_method, a_static_method, a_constructor, mentions}
use Rattle.mol_table_rules.specs.Program.{Program, value_at, owner_at, method_of_param, cell}
use Rattle.mol_table_rules.specs.Tidy.{tidy}
use Rattle.mol_values_types.specs.Order.{cell_cmp}
use Rattle.mol_values_types.specs.Slots.{has_slot}
use Rattle.mol_values_types.specs.declared.cell.Cell.{Cell}
use Rattle.mol_values_types.specs.declared.cell.Slot.{Slot}
use Rattle.mol_values_types.specs.declared.cell.Slot.TheVariants as slots
use Rattle.mol_values_types.specs.declared.kind.MethodKind.TheVariants.{Constructor}
use Rattle.mol_values_types.specs.declared.known.Known.TheVariants as knowns
use Rattle.mol_values_types.specs.declared.value.Value.{Value}
use Rattle.jav_names.specs.DottedNames.{Name}
use Rattle.mol_spell_rules.specs.DefaultCreations.{default_creations}
use Rattle.mol_spell_rules.specs.FaultList.{FaultTarget, Fault, same_address, false_override, apart, outside_name, missing, misread, local_clash, package_is_class, fault_target}
use Rattle.mol_spell_rules.specs.NameFaults.{unit_reader, MisreadIn}
use Rattle.mol_spell_rules.specs.ReadInstead.{instead}

-- ---- cells of entities

-- A known declaration of a method, whether or not it lives.
abbrev pub IsDeclarationOf : Program → Id → Id → Type 0
IsDeclarationOf program method declaration = get program.known declaration ≡ Some (knowns.Decl method)

-- Where an identity has this one of several slots.
abbrev pub IsOneOf : Id → List Slot → Cell → Type 0
IsOneOf id these at = (slot : Slot) × (Contains these slot × (at ≡ cell id slot))

-- The cells that say whether an entity lives: its own, or those of the declarations of a method.
pub data LifeCell (program : Program) (id : Id) : Cell → Type 0 where
  own_life : IsTrue (has_slot (get program.known id) slots.Live) → LifeCell program id (cell id slots.Live)
  declared_life : {declaration : Id} → IsDeclarationOf program id declaration → LifeCell program id (cell declaration slots.Live)

-- ---- the address of an entity

-- The cells that say where an entity is found: of a declaration also those of its method.
pub data AddressCell (program : Program) (id : Id) : Cell → Type 0 where
  of_class : {at : Cell} → get program.known id ≡ Some knowns.Class
      → IsOneOf id (slots.Live ∷ slots.Package ∷ slots.Name ∷ []) at → AddressCell program id at
  of_field : {at : Cell} → get program.known id ≡ Some knowns.Field
      → IsOneOf id (slots.Live ∷ slots.Owner ∷ slots.Name ∷ []) at → AddressCell program id at
  of_declaration : {method : Id} {at : Cell} → IsDeclarationOf program method id
      → IsOneOf id (slots.Live ∷ slots.Owner ∷ slots.Method ∷ []) at → AddressCell program id at
  of_its_method : {method : Id} {at : Cell} → IsDeclarationOf program method id
      → IsOneOf method (slots.Name ∷ slots.Params ∷ []) at → AddressCell program id at

-- ---- superclasses

-- Going up from a class comes to another one, and to the third on the way or at its end.
pub record IsBetween (program : Program) (lower upper class : Id) : Type 0 where
  pub below : List Id
  pub above : List Id
  pub way : way program lower ≡ below ++ upper ∷ above
  pub met : Contains (below ++ upper ∷ []) class

-- so between the owners of two declarations, whichever is the lower one
pub record IsBetweenOwners (program : Program) (first second class : Id) : Type 0 where
  pub first_owner : Id
  pub second_owner : Id
  pub first_owned : owner_at program first ≡ Some first_owner
  pub second_owned : owner_at program second ≡ Some second_owner
  pub between : IsBetween program first_owner second_owner class ⊎ IsBetween program second_owner first_owner class

-- the owner of a declaration, or an ancestor of it
pub record IsAboveDeclaration (program : Program) (declaration class : Id) : Type 0 where
  pub owner : Id
  pub owned : owner_at program declaration ≡ Some owner
  pub met : Contains (way program owner) class

-- ---- values

-- a method or constructor that a value calls
pub record Calls (value : Value) (method : Id) : Type 0 where
  pub role : Role
  pub mentioned : Contains (mentions value) (record { role = role; id = method })
  pub called : (role ≡ a_called_method) ⊎ ((role ≡ a_static_method) ⊎ (role ≡ a_constructor))

-- a known declaration of a constructor of a class
pub record IsConstructorOf (program : Program) (class declaration : Id) : Type 0 where
  pub method : Id
  pub declares : IsDeclarationOf program method declaration
  pub is_constructor : get program.known method ≡ Some (knowns.Method Constructor)
  pub owned : owner_at program declaration ≡ Some class

-- ---- what a name is the name of

-- What a target has to do with: the entity itself; the declarations of a method; the method of a parameter, and its declarations.
pub data Concerns (program : Program) : Target → Id → Type 0 where
  the_class : {class : Id} → Concerns program (class_target class) class
  the_field : {field : Id} → Concerns program (field_target field) field
  the_method : {method : Id} → Concerns program (method_target method) method
  its_declaration : {method declaration : Id} → IsDeclarationOf program method declaration
      → Concerns program (method_target method) declaration
  its_class : {class : Id} → Concerns program (default_target class) class
  its_method : {param method : Id} → method_of_param program param ≡ Some method → Concerns program (param_target param) method
  declaration_of_its_method : {param method declaration : Id} → method_of_param program param ≡ Some method
      → IsDeclarationOf program method declaration → Concerns program (param_target param) declaration

-- A cell that says where something is and what it is, but for its modifiers, comments, body and value.
pub record HeaderCell (program : Program) (id : Id) (at : Cell) : Type 0 where
  pub slot : Slot
  pub is : at ≡ cell id slot
  pub has : IsTrue (has_slot (get program.known id) slot)
  pub no_words : slot ≢ slots.Words
  pub no_notes : slot ≢ slots.Notes
  pub no_body : slot ≢ slots.Body
  pub no_value : slot ≢ slots.Value

-- A reference that is misread is to have this target; or in one of the files where its cell prints it reads as this one instead.
pub data IsMetBy (program : Program) (at : Cell) (number : ℕ) (recorded : FaultTarget) : Target → Type 0 where
  is_recorded : {class : Id} {target : Target} → fault_target target ≡ recorded → MisreadIn (tidy program) class at number target
      → IsMetBy program at number recorded target
  read_instead : {class : Id} {target other : Target} (misread : MisreadIn (tidy program) class at number target)
      → fault_target target ≡ recorded → instead (unit_reader (tidy program) class at) misread.reference ≡ Some other
      → IsMetBy program at number recorded other

-- ---- all of them

-- The cell is one that the fault rests on.
pub data Supports (program : Program) : Fault → Cell → Type 0 where
  first_address : {first second : Id} {at : Cell} → AddressCell program first at → Supports program (same_address first second) at
  second_address : {first second : Id} {at : Cell} → AddressCell program second at → Supports program (same_address first second) at
  first_overrides : {first second : Id} {at : Cell} → AddressCell program first at → Supports program (false_override first second) at
  second_overrides : {first second : Id} {at : Cell} → AddressCell program second at → Supports program (false_override first second) at
  between_owners : {first second class : Id} → IsBetweenOwners program first second class
      → Supports program (false_override first second) (cell class slots.Super)
  declaration_apart : {method declaration : Id} {at : Cell} → IsDeclarationOf program method declaration
      → IsOneOf declaration (slots.Live ∷ slots.Owner ∷ slots.Method ∷ []) at → Supports program (apart method) at
  above_apart : {method declaration class : Id} → IsDeclarationOf program method declaration
      → IsAboveDeclaration program declaration class → Supports program (apart method) (cell class slots.Super)
  name_outside : {method : Id} {at : Cell} → IsOneOf method (slots.Name ∷ slots.Params ∷ slots.Fixed ∷ []) at
      → Supports program (outside_name method) at
  declaration_outside : {method declaration : Id} {at : Cell} → IsDeclarationOf program method declaration
      → IsOneOf declaration (slots.Live ∷ slots.Method ∷ []) at → Supports program (outside_name method) at
  missing_in : {at : Cell} {target : Id} → Supports program (missing at target) at
  entity_of_missing : {at life : Cell} {target : Id} → LifeCell program at.id life → Supports program (missing at target) life
  life_of_missing : {at life : Cell} {target : Id} → LifeCell program target life → Supports program (missing at target) life
  params_of_missing : {at : Cell} {target method : Id} → method_of_param program target ≡ Some method
      → Supports program (missing at target) (cell method slots.Params)
  method_of_cell : {at : Cell} {target method : Id} → IsDeclarationOf program method at.id
      → Supports program (missing at target) (cell at.id slots.Method)
  called_in : {at : Cell} {target method : Id} {value : Value} → value_at program at.id at.slot ≡ Some value → Calls value method
      → Supports program (missing at target) (cell method slots.Params)
  created_in : {at : Cell} {target class declaration : Id} {value : Value} → value_at program at.id at.slot ≡ Some value
      → Contains (default_creations value) class → IsConstructorOf program class declaration
      → Supports program (missing at target) (cell declaration slots.Live)
  misread_in : {at : Cell} {number : ℕ} {target : FaultTarget} → Supports program (misread at number target) at
  entity_of_misread : {at life : Cell} {number : ℕ} {target : FaultTarget} → LifeCell program at.id life
      → Supports program (misread at number target) life
  target_of_misread : {at header : Cell} {number : ℕ} {target : FaultTarget} {met : Target} {id : Id}
      → IsMetBy program at number target met → Concerns program met id → HeaderCell program id header
      → Supports program (misread at number target) header
  clash_in : {at : Cell} {name : Name} → Supports program (local_clash at name) at
  declaration_of_clash : {at here : Cell} {name : Name} → IsOneOf at.id (slots.Live ∷ slots.Method ∷ []) here
      → Supports program (local_clash at name) here
  params_of_clash : {at : Cell} {name : Name} {method : Id} → IsDeclarationOf program method at.id
      → Supports program (local_clash at name) (cell method slots.Params)
  of_package : {class inside : Id} {at : Cell} → IsOneOf class (slots.Live ∷ slots.Package ∷ slots.Name ∷ []) at
      → Supports program (package_is_class class inside) at
  of_inside : {class inside : Id} {at : Cell} → IsOneOf inside (slots.Live ∷ slots.Package ∷ slots.Name ∷ []) at
      → Supports program (package_is_class class inside) at

-- These are all cells that a fault rests on, each once, in order.
pub record IsSupport (program : Program) (fault : Fault) (cells : List Cell) : Type 0 where
  pub ascending : IsStrictlySortedBy cell_cmp cells
  pub each : (at : Cell) → Contains cells at ↔ Supports program fault at
