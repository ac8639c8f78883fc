-- The conditions of the faults that are said over cells alone.
use Rattle.std.specs.Prelude.{◌≡◌, ℕ, Bool, false, IsTrue, IsFalse, ◌&&◌, ◌||◌, not, List, length, Option, None, Some}
use Rattle.std.specs.List.{list_all, Contains}
use Rattle.std.specs.Option.{option_map_or}
use Rattle.std.specs.FinMap.{get, entries}
use Rattle.std.specs.declared.cmp.Ordering.TheVariants.{Less}
use Rattle.mol_base.specs.Order.{id_cmp}
use Rattle.mol_base.specs.declared.ident.Id.{Id}
use Rattle.mol_table_rules.specs.Ancestors.{is_on_way}
use Rattle.mol_table_rules.specs.Life.{lives, lives_method, lists, is_living_decl, is_living_entity}
use Rattle.mol_table_rules.specs.Mentions.{Role, a_param, a_listed_param}
use Rattle.mol_table_rules.specs.Program.{Program, value_at, package_at, name_at, owner_at, params_at}
use Rattle.mol_table_rules.specs.Tidy.{references}
use Rattle.mol_values_types.specs.declared.cell.Cell.{Cell}
use Rattle.mol_values_types.specs.declared.kind.MethodKind.TheVariants.{Constructor}
use Rattle.mol_values_types.specs.declared.known.Known.{Known}
use Rattle.mol_values_types.specs.declared.known.Known.TheVariants as knowns
use Rattle.mol_values_types.specs.declared.value.Value.{Value}

-- ---- SameAddress

-- where a source names an entity: a class by package and name, a field by owner and name, a declaration of a method by owner,
-- name and number of parameters, that of a constructor by owner and number of parameters
pub data Address : Type 0 where
  class_address : (in_package name : List ℕ) → Address
  field_address : (owner : Option Id) (name : List ℕ) → Address
  method_address : (owner : Option Id) (name : List ℕ) (arity : ℕ) → Address
  constructor_address : (owner : Option Id) (arity : ℕ) → Address

abbrev pub decl_address : Program → Id → Id → Option Known → Address
decl_address program id method (Some (knowns.Method Constructor)) = constructor_address (owner_at program id) (length (params_at program method))
decl_address program id method known = method_address (owner_at program id) (name_at program method) (length (params_at program method))

abbrev pub address_as : Program → Id → Option Known → Option Address
address_as program id (Some knowns.Class) = Some (class_address (package_at program id) (name_at program id))
address_as program id (Some knowns.Field) = Some (field_address (owner_at program id) (name_at program id))
address_as program id (Some (knowns.Decl method)) = Some (decl_address program id method (get program.known method))
address_as program id known = None

-- the address of a class, a field or a declaration; nothing else has one
abbrev pub address : Program → Id → Option Address
address program id = address_as program id (get program.known id)

-- two that live share an address; the smaller identity goes first
pub record SameAddress (program : Program) (first second : Id) : Type 0 where
  pub ordered : id_cmp first second ≡ Less
  pub first_lives : IsTrue (lives program first)
  pub second_lives : IsTrue (lives program second)
  pub shared : Address
  pub first_has : address program first ≡ Some shared
  pub second_has : address program second ≡ Some shared

-- ---- Apart

-- the owner of the second declaration is that of the first, or an ancestor of it
abbrev pub is_above : Program → Option Id → Option Id → Bool
is_above program (Some owner) (Some above) = is_on_way program owner above
is_above program owner above = false

-- where this is a living declaration of the method, the owner of the other one is its owner, or an ancestor of it
abbrev pub is_above_living : Program → Id → Id → Id × Known → Bool
is_above_living program method decl below =
    not (is_living_decl program method below) || is_above program (owner_at program below.0) (owner_at program decl)

-- a living declaration of the method whose owner is, for each living declaration of the method, the owner or an ancestor of it
abbrev pub is_topmost : Program → Id → Id → Bool
is_topmost program method decl =
    option_map_or (λ known. is_living_decl program method (decl, known)) (get program.known decl) false
    && list_all (is_above_living program method decl) (entries program.known)

-- the method lives, and none of its declarations is topmost
pub record Apart (program : Program) (method : Id) : Type 0 where
  pub method_lives : IsTrue (lives_method program method)
  pub none_topmost : (decl : Id) → IsFalse (is_topmost program method decl)

-- ---- Missing

-- the method whose parameters a cell of this may name: a method's own, and that of a declaration
abbrev pub method_of : Id → Option Known → Option Id
method_of id (Some (knowns.Method kind)) = Some id
method_of id (Some (knowns.Decl method)) = Some method
method_of id known = None

-- a parameter is in the present list of the method of `owner`; a class and a field have none
abbrev pub is_present : Program → Id → Id → Bool
is_present program owner param = option_map_or (λ method. lists program method param) (method_of owner (get program.known owner)) false

-- What a cell of `owner` mentions is there: what is mentioned as a parameter is a present one of its method, all else lives.
abbrev pub is_there : Program → Id → Role → Id → Bool
is_there program owner a_param id = is_present program owner id
is_there program owner a_listed_param id = is_present program owner id
is_there program owner role id = lives program id

-- something lives whose cell, tidied, refers to what is not there
pub record Missing (program : Program) (at : Cell) (target : Id) : Type 0 where
  pub owner_lives : IsTrue (is_living_entity program at.id)
  pub value : Value
  pub holds : value_at program at.id at.slot ≡ Some value
  pub role : Role
  pub refers : Contains (references program value) (record { role = role; id = target })
  pub gone : IsFalse (is_there program at.id role target)
