-- Identities and cells, as reports write them.
use Rattle.std.specs.Prelude.{ℕ, List, [], ◌∷◌, ◌++◌, length, codes, Option, None, Some}
use Rattle.std.specs.FinMap.{get}
use Rattle.std.specs.Fmt.{decimal}
use Rattle.std.specs.Option.{option_map_or}
use Rattle.mol_base.specs.Identity.{spelled_id}
use Rattle.mol_base.specs.declared.ident.Id.{Id}
use Rattle.mol_resolve_rules.specs.StaticTypes.{present_param}
use Rattle.mol_table_rules.specs.Faults.{Address, class_address, field_address, method_address, constructor_address, address}
use Rattle.mol_table_rules.specs.Program.{Program, package_at, name_at}
use Rattle.mol_table_rules.specs.Renumber.{topmost}
use Rattle.mol_values_types.specs.declared.cell.Cell.{Cell}
use Rattle.mol_values_types.specs.declared.cell.Slot.{Slot}
use Rattle.mol_values_types.specs.declared.cell.Slot.TheVariants as slots
use Rattle.mol_values_types.specs.declared.kind.MethodKind.TheVariants.{Constructor}
use Rattle.mol_values_types.specs.declared.known.Known.{Known}
use Rattle.mol_values_types.specs.declared.known.Known.TheVariants as knowns
use Rattle.mol_values_types.specs.declared.param.Param.{Param}

-- the full name of a class: its package, a dot and its name
abbrev pub class_text : Program → Id → List ℕ
class_text base class = package_at base class ++ 46 ∷ name_at base class

-- that of an owner; there is one in a program that keeps the rules
abbrev pub owner_text : Program → Option Id → List ℕ
owner_text base None = []
owner_text base (Some class) = class_text base class

-- The address of a class is its full name, that of a member its class, a dot and its name; declarations have a slash and their number of
-- parameters then, and a constructor the name `new`.
abbrev pub address_text : Program → Address → List ℕ
address_text base (class_address in_package name) = in_package ++ 46 ∷ name
address_text base (field_address owner name) = owner_text base owner ++ 46 ∷ name
address_text base (method_address owner name arity) = owner_text base owner ++ 46 ∷ name ++ 47 ∷ decimal arity
address_text base (constructor_address owner arity) = owner_text base owner ++ 46 ∷ codes "new" ++ 47 ∷ decimal arity

-- the name under which a declaration of a method is written
abbrev pub declared_name : Program → Id → Option Known → List ℕ
declared_name base method (Some (knowns.Method Constructor)) = codes "new"
declared_name base method known = name_at base method

-- what is written where there is no address in the base, as of what came with a log
abbrev pub added : List ℕ
added = codes "added"

abbrev pub entity_label : Program → Id → List ℕ
entity_label base id = option_map_or (address_text base) (address base id) added

-- a method goes by its topmost declaration
abbrev pub method_label : Program → Id → List ℕ
method_label base method = option_map_or (entity_label base) (topmost base method) added

-- the name of a parameter; empty where its method lists it no more
abbrev pub param_name : Program → Id → List ℕ
param_name base id = option_map_or (λ (param : Param). param.name) (present_param base id) []

-- a parameter goes by its method, `#` and its name
abbrev pub label_as : Program → Id → Option Known → List ℕ
label_as base id (Some (knowns.Method kind)) = method_label base id
label_as base id (Some (knowns.Param method)) = method_label base method ++ 35 ∷ param_name base id
label_as base id known = entity_label base id

-- the address that an identity has in the base
abbrev pub label : Program → Id → List ℕ
label base id = label_as base id (get base.known id)

-- an identity and, in brackets, its label
abbrev pub id_text : Program → Id → List ℕ
id_text base id = spelled_id id ++ 91 ∷ label base id ++ 93 ∷ []

abbrev pub slot_text : Slot → List ℕ
slot_text slots.Live = codes "live"
slot_text slots.Package = codes "package"
slot_text slots.Owner = codes "owner"
slot_text slots.Method = codes "method"
slot_text slots.Name = codes "name"
slot_text slots.Super = codes "super"
slot_text slots.Result = codes "result"
slot_text slots.Params = codes "params"
slot_text slots.Kind = codes "kind"
slot_text slots.Fixed = codes "fixed"
slot_text slots.Words = codes "words"
slot_text slots.Notes = codes "notes"
slot_text slots.Body = codes "body"
slot_text slots.Value = codes "value"

-- a cell: its entity, a dot and its slot
abbrev pub cell_text : Program → Cell → List ℕ
cell_text base at = id_text base at.id ++ 46 ∷ slot_text at.slot
