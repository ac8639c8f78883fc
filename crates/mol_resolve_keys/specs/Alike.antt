-- Places where trees are read alike, but for the keys of what they are read among and for identities.
use Rattle.std.specs.Prelude.{◌≡◌, map, Contains}
use Rattle.std.specs.List.{AllZip}
use Rattle.mol_base.specs.declared.ident.Id.{Id}
use Rattle.jav_names.specs.Ancestors.{HasClass}
use Rattle.jav_names.specs.Types.{OwnStands}
use Rattle.jav_names.specs.Views.{ViewField, ViewDeclaration, View, IsOrdered}
use Rattle.jav_names_laws.specs.Alike.{LooksAlikeIn}
use Rattle.jav_names_laws.specs.Keys.{Keys, type_as, static_as, header_as, declaration_as}
use Rattle.mol_resolve_rules.specs.Locals.{Local, Locals}
use Rattle.mol_resolve_rules.specs.Readers.{Ids, Parameter, Reader}
use Rattle.mol_resolve_rules.specs.ReadTrees.{Meant}
use Rattle.mol_values_types.specs.Renamed.{rename_expr}

-- ---- with other keys

abbrev pub local_as : {C D : Type 0} → (C → D) → Local C → Local D
local_as key local = record { name = local.name; type = type_as key local.type }

abbrev pub locals_as : {C D : Type 0} → (C → D) → Locals C → Locals D
locals_as key locals = record { declared = map (local_as key) locals.declared; in_scope = locals.in_scope }

-- an expression as it is read, with other keys
abbrev pub meant_as : {C D : Type 0} → (C → D) → Meant C → Meant D
meant_as key value = record { tree = value.tree; is_this = value.is_this; static_type = static_as key value.static_type }

-- and with other identities
abbrev pub renamed_meant : {C : Type 0} → (Id → Id) → Meant C → Meant C
renamed_meant name value = record value { tree = rename_expr name value.tree }

-- ---- readers

-- The second names what stands in the view of the first as the first does, once it is renamed.
pub record IdsAlike {C M D N : Type 0} (keys : Keys C M D N) (name : Id → Id) (view : View C M) (first : Ids C M) (second : Ids D N)
    : Type 0 where
  pub classes : (class : C) → HasClass view.classes class → first.class_id class ≡ name (second.class_id (keys.class class))
  pub fields : (field : ViewField C M) → Contains view.fields field
      → first.member_id field.key ≡ name (second.member_id (keys.member field.key))
  pub methods : (declared : ViewDeclaration C M) → Contains view.declarations declared
      → first.method_id declared ≡ name (second.method_id (declaration_as keys declared))
  pub params : (declared : ViewDeclaration C M) → Contains view.declarations declared
      → first.param_ids declared ≡ map name (second.param_ids (declaration_as keys declared))

pub record ParameterAlike {C D : Type 0} (key : C → D) (name : Id → Id) (first : Parameter C) (second : Parameter D) : Type 0 where
  pub named : first.name ≡ second.name
  pub typed : type_as key first.type ≡ second.type
  pub known : first.id ≡ name second.id

-- The second has the keys of the first changed, and its identities are renamed to those of the first. Names read alike in both; what they
-- are found to be stands in the view of the first.
pub record ReadersAlike {C M D N : Type 0} (keys : Keys C M D N) (name : Id → Id) (first : Reader C M) (second : Reader D N) : Type 0 where
  pub looks : LooksAlikeIn keys first.view second.view
  pub ordered : IsOrdered first.view
  pub own : OwnStands first.view.classes first.header
  pub ids : IdsAlike keys name first.view first.ids second.ids
  pub header : header_as keys.class first.header ≡ second.header
  pub class : keys.class first.class ≡ second.class
  pub params : AllZip (ParameterAlike keys.class name) first.params second.params
  pub in_constructor : first.in_constructor ≡ second.in_constructor
