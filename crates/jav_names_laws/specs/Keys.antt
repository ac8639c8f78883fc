-- Keys of another view, and what rules on names look at and find, with these keys in place of its own.
use Rattle.std.specs.Prelude.{option_map}
use Rattle.jav_names.specs.Leftmost.{Leftmost, leftmost_variable, leftmost_class, leftmost_import, leftmost_outside}
use Rattle.jav_names.specs.Members.{Constructor, declared_constructor, default_constructor}
use Rattle.jav_names.specs.OnValues.{StaticType, primitive_value, null_value, void_value, mixed_value, outside_value, class_value, array_value, unread_value, OnValue, member, static_member, outside_member, missing_member, has_no_members, unread_member}
use Rattle.jav_names.specs.Types.{Header, TypeReading, class_read, imported, written, no_type}
use Rattle.jav_names.specs.Variables.{Place, Variable, local_variable, parameter_variable, field_variable}
use Rattle.jav_names.specs.Views.{ViewType, primitive_type, void_type, class_type, outside_type, array_type, unread_type, ViewClass, ViewField, ViewDeclaration, Found, found, outside, not_found}

-- a key of the other view for each key of a class and of a member
pub record Keys (C M D N : Type 0) : Type 0 where
  pub class : C → D
  pub member : M → N

-- ---- what is found

abbrev pub found_as : {X Y : Type 0} → (X → Y) → Found X → Found Y
found_as make (found x) = found (make x)
found_as make outside = outside
found_as make not_found = not_found

abbrev pub on_value_as : {X Y : Type 0} → (X → Y) → OnValue X → OnValue Y
on_value_as make (member x) = member (make x)
on_value_as make (static_member x) = static_member (make x)
on_value_as make outside_member = outside_member
on_value_as make missing_member = missing_member
on_value_as make has_no_members = has_no_members
on_value_as make unread_member = unread_member

-- ---- what holds keys of classes

abbrev pub type_as : {C D : Type 0} → (C → D) → ViewType C → ViewType D
type_as key (primitive_type name) = primitive_type name
type_as key void_type = void_type
type_as key (class_type class) = class_type (key class)
type_as key (outside_type text) = outside_type text
type_as key (array_type item) = array_type (type_as key item)
type_as key unread_type = unread_type

abbrev pub static_as : {C D : Type 0} → (C → D) → StaticType C → StaticType D
static_as key primitive_value = primitive_value
static_as key null_value = null_value
static_as key void_value = void_value
static_as key mixed_value = mixed_value
static_as key outside_value = outside_value
static_as key (class_value class) = class_value (key class)
static_as key (array_value item) = array_value (type_as key item)
static_as key unread_value = unread_value

abbrev pub reading_as : {C D : Type 0} → (C → D) → TypeReading C → TypeReading D
reading_as key (class_read class) = class_read (key class)
reading_as key (imported import rest) = imported import rest
reading_as key (written text) = written text
reading_as key no_type = no_type

abbrev pub class_as : {C D : Type 0} → (C → D) → ViewClass C → ViewClass D
class_as key class = record { key = key class.key; «package» = class.«package»; name = class.name }

abbrev pub header_as : {C D : Type 0} → (C → D) → Header C → Header D
header_as key header = record { own = option_map (class_as key) header.own; «package» = header.«package»; imports = header.imports }

abbrev pub place_as : {C D : Type 0} → (C → D) → Place C → Place D
place_as key place = record {
  header = header_as key place.header;
  class = key place.class;
  locals = place.locals;
  params = place.params;
}

-- ---- what holds keys of members too

module _ {C M D N : Type 0} (keys : Keys C M D N) where
  abbrev pub field_as : ViewField C M → ViewField D N
  field_as field = record {
    key = keys.member field.key;
    owner = keys.class field.owner;
    name = field.name;
    is_static = field.is_static;
    type = type_as keys.class field.type;
  }

  abbrev pub declaration_as : ViewDeclaration C M → ViewDeclaration D N
  declaration_as declared = record {
    key = keys.member declared.key;
    owner = keys.class declared.owner;
    name = declared.name;
    arity = declared.arity;
    kind = declared.kind;
    result = type_as keys.class declared.result;
  }

  abbrev pub constructor_as : Constructor C M → Constructor D N
  constructor_as (declared_constructor declared) = declared_constructor (declaration_as declared)
  constructor_as (default_constructor class) = default_constructor (keys.class class)

  abbrev pub variable_as : Variable C M → Variable D N
  variable_as (local_variable place) = local_variable place
  variable_as (parameter_variable place) = parameter_variable place
  variable_as (field_variable field) = field_variable (field_as field)

  abbrev pub leftmost_as : Leftmost C M → Leftmost D N
  leftmost_as (leftmost_variable variable) = leftmost_variable (variable_as variable)
  leftmost_as (leftmost_class class count) = leftmost_class (keys.class class) count
  leftmost_as (leftmost_import import) = leftmost_import import
  leftmost_as leftmost_outside = leftmost_outside
