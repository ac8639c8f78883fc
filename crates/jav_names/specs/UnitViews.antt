-- The view of source files: a class has the number of its file as key, and a member that number and its own in the class.
use Rattle.std.specs.Prelude.{ℕ, List, [], map, length, Option, Some, None, option_map, if◌then◌else◌, slice_get, flat_map, filter_map}
use Rattle.std.specs.List.{enumerate_from}
use Rattle.std.specs.Option.{option_flatten}
use Rattle.std.specs.Ordering.{nat_cmp, on, then_cmp}
use Rattle.std.specs.declared.cmp.Ordering.{Ordering}
use Rattle.mol_base.specs.Modifiers.{has}
use Rattle.jav_tree.specs.declared.unit.Member.{Member}
use Rattle.jav_tree.specs.declared.unit.Member.TheVariants as member
use Rattle.jav_tree.specs.declared.unit.Unit.{Unit as Source}
use Rattle.jav_names.specs.DottedNames.{Names}
use Rattle.jav_names.specs.TypeTexts.{type_in}
use Rattle.jav_names.specs.Types.{Header}
use Rattle.jav_names.specs.Variables.{Place}
use Rattle.jav_names.specs.Views.{ViewType, void_type, ViewClass, ViewField, instance_method, static_method, constructor, ViewDeclaration, Classes, View}

-- ---- keys

pub record MemberKey : Type 0 where
  pub unit : ℕ
  pub member : ℕ

abbrev pub member_key_cmp : MemberKey → MemberKey → Ordering
member_key_cmp = then_cmp (on (λ key. key.unit) nat_cmp) (on (λ key. key.member) nat_cmp)

-- each with its number, from 0
abbrev pub numbered : {X : Type 0} → List X → List (ℕ × X)
numbered xs = enumerate_from 0 xs

-- ---- classes

abbrev pub class_of : ℕ × Source → ViewClass ℕ
class_of unit = record { key = unit.0; «package» = unit.1.«package»; name = unit.1.class.name }

abbrev pub classes_of : List Source → Classes ℕ
classes_of units = record { cmp = nat_cmp; items = map class_of (numbered units) }

abbrev pub header_of : ℕ × Source → Header ℕ
header_of unit = record { own = Some (class_of unit); «package» = unit.1.«package»; imports = unit.1.imports }

-- ---- members

abbrev pub field_in : Classes ℕ → ℕ × Source → ℕ × Member → Option (ViewField ℕ MemberKey)
field_in classes unit (number, member.Field field) = Some (record {
  key = record { unit = unit.0; member = number };
  owner = unit.0;
  name = field.name;
  is_static = has field.words "static";
  type = type_in classes (header_of unit) field.ty;
})
field_in classes unit numbered_member = None

abbrev pub declaration_in : Classes ℕ → ℕ × Source → ℕ × Member → Option (ViewDeclaration ℕ MemberKey)
declaration_in classes unit (number, member.Method method) = Some (record {
  key = record { unit = unit.0; member = number };
  owner = unit.0;
  name = method.name;
  arity = length method.params;
  kind = if method.is_static then static_method else instance_method;
  result = type_in classes (header_of unit) method.result;
})
declaration_in classes unit (number, member.Ctor declared) = Some (record {
  key = record { unit = unit.0; member = number };
  owner = unit.0;
  name = [];
  arity = length declared.params;
  kind = constructor;
  result = void_type;
})
declaration_in classes unit numbered_member = None

abbrev pub fields_of : Classes ℕ → ℕ × Source → List (ViewField ℕ MemberKey)
fields_of classes unit = filter_map (field_in classes unit) (numbered unit.1.class.members)

abbrev pub declarations_of : Classes ℕ → ℕ × Source → List (ViewDeclaration ℕ MemberKey)
declarations_of classes unit = filter_map (declaration_in classes unit) (numbered unit.1.class.members)

-- ---- the view

-- what the class of a file extends
abbrev pub superclass_of : Classes ℕ → ℕ × Source → Option (ViewType ℕ)
superclass_of classes unit = option_map (type_in classes (header_of unit)) unit.1.class.parent

abbrev pub view_of : List Source → View ℕ MemberKey
view_of units = record {
  classes = classes_of units;
  member_cmp = member_key_cmp;
  fields = flat_map (fields_of (classes_of units)) (numbered units);
  declarations = flat_map (declarations_of (classes_of units)) (numbered units);
  superclass = λ number. option_flatten (slice_get (map (superclass_of (classes_of units)) (numbered units)) number);
}

-- a place in a file: in the body of a method or constructor with these parameters, or in a first value of a field, with these locals
-- in scope, the nearest last
abbrev pub place_in : ℕ × Source → Names → Names → Place ℕ
place_in unit locals params = record { header = header_of unit; class = unit.0; locals = locals; params = params }
