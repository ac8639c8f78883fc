-- What a printed name reads as, by the rules on names over the program (JLS 6.5).
use Rattle.std.specs.Prelude.{ℕ, [], ◌∷◌, ◌++◌, Option, Some, None, option_map, if◌then◌else◌, slice_get, codes}
use Rattle.mol_base.specs.declared.ident.Id.{Id}
use Rattle.mol_spell_rules.specs.references.References.{Target, class_target, field_target, method_target, param_target, default_target, local_target, outside_target, index_target}
use Rattle.jav_names.specs.DottedNames.{Name, Dotted, joined, cut}
use Rattle.jav_names.specs.Leftmost.{Leftmost, leftmost_variable, leftmost_class, leftmost_import, leftmost_outside}
use Rattle.jav_names.specs.LookUps.{type_named, variable, leftmost, method_from, super_method, constructor_from, super_constructor, field_on, method_on, index_on, field_through, method_through}
use Rattle.jav_names.specs.Members.{Constructor, declared_constructor, default_constructor}
use Rattle.jav_names.specs.OnValues.{OnValue, member, static_member, outside_member, missing_member, has_no_members, unread_member, OnIndex, indexed, not_indexed, unread_index, is_static_kind}
use Rattle.jav_names.specs.TypeTexts.{imported_text}
use Rattle.jav_names.specs.Types.{TypeReading, class_read, imported, written, no_type}
use Rattle.jav_names.specs.Variables.{Variable, local_variable, parameter_variable, field_variable}
use Rattle.jav_names.specs.Views.{ViewField, ViewDeclaration, Found, found, outside, not_found}
use Rattle.mol_resolve_rules.specs.Locals.{Locals}
use Rattle.mol_resolve_rules.specs.Readers.{Parameter, Reader, place_of}
use Rattle.mol_resolve_rules.specs.ReadTrees.{ClassPath, whole_path, front_path, no_path, path_of}
use Rattle.mol_spell_rules.specs.Writers.{Asked, type_asked, name_asked, name_before_asked, path_asked, static_field_asked, static_method_asked, field_asked, method_asked, call_asked, super_method_asked, constructor_asked, super_constructor_asked, index_asked, Reference}

-- Where names are read: what is found there as what a name is the name of. A name may read as nothing.
module _ (reader : Reader Id Id) where
  abbrev pub field_of : ViewField Id Id → Target
  field_of field = field_target (reader.ids.member_id field.key)

  abbrev pub method_of : ViewDeclaration Id Id → Target
  method_of declared = method_target (reader.ids.method_id declared)

  abbrev pub class_of : Id → Target
  class_of class = class_target (reader.ids.class_id class)

  abbrev pub constructor_of : Constructor Id Id → Target
  constructor_of (declared_constructor declared) = method_of declared
  constructor_of (default_constructor class) = default_target (reader.ids.class_id class)

  -- ---- types (JLS 6.5.5)

  abbrev pub type_answer : TypeReading Id → Option Target
  type_answer (class_read class) = Some (class_of class)
  type_answer (imported import rest) = Some (outside_target (imported_text import rest))
  type_answer (written text) = Some (outside_target text)
  type_answer no_type = None

  abbrev pub type_read : Name → TypeReading Id
  type_read text = type_named reader.view.classes reader.header (cut text).first (cut text).rest

  -- ---- variables (JLS 6.5.2, 6.5.6.1)

  abbrev pub variable_answer : Locals Id → Variable Id Id → Option Target
  variable_answer locals (local_variable place) = option_map (λ number. local_target number) (slice_get locals.in_scope place)
  variable_answer locals (parameter_variable place) =
      option_map (λ (param : Parameter Id). param_target param.id) (slice_get reader.params place)
  variable_answer locals (field_variable field) = Some (field_of field)

  abbrev pub name_answer : Locals Id → Name → Found (Variable Id Id) → Option Target
  name_answer locals name (found variable) = variable_answer locals variable
  name_answer locals name outside = Some (outside_target name)
  name_answer locals name not_found = None

  -- A name before a dot may read as a class, which is what a variable never is.
  abbrev pub before_answer : Locals Id → Name → Leftmost Id Id → Option Target
  before_answer locals name (leftmost_variable variable) = variable_answer locals variable
  before_answer locals name (leftmost_class class count) = Some (class_of class)
  before_answer locals name (leftmost_import import) = Some (outside_target import)
  before_answer locals name leftmost_outside = Some (outside_target name)

  -- The names of a type outside read as it where the first of them is no variable, and no class begins with them.
  abbrev pub path_answer : Dotted → Leftmost Id Id → Option Target
  path_answer names (leftmost_import import) = Some (outside_target (joined import names.rest))
  path_answer names leftmost_outside = Some (outside_target (joined names.first names.rest))
  path_answer names (leftmost_class class count) = None
  path_answer names (leftmost_variable variable) = None

  -- ---- members (JLS 6.5.6.2, 15.11, 15.12)

  -- A static member with the name of its class reads as it through that class alone: these names spell the class and nothing else.
  abbrev pub field_through_answer : Name → ClassPath Id → Option Target
  field_through_answer name (whole_path class) = option_map field_of (field_through reader.view class name)
  field_through_answer name front_path = None
  field_through_answer name no_path = None

  abbrev pub method_through_answer : Name → ℕ → ClassPath Id → Option Target
  method_through_answer name arity (whole_path class) = option_map method_of (method_through reader.view class name arity)
  method_through_answer name arity front_path = None
  method_through_answer name arity no_path = None

  -- A static member of a value reads as nothing.
  abbrev pub on_value_answer : {X : Type 0} → Name → (X → Target) → OnValue X → Option Target
  on_value_answer name target (member x) = Some (target x)
  on_value_answer name target outside_member = Some (outside_target name)
  on_value_answer name target (static_member x) = None
  on_value_answer name target missing_member = None
  on_value_answer name target has_no_members = None
  on_value_answer name target unread_member = None

  abbrev pub call_answer : Name → Found (ViewDeclaration Id Id) → Option Target
  call_answer name (found declared) = Some (method_of declared)
  call_answer name outside = Some (outside_target name)
  call_answer name not_found = None

  -- nor does a static method after `super.`
  abbrev pub super_method_answer : Name → Found (ViewDeclaration Id Id) → Option Target
  super_method_answer name (found declared) = if is_static_kind declared.kind then None else Some (method_of declared)
  super_method_answer name outside = Some (outside_target name)
  super_method_answer name not_found = None

  -- ---- constructors (JLS 8.8.7.1, 15.9)

  abbrev pub constructor_answer : Name → Found (Constructor Id Id) → Option Target
  constructor_answer name (found constructor) = Some (constructor_of constructor)
  constructor_answer name outside = Some (outside_target name)
  constructor_answer name not_found = None

  abbrev pub created_answer : ℕ → Name → TypeReading Id → Option Target
  created_answer arity text (class_read class) = constructor_answer text (constructor_from reader.view class arity)
  created_answer arity text (imported import rest) = type_answer (imported import rest)
  created_answer arity text (written name) = type_answer (written name)
  created_answer arity text no_type = None

  -- ---- indexes (JLS 15.10.3)

  abbrev pub index_answer : OnIndex → Option Target
  index_answer indexed = Some index_target
  index_answer not_indexed = None
  index_answer unread_index = None

  -- ---- all of them

  abbrev pub answer : Locals Id → Asked → Option Target
  answer locals (type_asked text) = type_answer (type_read text)
  answer locals (name_asked name) = name_answer locals name (variable reader.view (place_of reader locals) name)
  answer locals (name_before_asked name follow) =
      before_answer locals name (leftmost reader.view (place_of reader locals) name follow)
  answer locals (path_asked names follow) =
      path_answer names (leftmost reader.view (place_of reader locals) names.first (names.rest ++ follow))
  answer locals (static_field_asked path name follow) = field_through_answer name (path_of reader locals (Some path) (name ∷ follow))
  answer locals (static_method_asked path name arity) = method_through_answer name arity (path_of reader locals (Some path) [])
  answer locals (field_asked type name) = on_value_answer name field_of (field_on reader.view name type)
  answer locals (method_asked type name arity) = on_value_answer name method_of (method_on reader.view name arity type)
  answer locals (call_asked name arity) = call_answer name (method_from reader.view reader.class name arity)
  answer locals (super_method_asked name arity) = super_method_answer name (super_method reader.view reader.class name arity)
  answer locals (constructor_asked text arity) = created_answer arity text (type_read text)
  answer locals (super_constructor_asked arity) =
      if reader.in_constructor
      then constructor_answer (codes "super") (super_constructor reader.view reader.class arity) else None
  answer locals (index_asked type) = index_answer (index_on type)

  -- what a reference reads as
  abbrev pub answered : Reference → Option Target
  answered reference = answer reference.locals reference.asked
