-- Views in which names read alike, but for keys.
use Rattle.std.specs.Prelude.{◌≡◌, ℕ, ◌==◌, ◌&&◌, length, option_map, find}
use Rattle.std.specs.List.{list_any}
use Rattle.std.specs.Ordering.{is_eq}
use Rattle.std.specs.Str.{bytes_eq}
use Rattle.jav_names.specs.DottedNames.{Name, Names}
use Rattle.jav_names.specs.LookUps.{class_named, simple_type, type_named, class_above, is_outside, is_ancestor, field_from, is_method, method_from, super_method, declares_constructor, constructor_from, super_constructor, variable, leftmost, field_on, method_on, index_on, field_through, method_through}
use Rattle.jav_names.specs.OnValues.{StaticType}
use Rattle.jav_names.specs.StaticTypes.{common}
use Rattle.jav_names.specs.Types.{Header}
use Rattle.jav_names.specs.Variables.{Place}
use Rattle.jav_names.specs.Views.{View}
use Rattle.jav_names_laws.specs.Keys.{Keys, found_as, on_value_as, static_as, reading_as, class_as, header_as, place_as, field_as, declaration_as, constructor_as, variable_as, leftmost_as}

-- The views agree, but for keys, on each look-up that goes through one list: of the classes of a name, of the class above one, and of the
-- members of a name that one class declares. In which order members of several classes stand is no matter.
pub record ViewsAlike {C M D N : Type 0} (keys : Keys C M D N) (view : View C M) (other : View D N) : Type 0 where
  pub same_class : (first second : C)
      → is_eq (view.classes.cmp first second) ≡ is_eq (other.classes.cmp (keys.class first) (keys.class second))
  pub as_many : length view.classes.items ≡ length other.classes.items
  pub classes : (name : Name) → option_map (class_as keys.class) (class_named view.classes name) ≡ class_named other.classes name
  pub above : (class : C) → option_map keys.class (class_above view class) ≡ class_above other (keys.class class)
  pub outside : (class : C) → is_outside (view.superclass class) ≡ is_outside (other.superclass (keys.class class))
  pub fields : (class : C) (name : Name)
      → option_map (field_as keys) (find (λ field. bytes_eq field.name name && is_eq (view.classes.cmp field.owner class)) view.fields)
      ≡ find (λ field. bytes_eq field.name name && is_eq (other.classes.cmp field.owner (keys.class class))) other.fields
  pub methods : (class : C) (name : Name) (arity : ℕ)
      → option_map (declaration_as keys)
      (find (λ declared. is_method name arity declared && is_eq (view.classes.cmp declared.owner class)) view.declarations)
      ≡ find (λ declared. is_method name arity declared && is_eq (other.classes.cmp declared.owner (keys.class class))) other.declarations
  pub constructors : (class : C) (arity : ℕ)
      → option_map (declaration_as keys)
      (find (λ declared. declares_constructor view class declared && declared.arity == arity) view.declarations)
      ≡ find (λ declared. declares_constructor other (keys.class class) declared && declared.arity == arity) other.declarations
  pub has_constructor : (class : C) → list_any (declares_constructor view class) view.declarations
      ≡ list_any (declares_constructor other (keys.class class)) other.declarations

-- The views agree, but for keys, on all that names read as.
pub record LooksAlikeIn {C M D N : Type 0} (keys : Keys C M D N) (view : View C M) (other : View D N) : Type 0 where
  pub simple_types : (header : Header C) (name : Name) → reading_as keys.class (simple_type view.classes header name)
      ≡ simple_type other.classes (header_as keys.class header) name
  pub types : (header : Header C) (first : Name) (rest : Names) → reading_as keys.class (type_named view.classes header first rest)
      ≡ type_named other.classes (header_as keys.class header) first rest
  pub ancestors : (class above : C) → is_ancestor view class above ≡ is_ancestor other (keys.class class) (keys.class above)
  pub fields : (class : C) (name : Name)
      → found_as (field_as keys) (field_from view class name) ≡ field_from other (keys.class class) name
  pub methods : (class : C) (name : Name) (arity : ℕ)
      → found_as (declaration_as keys) (method_from view class name arity) ≡ method_from other (keys.class class) name arity
  pub super_methods : (class : C) (name : Name) (arity : ℕ)
      → found_as (declaration_as keys) (super_method view class name arity) ≡ super_method other (keys.class class) name arity
  pub constructors : (class : C) (arity : ℕ)
      → found_as (constructor_as keys) (constructor_from view class arity) ≡ constructor_from other (keys.class class) arity
  pub super_constructors : (class : C) (arity : ℕ)
      → found_as (constructor_as keys) (super_constructor view class arity) ≡ super_constructor other (keys.class class) arity
  pub variables : (place : Place C) (name : Name)
      → found_as (variable_as keys) (variable view place name) ≡ variable other (place_as keys.class place) name
  pub leftmosts : (place : Place C) (first : Name) (rest : Names)
      → leftmost_as keys (leftmost view place first rest) ≡ leftmost other (place_as keys.class place) first rest
  pub fields_on : (name : Name) (type : StaticType C)
      → on_value_as (field_as keys) (field_on view name type) ≡ field_on other name (static_as keys.class type)
  pub methods_on : (name : Name) (arity : ℕ) (type : StaticType C)
      → on_value_as (declaration_as keys) (method_on view name arity type) ≡ method_on other name arity (static_as keys.class type)
  pub indexes_on : (type : StaticType C) → index_on type ≡ index_on (static_as keys.class type)
  pub fields_through : (class : C) (name : Name)
      → option_map (field_as keys) (field_through view class name) ≡ field_through other (keys.class class) name
  pub methods_through : (class : C) (name : Name) (arity : ℕ)
      → option_map (declaration_as keys) (method_through view class name arity) ≡ method_through other (keys.class class) name arity
  pub choices : (first second : StaticType C)
      → static_as keys.class (common view first second) ≡ common other (static_as keys.class first) (static_as keys.class second)
