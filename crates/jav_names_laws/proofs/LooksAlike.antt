-- In views that are alike all names read alike.
use Rattle.std.proofs.Common.{◌≡◌, ℕ, ◌==◌, Bool, true, false, ◌&&◌, ◌||◌, not, cond, Option, Some, None, option_map, find, codes, refl, ◌∙◌, ap}
use Rattle.std.specs.List.{list_any}
use Rattle.std.specs.Str.{bytes_eq}
use Rattle.jav_names.specs.DottedNames.{Name, Names}
use Rattle.jav_names.specs.Leftmost.{Leftmost}
use Rattle.jav_names.specs.LookUps.{class_above, is_outside, found_above, method_from, super_method, declares_constructor, constructor_or, constructor_from, super_constructor, field_from, local_or, first_place, last_place, variable, fewest, class_or_outside, leftmost_type, variable_or, leftmost, simple_type, on_instance, on_value, index_on, static_of}
use Rattle.jav_names.specs.Members.{is_object_method}
use Rattle.jav_names.specs.OnValues.{StaticType, primitive_value, null_value, void_value, mixed_value, outside_value, class_value, array_value, unread_value, OnValue, is_static_kind}
use Rattle.jav_names.specs.Types.{TypeReading, class_read, imported, written, no_type}
use Rattle.jav_names.specs.Variables.{Place, Variable}
use Rattle.jav_names.specs.Views.{ViewField, ViewDeclaration, View, Found, found, outside, not_found}
use Rattle.jav_names_laws.specs.Alike.{ViewsAlike, LooksAlikeIn}
use Rattle.jav_names_laws.specs.Keys.{Keys, found_as, on_value_as, static_as, reading_as, place_as, field_as, declaration_as, constructor_as, variable_as, leftmost_as}
use Rattle.jav_names_laws.specs.Laws.{LooksAlike}
use Rattle.jav_names_laws.proofs.ChoicesAlike as choices
use Rattle.jav_names_laws.proofs.TypesAlike as types
use Rattle.jav_names_laws.proofs.WaysAlike as ways

module _ {C M D N : Type 0} (keys : Keys C M D N) (view : View C M) (other : View D N) (alike : ViewsAlike keys view other) where
  -- ---- above, and constructors

  found_above-is : {X Y : Type 0} (make : X → Y) (look : C → Found X) (look_as : D → Found Y)
      → ((class : C) → found_as make (look class) ≡ look_as (keys.class class)) → (o : Option C) (b : Bool)
      → found_as make (found_above o look b) ≡ found_above (option_map keys.class o) look_as b
  found_above-is make look look_as each None b = ways.found_or-mapped make None b
  found_above-is make look look_as each (Some above) b = each above

  super_method-is : (class : C) (name : Name) (arity : ℕ)
      → found_as (declaration_as keys) (super_method view class name arity) ≡ super_method other (keys.class class) name arity
  super_method-is class name arity =
      found_above-is (declaration_as keys) (λ above. method_from view above name arity) (λ above. method_from other above name arity)
      (λ above. ways.method-is keys view other alike above name arity) (class_above view class)
      (is_outside (view.superclass class) || is_object_method name arity)
      ∙ (λ i. found_above (alike.above class i) (λ above. method_from other above name arity)
      (alike.outside class i || is_object_method name arity))

  constructor_or-is : (class : C) (o : Option (ViewDeclaration C M)) (b : Bool) → found_as (constructor_as keys) (constructor_or class o b)
      ≡ constructor_or (keys.class class) (option_map (declaration_as keys) o) b
  constructor_or-is class (Some declared) b = refl
  constructor_or-is class None true = refl
  constructor_or-is class None false = refl

  constructor-is : (class : C) (arity : ℕ)
      → found_as (constructor_as keys) (constructor_from view class arity) ≡ constructor_from other (keys.class class) arity
  constructor-is class arity =
      constructor_or-is class (find (λ declared. declares_constructor view class declared && declared.arity == arity) view.declarations)
      (not (list_any (declares_constructor view class) view.declarations) && arity == 0)
      ∙ (λ i. constructor_or (keys.class class) (alike.constructors class arity i) (not (alike.has_constructor class i) && arity == 0))

  super_constructor-is : (class : C) (arity : ℕ)
      → found_as (constructor_as keys) (super_constructor view class arity) ≡ super_constructor other (keys.class class) arity
  super_constructor-is class arity =
      found_above-is (constructor_as keys) (λ above. constructor_from view above arity) (λ above. constructor_from other above arity)
      (λ above. constructor-is above arity) (class_above view class) (is_outside (view.superclass class))
      ∙ (λ i. found_above (alike.above class i) (λ above. constructor_from other above arity) (alike.outside class i))

  -- ---- variables and the leftmost of names

  local_or-is : (local param : Option ℕ) (field : Found (ViewField C M)) → found_as (variable_as keys) (local_or local param field)
      ≡ local_or local param (found_as (field_as keys) field)
  local_or-is (Some place) param field = refl
  local_or-is None (Some place) field = refl
  local_or-is None None (found field) = refl
  local_or-is None None outside = refl
  local_or-is None None not_found = refl

  variable-is : (place : Place C) (name : Name)
      → found_as (variable_as keys) (variable view place name) ≡ variable other (place_as keys.class place) name
  variable-is place name = local_or-is (last_place name place.locals) (first_place name place.params) (field_from view place.class name)
      ∙ ap (local_or (last_place name place.locals) (first_place name place.params))
      (ways.field-is keys view other alike place.class name)

  class_or_outside-is : (o : Option (C × ℕ))
      → leftmost_as keys (class_or_outside o) ≡ class_or_outside (option_map (types.counted keys view other alike) o)
  class_or_outside-is None = refl
  class_or_outside-is (Some class) = refl

  leftmost_type-is : (first : Name) (rest : Names) (r : TypeReading C) → leftmost_as keys (leftmost_type view.classes first rest r)
      ≡ leftmost_type other.classes first rest (reading_as keys.class r)
  leftmost_type-is first rest (class_read class) = refl
  leftmost_type-is first rest (imported import more) = refl
  leftmost_type-is first rest (written text) = class_or_outside-is (fewest view.classes first rest)
      ∙ ap class_or_outside (types.fewest-is keys view other alike first rest)
  leftmost_type-is first rest no_type = refl

  variable_or-is : (r : Found (Variable C M)) (otherwise : Leftmost C M) → leftmost_as keys (variable_or r otherwise)
      ≡ variable_or (found_as (variable_as keys) r) (leftmost_as keys otherwise)
  variable_or-is (found variable) otherwise = refl
  variable_or-is outside otherwise = refl
  variable_or-is not_found otherwise = refl

  leftmost-is : (place : Place C) (first : Name) (rest : Names)
      → leftmost_as keys (leftmost view place first rest) ≡ leftmost other (place_as keys.class place) first rest
  leftmost-is place first rest =
      variable_or-is (variable view place first) (leftmost_type view.classes first rest (simple_type view.classes place.header first))
      ∙ (λ i. variable_or (variable-is place first i)
      ((leftmost_type-is first rest (simple_type view.classes place.header first)
      ∙ ap (leftmost_type other.classes first rest) (types.simple-is keys view other alike place.header first)) i))

  -- ---- on values

  on_instance-is : {X Y : Type 0} (make : X → Y) (is_static : X → Bool) (is_static_as : Y → Bool)
      → ((x : X) → is_static x ≡ is_static_as (make x)) → (r : Found X)
      → on_value_as make (on_instance is_static r) ≡ on_instance is_static_as (found_as make r)
  on_instance-is make is_static is_static_as same outside = refl
  on_instance-is make is_static is_static_as same not_found = refl
  on_instance-is make is_static is_static_as same (found x) = by (is_static x)
      ∙ ap (λ b. cond b (OnValue.static_member (make x)) (OnValue.member (make x))) (same x) where
        by : (b : Bool) → on_value_as make (cond b (OnValue.static_member x) (OnValue.member x))
            ≡ cond b (OnValue.static_member (make x)) (OnValue.member (make x))
        by true = refl
        by false = refl

  on_value-is : {X Y : Type 0} (make : X → Y) (look : C → Found X) (look_as : D → Found Y) (is_static : X → Bool)
      (is_static_as : Y → Bool) (arrays_have : Bool) → ((class : C) → found_as make (look class) ≡ look_as (keys.class class))
      → ((x : X) → is_static x ≡ is_static_as (make x)) → (type : StaticType C)
      → on_value_as make (on_value look is_static arrays_have type) ≡ on_value look_as is_static_as arrays_have (static_as keys.class type)
  on_value-is make look look_as is_static is_static_as arrays_have each same (class_value class) =
      on_instance-is make is_static is_static_as same (look class) ∙ ap (on_instance is_static_as) (each class)
  on_value-is make look look_as is_static is_static_as true each same (array_value item) = refl
  on_value-is make look look_as is_static is_static_as false each same (array_value item) = refl
  on_value-is make look look_as is_static is_static_as arrays_have each same outside_value = refl
  on_value-is make look look_as is_static is_static_as arrays_have each same primitive_value = refl
  on_value-is make look look_as is_static is_static_as arrays_have each same null_value = refl
  on_value-is make look look_as is_static is_static_as arrays_have each same void_value = refl
  on_value-is make look look_as is_static is_static_as arrays_have each same mixed_value = refl
  on_value-is make look look_as is_static is_static_as arrays_have each same unread_value = refl

  index-is : (type : StaticType C) → index_on type ≡ index_on (static_as keys.class type)
  index-is primitive_value = refl
  index-is null_value = refl
  index-is void_value = refl
  index-is mixed_value = refl
  index-is outside_value = refl
  index-is (class_value class) = refl
  index-is (array_value item) = refl
  index-is unread_value = refl

  static_of-is : {X Y : Type 0} (make : X → Y) (is_static : X → Bool) (is_static_as : Y → Bool)
      → ((x : X) → is_static x ≡ is_static_as (make x)) → (r : Found X)
      → option_map make (static_of is_static r) ≡ static_of is_static_as (found_as make r)
  static_of-is make is_static is_static_as same outside = refl
  static_of-is make is_static is_static_as same not_found = refl
  static_of-is make is_static is_static_as same (found x) = by (is_static x) ∙ ap (λ b. cond b (Some (make x)) None) (same x) where
    by : (b : Bool) → option_map make (cond b (Some x) None) ≡ cond b (Some (make x)) None
    by true = refl
    by false = refl

  pub looks : LooksAlikeIn keys view other
  looks = record {
    simple_types = types.simple-is keys view other alike;
    types = types.type-is keys view other alike;
    ancestors = ways.ancestor-is keys view other alike;
    fields = ways.field-is keys view other alike;
    methods = ways.method-is keys view other alike;
    super_methods = super_method-is;
    constructors = constructor-is;
    super_constructors = super_constructor-is;
    variables = variable-is;
    leftmosts = leftmost-is;
    fields_on = λ name. on_value-is (field_as keys) (λ class. field_from view class name) (λ class. field_from other class name)
        (λ (f : ViewField C M). f.is_static) (λ (f : ViewField D N). f.is_static) (bytes_eq name (codes "length"))
        (λ class. ways.field-is keys view other alike class name) (λ x. refl);
    methods_on = λ name arity. on_value-is (declaration_as keys) (λ class. method_from view class name arity)
        (λ class. method_from other class name arity) (λ (d : ViewDeclaration C M). is_static_kind d.kind)
        (λ (d : ViewDeclaration D N). is_static_kind d.kind) (is_object_method name arity)
        (λ class. ways.method-is keys view other alike class name arity) (λ x. refl);
    indexes_on = index-is;
    fields_through = λ class name.
        static_of-is (field_as keys) (λ (f : ViewField C M). f.is_static) (λ (f : ViewField D N). f.is_static) (λ x. refl)
        (field_from view class name)
        ∙ ap (static_of (λ (f : ViewField D N). f.is_static)) (ways.field-is keys view other alike class name);
    methods_through = λ class name arity.
        static_of-is (declaration_as keys) (λ (d : ViewDeclaration C M). is_static_kind d.kind)
        (λ (d : ViewDeclaration D N). is_static_kind d.kind) (λ x. refl) (method_from view class name arity)
        ∙ ap (static_of (λ (d : ViewDeclaration D N). is_static_kind d.kind)) (ways.method-is keys view other alike class name arity);
    choices = choices.common-is keys view other alike;
  }

pub looks_alike : (C M D N : Type 0) → LooksAlike C M D N
looks_alike C M D N keys view other alike = looks keys view other alike
