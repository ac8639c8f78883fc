-- The name of a member after a value, or after the name of a class, has exactly one reading.
use Rattle.std.proofs.Common.{◌≡◌, ℕ, Bool, true, false, cond, Option, Some, None, bytes_eq, codes, refl, sym, ◌∙◌, ap, subst}
use Rattle.jav_names.specs.DottedNames.{Name}
use Rattle.jav_names.specs.Laws.{IsTheAnswer}
use Rattle.jav_names.specs.LookUps.{field_from, method_from, on_instance, on_value, field_on, method_on, static_of, field_through, method_through, index_on}
use Rattle.jav_names.specs.Members.{ReadsField, ReadsMethod, is_object_method}
use Rattle.jav_names.specs.OnValues.{StaticType, primitive_value, null_value, void_value, mixed_value, outside_value, class_value, array_value, unread_value, OnValue, member, static_member, outside_member, missing_member, OnInstance, ReadsOn, is_static_kind, ReadsFieldOn, ReadsMethodOn, OnIndex, ReadsIndexOn, Through, ReadsStaticField, ReadsStaticMethod}
use Rattle.jav_names.specs.Views.{View, IsOrdered, Found, found, outside, not_found}
use Rattle.jav_names.proofs.ReadMembers.{field-answered, method-answered}

-- ---- on a value

module _ {X : Type 0} (is_static : X → Bool) where
  instance-is : (reading : Found X) → OnInstance is_static reading (on_instance is_static reading)
  instance-is (found x) = by_test (is_static x) refl where
    by_test : (b : Bool) → is_static x ≡ b → OnInstance is_static (found x) (cond b (static_member x) (member x))
    by_test true is = OnInstance.on_static is
    by_test false is = OnInstance.on_instance is
  instance-is outside = OnInstance.in_outside_class
  instance-is not_found = OnInstance.not_there

  is-instance : (reading : Found X) (answer : OnValue X) → OnInstance is_static reading answer → answer ≡ on_instance is_static reading
  is-instance (found x) answer (OnInstance.on_static is) = rw is refl
  is-instance (found x) answer (OnInstance.on_instance is) = rw is refl
  is-instance outside answer OnInstance.in_outside_class = refl
  is-instance not_found answer OnInstance.not_there = refl

module _ {C X : Type 0} (Reads : C → Found X → Type 0) (look_up : C → Found X)
    (answered : (class : C) → IsTheAnswer (Reads class) (look_up class))
    (is_static : X → Bool) (arrays_have : Bool) where
  reads : (type : StaticType C) → ReadsOn Reads is_static arrays_have type (on_value look_up is_static arrays_have type)
  reads (class_value class) = ReadsOn.of_class (answered class).holds (instance-is is_static (look_up class))
  reads outside_value = ReadsOn.of_outside
  reads (array_value item) = by_test arrays_have refl where
    by_test : (b : Bool) → arrays_have ≡ b → ReadsOn Reads is_static arrays_have (array_value item) (cond b outside_member missing_member)
    by_test true is = ReadsOn.has_array is
    by_test false is = ReadsOn.has_no_array is
  reads primitive_value = ReadsOn.of_primitive
  reads null_value = ReadsOn.of_null
  reads void_value = ReadsOn.of_void
  reads mixed_value = ReadsOn.of_mixed
  reads unread_value = ReadsOn.of_unread

  only : (type : StaticType C) (reading : OnValue X) → ReadsOn Reads is_static arrays_have type reading
      → reading ≡ on_value look_up is_static arrays_have type
  only type reading (ReadsOn.of_class {class = class} {reading = in_class} reads_class of_instance) =
      is-instance is_static in_class reading of_instance ∙ ap (on_instance is_static) ((answered class).only in_class reads_class)
  only type reading ReadsOn.of_outside = refl
  only type reading (ReadsOn.has_array is) = rw is refl
  only type reading (ReadsOn.has_no_array is) = rw is refl
  only type reading ReadsOn.of_primitive = refl
  only type reading ReadsOn.of_null = refl
  only type reading ReadsOn.of_void = refl
  only type reading ReadsOn.of_mixed = refl
  only type reading ReadsOn.of_unread = refl

  pub on_value-answered : (type : StaticType C)
      → IsTheAnswer (ReadsOn Reads is_static arrays_have type) (on_value look_up is_static arrays_have type)
  on_value-answered type = record { holds = reads type; only = only type }

module _ {C M : Type 0} (view : View C M) (ordered : IsOrdered view) where
  pub field_on-answered : (name : Name) (type : StaticType C) → IsTheAnswer (ReadsFieldOn view name type) (field_on view name type)
  field_on-answered name = on_value-answered (λ class. ReadsField view class name) (λ class. field_from view class name)
      (λ class. field-answered view ordered class name) (λ field. field.is_static) (bytes_eq name (codes "length"))

  pub method_on-answered : (name : Name) (arity : ℕ) (type : StaticType C)
      → IsTheAnswer (ReadsMethodOn view name arity type) (method_on view name arity type)
  method_on-answered name arity =
      on_value-answered (λ class. ReadsMethod view class name arity) (λ class. method_from view class name arity)
      (λ class. method-answered view ordered class name arity) (λ d. is_static_kind d.kind) (is_object_method name arity)

-- ---- an index

index-is : {C : Type 0} (type : StaticType C) → ReadsIndexOn type (index_on type)
index-is (class_value class) = ReadsIndexOn.of_class
index-is outside_value = ReadsIndexOn.of_outside
index-is (array_value item) = ReadsIndexOn.of_array
index-is primitive_value = ReadsIndexOn.of_primitive
index-is null_value = ReadsIndexOn.of_null
index-is void_value = ReadsIndexOn.of_void
index-is mixed_value = ReadsIndexOn.of_mixed
index-is unread_value = ReadsIndexOn.of_unread

is-index : {C : Type 0} (type : StaticType C) (reading : OnIndex) → ReadsIndexOn type reading → reading ≡ index_on type
is-index type reading ReadsIndexOn.of_class = refl
is-index type reading ReadsIndexOn.of_outside = refl
is-index type reading ReadsIndexOn.of_array = refl
is-index type reading ReadsIndexOn.of_primitive = refl
is-index type reading ReadsIndexOn.of_null = refl
is-index type reading ReadsIndexOn.of_void = refl
is-index type reading ReadsIndexOn.of_mixed = refl
is-index type reading ReadsIndexOn.of_unread = refl

pub index_on-answered : {C : Type 0} (type : StaticType C) → IsTheAnswer (ReadsIndexOn type) (index_on type)
index_on-answered type = record { holds = index-is type; only = is-index type }

-- ---- through a class name

module _ {X : Type 0} (Reads : Found X → Type 0) (answer : Found X) (answered : IsTheAnswer Reads answer) (is_static : X → Bool) where
  through : (reading : Found X) → answer ≡ reading → Through Reads is_static (static_of is_static reading)
  through (found x) is = by_test (is_static x) refl where
    by_test : (b : Bool) → is_static x ≡ b → Through Reads is_static (cond b (Some x) None)
    by_test true static = Through.static_found (subst Reads is answered.holds) static
    by_test false static = Through.none_static instance where
      instance : (y : X) → Reads (found y) → is_static y ≡ false
      instance y reads_y = let same : found x ≡ found y = sym is ∙ sym (answered.only (found y) reads_y) in
          ap is_static (let back : y ≡ x = cc in back) ∙ static
  through outside is =
      Through.none_static (λ y reads_y. absurd (let e : outside ≡ found y = sym is ∙ sym (answered.only (found y) reads_y) in cc))
  through not_found is =
      Through.none_static (λ y reads_y. absurd (let e : not_found ≡ found y = sym is ∙ sym (answered.only (found y) reads_y) in cc))

  only_through : (reading : Option X) → Through Reads is_static reading → reading ≡ static_of is_static answer
  only_through reading (Through.static_found {x = x} reads_x static) = rw (sym (answered.only (found x) reads_x), static) refl
  only_through reading (Through.none_static instance) = by_read answer answered.holds where
    by_read : (reading : Found X) → Reads reading → None ≡ static_of is_static reading
    by_read (found x) reads_x = rw (instance x reads_x) refl
    by_read outside reads_x = refl
    by_read not_found reads_x = refl

  pub through-answered : IsTheAnswer (Through Reads is_static) (static_of is_static answer)
  through-answered = record { holds = through answer refl; only = only_through }

module _ {C M : Type 0} (view : View C M) (ordered : IsOrdered view) (class : C) (name : Name) where
  pub static_field-answered : IsTheAnswer (ReadsStaticField view class name) (field_through view class name)
  static_field-answered =
      through-answered (ReadsField view class name) (field_from view class name) (field-answered view ordered class name)
      (λ field. field.is_static)

  pub static_method-answered : (arity : ℕ) → IsTheAnswer (ReadsStaticMethod view class name arity) (method_through view class name arity)
  static_method-answered arity =
      through-answered (ReadsMethod view class name arity) (method_from view class name arity)
      (method-answered view ordered class name arity) (λ d. is_static_kind d.kind)
