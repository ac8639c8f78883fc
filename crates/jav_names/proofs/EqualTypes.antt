-- Whether two types are equal: the test says so, and two that are equal are one.
use Rattle.std.proofs.Common.{◌≡◌, true, false, refl, sym, ap, subst, true≢false, Ordering}
use Rattle.std.specs.Bool.{Decides}
use Rattle.std.proofs.lemmas.Slice.Eq.{bytes_eq-Decides}
use Rattle.jav_names.specs.Laws.{TypesCompared}
use Rattle.jav_names.specs.OnValues.{StaticType, primitive_value, null_value, void_value, mixed_value, outside_value, class_value, array_value}
use Rattle.jav_names.specs.StaticTypes.{SameType, same_type, is_unread, SameValue, same_value, are_unread}
use Rattle.jav_names.specs.Views.{ViewType, primitive_type, void_type, class_type, outside_type, array_type, IsKeyOrder}
use Rattle.jav_names.proofs.Ways.{same_key}

pub one_type : {C : Type 0} (first second : ViewType C) → SameType first second → first ≡ second
one_type first second SameType.same_primitive = refl
one_type first second SameType.same_void = refl
one_type first second SameType.same_class = refl
one_type first second SameType.same_outside = refl
one_type first second (SameType.same_array {first = a} {second = b} same) = ap (λ item. array_type item) (one_type a b same)

-- of types that are equal all is known
known : {C : Type 0} (first second : ViewType C) → SameType first second → is_unread first ≡ false
known first second SameType.same_primitive = refl
known first second SameType.same_void = refl
known first second SameType.same_class = refl
known first second SameType.same_outside = refl
known first second (SameType.same_array {first = a} {second = b} same) = known a b same

pub equal_known : {C : Type 0} (first second : StaticType C) → SameValue first second → are_unread first second ≡ false
equal_known first second SameValue.same_primitives = refl
equal_known first second SameValue.same_nulls = refl
equal_known first second SameValue.same_voids = refl
equal_known first second SameValue.same_mixed = refl
equal_known first second SameValue.same_outsides = refl
equal_known first second SameValue.same_classes = refl
equal_known first second (SameValue.same_arrays {first = a} {second = b} same) =
    rw (known a b same, ap is_unread (sym (one_type a b same)), known a b same) refl

module _ {C : Type 0} (cmp : C → C → Ordering) (order : IsKeyOrder cmp) where
  same_type-is : (first second : ViewType C) → same_type cmp first second ≡ true → SameType first second
  same_type-is (primitive_type a) (primitive_type b) is =
      subst (λ name. SameType {C = C} (primitive_type a) (primitive_type name)) ((bytes_eq-Decides a b).0 is) SameType.same_primitive
  same_type-is void_type void_type is = SameType.same_void
  same_type-is (class_type a) (class_type b) is =
      subst (λ class. SameType (class_type a) (class_type class)) ((same_key order a b).0 is) SameType.same_class
  same_type-is (outside_type a) (outside_type b) is =
      subst (λ text. SameType {C = C} (outside_type a) (outside_type text)) ((bytes_eq-Decides a b).0 is) SameType.same_outside
  same_type-is (array_type a) (array_type b) is = SameType.same_array (same_type-is a b is)
  same_type-is first second is = absurd (true≢false (sym is))

  is-same_type : (first second : ViewType C) → SameType first second → same_type cmp first second ≡ true
  is-same_type first second (SameType.same_primitive {name = name}) = (bytes_eq-Decides name name).1 refl
  is-same_type first second SameType.same_void = refl
  is-same_type first second (SameType.same_class {class = class}) = (same_key order class class).1 refl
  is-same_type first second (SameType.same_outside {text = text}) = (bytes_eq-Decides text text).1 refl
  is-same_type first second (SameType.same_array {first = a} {second = b} same) = is-same_type a b same

  pub same_type-decides : (first second : ViewType C) → Decides (same_type cmp first second) (SameType first second)
  same_type-decides first second = (same_type-is first second, is-same_type first second)

  same_value-is : (first second : StaticType C) → same_value cmp first second ≡ true → SameValue first second
  same_value-is primitive_value primitive_value is = SameValue.same_primitives
  same_value-is null_value null_value is = SameValue.same_nulls
  same_value-is void_value void_value is = SameValue.same_voids
  same_value-is mixed_value mixed_value is = SameValue.same_mixed
  same_value-is outside_value outside_value is = SameValue.same_outsides
  same_value-is (class_value a) (class_value b) is =
      subst (λ class. SameValue (class_value a) (class_value class)) ((same_key order a b).0 is) SameValue.same_classes
  same_value-is (array_value a) (array_value b) is = SameValue.same_arrays (same_type-is a b is)
  same_value-is first second is = absurd (true≢false (sym is))

  is-same_value : (first second : StaticType C) → SameValue first second → same_value cmp first second ≡ true
  is-same_value first second SameValue.same_primitives = refl
  is-same_value first second SameValue.same_nulls = refl
  is-same_value first second SameValue.same_voids = refl
  is-same_value first second SameValue.same_mixed = refl
  is-same_value first second SameValue.same_outsides = refl
  is-same_value first second (SameValue.same_classes {class = class}) = (same_key order class class).1 refl
  is-same_value first second (SameValue.same_arrays {first = a} {second = b} same) = is-same_type a b same

  pub same_value-decides : (first second : StaticType C) → Decides (same_value cmp first second) (SameValue first second)
  same_value-decides first second = (same_value-is first second, is-same_value first second)

pub types_compared : (C : Type 0) → TypesCompared C
types_compared C = record {
  tested = λ cmp first second order. same_type-decides cmp order first second;
  one_type = one_type;
}
