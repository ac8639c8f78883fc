-- In views that are alike two static types have alike a common one.
use Rattle.std.proofs.Common.{◌≡◌, Bool, true, false, ◌||◌, cond, refl, ◌∙◌}
use Rattle.jav_names.specs.LookUps.{is_ancestor}
use Rattle.jav_names.specs.OnValues.{StaticType, primitive_value, null_value, void_value, mixed_value, outside_value, class_value, array_value, unread_value}
use Rattle.jav_names.specs.StaticTypes.{same_type, same_value, is_unread, are_unread, upper_class, common_apart, common}
use Rattle.jav_names.specs.Views.{ViewType, primitive_type, void_type, class_type, outside_type, array_type, unread_type, View}
use Rattle.jav_names_laws.specs.Alike.{ViewsAlike}
use Rattle.jav_names_laws.specs.Keys.{Keys, type_as, static_as}
use Rattle.jav_names_laws.proofs.WaysAlike as ways

module _ {C M D N : Type 0} (keys : Keys C M D N) (view : View C M) (other : View D N) (alike : ViewsAlike keys view other) where
  same_type-is : (first second : ViewType C)
      → same_type view.classes.cmp first second ≡ same_type other.classes.cmp (type_as keys.class first) (type_as keys.class second)
  same_type-is (primitive_type first) (primitive_type second) = refl
  same_type-is void_type void_type = refl
  same_type-is (class_type first) (class_type second) = alike.same_class first second
  same_type-is (outside_type first) (outside_type second) = refl
  same_type-is (array_type first) (array_type second) = same_type-is first second
  same_type-is unread_type unread_type = refl
  same_type-is first second = refl

  unread-is : (type : ViewType C) → is_unread type ≡ is_unread (type_as keys.class type)
  unread-is (array_type item) = unread-is item
  unread-is type = refl

  same_value-is : (first second : StaticType C)
      → same_value view.classes.cmp first second ≡ same_value other.classes.cmp (static_as keys.class first) (static_as keys.class second)
  same_value-is primitive_value primitive_value = refl
  same_value-is null_value null_value = refl
  same_value-is void_value void_value = refl
  same_value-is mixed_value mixed_value = refl
  same_value-is outside_value outside_value = refl
  same_value-is (class_value first) (class_value second) = alike.same_class first second
  same_value-is (array_value first) (array_value second) = same_type-is first second
  same_value-is unread_value unread_value = refl
  same_value-is first second = refl

  are_unread-is : (first second : StaticType C)
      → are_unread first second ≡ are_unread (static_as keys.class first) (static_as keys.class second)
  are_unread-is (array_value first) (array_value second) = λ i. unread-is first i || unread-is second i
  are_unread-is first unread_value = refl
  are_unread-is first second = refl

  upper-is : (first second : C)
      → static_as keys.class (upper_class view first second) ≡ upper_class other (keys.class first) (keys.class second)
  upper-is first second = by (is_ancestor view second first) (is_ancestor view first second)
      ∙ (λ i. cond (ways.ancestor-is keys view other alike second first i) (class_value (keys.class first))
      (cond (ways.ancestor-is keys view other alike first second i) (class_value (keys.class second)) mixed_value)) where
        by : (a b : Bool) → static_as keys.class (cond a (class_value first) (cond b (class_value second) mixed_value))
            ≡ cond a (class_value (keys.class first)) (cond b (class_value (keys.class second)) mixed_value)
        by true b = refl
        by false true = refl
        by false false = refl

  apart-is : (first second : StaticType C) → static_as keys.class (common_apart view first second)
      ≡ common_apart other (static_as keys.class first) (static_as keys.class second)
  apart-is (class_value first) (class_value second) = upper-is first second
  apart-is first null_value = refl
  apart-is first second = refl

  pub common-is : (first second : StaticType C)
      → static_as keys.class (common view first second) ≡ common other (static_as keys.class first) (static_as keys.class second)
  common-is first second = by (same_value view.classes.cmp first second) (are_unread first second)
      ∙ (λ i. cond (same_value-is first second i) (static_as keys.class first)
      (cond (are_unread-is first second i) unread_value (apart-is first second i))) where
        by : (a b : Bool) → static_as keys.class (cond a first (cond b unread_value (common_apart view first second)))
            ≡ cond a (static_as keys.class first) (cond b unread_value (static_as keys.class (common_apart view first second)))
        by true b = refl
        by false true = refl
        by false false = refl
