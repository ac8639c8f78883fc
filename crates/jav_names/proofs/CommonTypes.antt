-- The static type of a choice between two values is exactly one.
use Rattle.std.proofs.Common.{◌≡◌, ◌≢◌, ◌⊎◌, inl, inr, Bool, true, false, cond, IsTrue, refl, sym, ◌∙◌, ap, subst, true≢false}
use Rattle.std.specs.Bool.{Decides}
use Rattle.std.specs.Ordering.{is_eq}
use Rattle.std.proofs.lemmas.Bool.{false_from_ne_true}
use Rattle.jav_names.specs.Ancestors.{IsAncestor}
use Rattle.jav_names.specs.Laws.{IsTheAnswer}
use Rattle.jav_names.specs.LookUps.{is_ancestor}
use Rattle.jav_names.specs.OnValues.{StaticType, primitive_value, null_value, void_value, mixed_value, outside_value, class_value, array_value, unread_value}
use Rattle.jav_names.specs.StaticTypes.{SameValue, same_value, are_unread, AreUnrelated, ReadsCommon, upper_class, common_apart, common}
use Rattle.jav_names.specs.Views.{AreOrdered, View}
use Rattle.jav_names.proofs.AncestorsFound.{is_ancestor-decides}
use Rattle.jav_names.proofs.EqualTypes.{same_value-decides, equal_known}
use Rattle.jav_names.proofs.Lists.{Decides-not, Decides-fails}
use Rattle.jav_names.proofs.Ways.{same_key}

module _ {C M : Type 0} (view : View C M) (ordered : AreOrdered view.classes) where
  equal_tests : (first second : StaticType C) → Decides (same_value view.classes.cmp first second) (SameValue first second)
  equal_tests = same_value-decides view.classes.cmp ordered.order

  above_tests : (class above : C) → Decides (is_ancestor view class above) (IsAncestor view class above)
  above_tests = is_ancestor-decides view ordered

  -- ---- it is there

  reads_upper : (a b : C) → ¬ SameValue (class_value a) (class_value b) → (p q : Bool) → is_ancestor view b a ≡ p → is_ancestor view a b ≡ q
      → ReadsCommon view (class_value a) (class_value b) (cond p (class_value a) (cond q (class_value b) mixed_value))
  reads_upper a b differs true q above is = ReadsCommon.first_above ((above_tests b a).0 above)
  reads_upper a b differs false true not_above above =
      ReadsCommon.second_above ((above_tests a b).0 above) (Decides-not (above_tests b a) not_above)
  reads_upper a b differs false false not_first not_second =
      ReadsCommon.apart differs (λ unread. true≢false (sym unread)) (λ is. absurd cc) (λ is. absurd cc) unrelated where
        unrelated : AreUnrelated view (class_value a) (class_value b)
        unrelated left right is-left is-right =
            let same_left : a ≡ left = cc in
            let same_right : b ≡ right = cc in
            subst (λ c. ¬ (IsAncestor view c right ⊎ IsAncestor view right c)) same_left
            (subst (λ c. ¬ (IsAncestor view a c ⊎ IsAncestor view c a)) same_right neither) where
              neither : ¬ (IsAncestor view a b ⊎ IsAncestor view b a)
              neither (inl above) = Decides-not (above_tests a b) not_second above
              neither (inr above) = Decides-not (above_tests b a) not_first above

  reads_apart : (first second : StaticType C) → ¬ SameValue first second → ¬ IsTrue (are_unread first second)
      → ReadsCommon view first second (common_apart view first second)
  reads_apart null_value second differs known = ReadsCommon.first_null
  reads_apart first null_value differs known = ReadsCommon.second_null
  reads_apart (class_value a) (class_value b) differs known = reads_upper a b differs _ _ refl refl
  reads_apart first second differs known =
      ReadsCommon.apart differs known (λ is. absurd cc) (λ is. absurd cc) (λ left right is-left is-right. absurd cc)

  reads : (first second : StaticType C) (b u : Bool) → same_value view.classes.cmp first second ≡ b → are_unread first second ≡ u
      → ReadsCommon view first second (cond b first (cond u unread_value (common_apart view first second)))
  reads first second true u same unread = ReadsCommon.of_equal ((equal_tests first second).0 same)
  reads first second false true apart unread = ReadsCommon.of_unread unread
  reads first second false false apart known =
      reads_apart first second (Decides-not (equal_tests first second) apart) (λ unread. true≢false (sym unread ∙ known))

  -- ---- and nothing more

  with_null : (second : StaticType C) → second ≡ common view null_value second
  with_null primitive_value = refl
  with_null null_value = refl
  with_null void_value = refl
  with_null mixed_value = refl
  with_null outside_value = refl
  with_null (class_value class) = refl
  with_null (array_value item) = refl
  with_null unread_value = refl

  null_with : (first : StaticType C) → first ≡ common view first null_value
  null_with primitive_value = refl
  null_with null_value = refl
  null_with void_value = refl
  null_with mixed_value = refl
  null_with outside_value = refl
  null_with (class_value class) = refl
  null_with (array_value item) = refl
  null_with unread_value = refl

  not_unread : (first second : StaticType C) → are_unread first second ≡ true → same_value view.classes.cmp first second ≡ false
  not_unread first second unread =
      Decides-fails (equal_tests first second) (λ same. true≢false (sym unread ∙ equal_known first second same))

  first_upper : (a b : C) → IsAncestor view b a → (p : Bool) → is_eq (view.classes.cmp a b) ≡ p
      → class_value a ≡ cond p (class_value a) (upper_class view a b)
  first_upper a b above true same = refl
  first_upper a b above false differs = rw ((above_tests b a).1 above) refl

  second_upper : (a b : C) → IsAncestor view a b → ¬ IsAncestor view b a → (p : Bool) → is_eq (view.classes.cmp a b) ≡ p
      → class_value b ≡ cond p (class_value a) (upper_class view a b)
  second_upper a b above not_above true same = ap (λ c. class_value c) (sym ((same_key ordered.order a b).0 same))
  second_upper a b above not_above false differs = rw (Decides-fails (above_tests b a) not_above, (above_tests a b).1 above) refl

  mixed_apart : (first second : StaticType C) → first ≢ null_value → second ≢ null_value → AreUnrelated view first second
      → mixed_value ≡ common_apart view first second
  mixed_apart null_value second null-first null-second unrelated = absurd (null-first refl)
  mixed_apart first null_value null-first null-second unrelated = absurd (null-second refl)
  mixed_apart (class_value a) (class_value b) null-first null-second unrelated =
      let none = unrelated a b refl refl in
      rw (Decides-fails (above_tests b a) (λ above. none (inr above)), Decides-fails (above_tests a b) (λ above. none (inl above))) refl
  mixed_apart first second null-first null-second unrelated = refl

  only : (first second reading : StaticType C) → ReadsCommon view first second reading → reading ≡ common view first second
  only first second reading (ReadsCommon.of_equal same) = rw ((equal_tests first second).1 same) refl
  only first second reading (ReadsCommon.of_unread unread) = rw (not_unread first second unread, unread) refl
  only first second reading ReadsCommon.first_null = with_null second
  only first second reading ReadsCommon.second_null = null_with first
  only first second reading (ReadsCommon.first_above {first = a} {second = b} above) = first_upper a b above _ refl
  only first second reading (ReadsCommon.second_above {first = a} {second = b} above not_above) = second_upper a b above not_above _ refl
  only first second reading (ReadsCommon.apart differs known null-first null-second unrelated) =
      rw (Decides-fails (equal_tests first second) differs, false_from_ne_true (are_unread first second) known)
      (mixed_apart first second null-first null-second unrelated)

  pub common-answered : (first second : StaticType C) → IsTheAnswer (ReadsCommon view first second) (common view first second)
  common-answered first second = record { holds = reads first second _ _ refl refl; only = only first second }
