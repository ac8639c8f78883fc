-- The way from a class up: it is there, there is one, and `way` is it.
use Rattle.std.proofs.Common.{◌≡◌, ◌⊎◌, inl, inr, ℕ, zero, suc, ◌<◌, ◌≤◌, Bool, true, false, cond, not, ◌||◌, List, [], ◌∷◌, ◌++◌, length, filter, Option, Some, None, Contains, refl, sym, ◌∙◌, ap, subst, arith, true≢false, Ordering, Less, Equal, Greater}
use Rattle.std.specs.Bool.{Decides}
use Rattle.std.specs.Ordering.{is_eq}
use Rattle.std.proofs.lemmas.Cmp.{tied_itself}
use Rattle.jav_names.specs.Ancestors.{HasClass, Extends, ExtendsOutside, Follows, Way, EndsOutside}
use Rattle.jav_names.specs.LookUps.{has_class, class_in, class_above, is_outside, is_met, unmet, each_above, way_from, way, last_extends_outside, ends_outside}
use Rattle.jav_names.specs.Views.{ViewType, primitive_type, void_type, class_type, outside_type, array_type, unread_type, ViewClass, IsKeyOrder, Classes, AreOrdered, View}
use Rattle.jav_names.proofs.Lists.{stands_where, stands_nowhere, Decides-not, list_any-decides}

-- ---- tests of keys

pub same_key : {K : Type 0} {cmp : K → K → Ordering} → IsKeyOrder cmp → (a b : K) → Decides (is_eq (cmp a b)) (a ≡ b)
same_key {K} {cmp} order a b =
    (by_order (cmp a b) refl, λ same. ap is_eq (subst (λ c. cmp a c ≡ Equal) same (tied_itself order.total a))) where
      by_order : (o : Ordering) → cmp a b ≡ o → is_eq o ≡ true → a ≡ b
      by_order Less is eq = absurd (true≢false (sym eq))
      by_order Equal is eq = order.same a b is
      by_order Greater is eq = absurd (true≢false (sym eq))

module _ {C : Type 0} (classes : Classes C) (ordered : AreOrdered classes) where
  pub has_class-decides : (key : C) → Decides (has_class classes key) (HasClass classes key)
  has_class-decides key = (
    λ is. let some = any.0 is in
        record { class = some.0; stands = some.1; is = some.2 },
    λ (has : HasClass classes key). any.1 (has.class, has.stands, has.is),
  ) where
    any : Decides (has_class classes key) ((x : ViewClass C) × Contains classes.items x × (x.key ≡ key))
    any = list_any-decides (λ x. x.key ≡ key) (λ x. is_eq (classes.cmp x.key key)) (λ x. same_key ordered.order x.key key) classes.items

  pub is_met-decides : (met : List C) (class : C) → Decides (is_met classes met class) (Contains met class)
  is_met-decides met class = (λ is. let some = any.0 is in subst (Contains met) some.2 some.1, λ h. any.1 (class, h, refl)) where
    any : Decides (is_met classes met class) ((x : C) × Contains met x × (x ≡ class))
    any = list_any-decides (λ x. x ≡ class) (λ x. is_eq (classes.cmp x class)) (λ x. same_key ordered.order x class) met

-- ---- the superclass

some_class : {C : Type 0} (a b : C) → Some (class_type a) ≡ Some (class_type b) → a ≡ b
some_class a b is = cc

module _ {C M : Type 0} (view : View C M) (ordered : AreOrdered view.classes) where
  pub class_above-is : (class above : C) → class_above view class ≡ Some above → Extends view class above
  class_above-is class above = by_type (view.superclass class) refl where
    by_class : (a : C) → view.superclass class ≡ Some (class_type a) → (b : Bool) → has_class view.classes a ≡ b
        → cond b (Some a) None ≡ Some above → Extends view class above
    by_class a named true has is =
        let same : a ≡ above = cc in
        record {
          named = subst (λ c. view.superclass class ≡ Some (class_type c)) same named;
          stands =
              subst (HasClass view.classes) same ((has_class-decides view.classes ordered a).0 has);
        }
    by_class a named false has is = absurd cc

    by_type : (t : Option (ViewType C)) → view.superclass class ≡ t → class_in view.classes t ≡ Some above → Extends view class above
    by_type (Some (class_type a)) named is = by_class a named _ refl is
    by_type None named is = absurd cc
    by_type (Some (primitive_type name)) named is = absurd cc
    by_type (Some void_type) named is = absurd cc
    by_type (Some (outside_type name)) named is = absurd cc
    by_type (Some (array_type item)) named is = absurd cc
    by_type (Some unread_type) named is = absurd cc

  pub is-class_above : (class above : C) → Extends view class above → class_above view class ≡ Some above
  is-class_above class above extends = rw (extends.named, (has_class-decides view.classes ordered above).1 extends.stands) refl

  pub one_above : (class a b : C) → Extends view class a → Extends view class b → a ≡ b
  one_above class a b extends-a extends-b = some_class a b (sym extends-a.named ∙ extends-b.named)

pub is_outside-decides : {C M : Type 0} (view : View C M) (class : C)
    → Decides (is_outside (view.superclass class)) (ExtendsOutside view class)
is_outside-decides {C} {M} view class =
    (by_type (view.superclass class) refl, λ (extends : ExtendsOutside view class). rw extends.named refl) where
      by_type : (t : Option (ViewType C)) → view.superclass class ≡ t → is_outside t ≡ true → ExtendsOutside view class
      by_type (Some (outside_type name)) named is = record { name = name; named = named }
      by_type None named is = absurd (true≢false (sym is))
      by_type (Some (class_type a)) named is = absurd (true≢false (sym is))
      by_type (Some (primitive_type name)) named is = absurd (true≢false (sym is))
      by_type (Some void_type) named is = absurd (true≢false (sym is))
      by_type (Some (array_type item)) named is = absurd (true≢false (sym is))
      by_type (Some unread_type) named is = absurd (true≢false (sym is))

-- ---- how many classes are not met yet

-- fewer pass a test that is stricter, and fails where the other passes
module _ {X : Type 0} (p q : X → Bool) (stricter : (x : X) → q x ≡ true → p x ≡ true) where
  fewer-or_same : (xs : List X) → length (filter q xs) ≤ length (filter p xs)
  fewer-or_same [] = omega arith
  fewer-or_same (x ∷ xs) = by_tests (p x) (q x) refl refl (fewer-or_same xs) where
    by_tests : (a b : Bool) → p x ≡ a → q x ≡ b → length (filter q xs) ≤ length (filter p xs)
        → length (cond b (x ∷ filter q xs) (filter q xs)) ≤ length (cond a (x ∷ filter p xs) (filter p xs))
    by_tests true true is-p is-q more = omega (arith, more)
    by_tests true false is-p is-q more = omega (arith, more)
    by_tests false true is-p is-q more = absurd (true≢false (sym (stricter x is-q) ∙ is-p))
    by_tests false false is-p is-q more = more

  pub fewer : (xs : List X) (y : X) → Contains xs y → p y ≡ true → q y ≡ false → length (filter q xs) < length (filter p xs)
  fewer [] y of-y passes fails = absurd (stands_nowhere y of-y)
  fewer (x ∷ xs) y of-y passes fails =
      by_tests (p x) (q x) refl refl (stands_where x y xs of-y) (λ later. fewer xs y later passes fails) where
        by_tests : (a b : Bool) → p x ≡ a → q x ≡ b → (x ≡ y) ⊎ Contains xs y
            → (Contains xs y → length (filter q xs) < length (filter p xs))
            → length (cond b (x ∷ filter q xs) (filter q xs)) < length (cond a (x ∷ filter p xs) (filter p xs))
        by_tests true true is-p is-q (inl same) more = absurd (true≢false (sym is-q ∙ ap q same ∙ fails))
        by_tests true true is-p is-q (inr later) more = omega (arith, more later)
        by_tests true false is-p is-q where-y more = omega (arith, fewer-or_same xs)
        by_tests false true is-p is-q where-y more = absurd (true≢false (sym (stricter x is-q) ∙ is-p))
        by_tests false false is-p is-q (inl same) more = absurd (true≢false (sym passes ∙ ap p (sym same) ∙ is-p))
        by_tests false false is-p is-q (inr later) more = more later

pub some_pass : {X : Type 0} (p : X → Bool) (xs : List X) (y : X) → Contains xs y → p y ≡ true → 0 < length (filter p xs)
some_pass p [] y of-y passes = absurd (stands_nowhere y of-y)
some_pass {X} p (x ∷ xs) y of-y passes = by_test (p x) refl (stands_where x y xs of-y) (λ later. some_pass p xs y later passes) where
  by_test : (a : Bool) → p x ≡ a → (x ≡ y) ⊎ Contains xs y → (Contains xs y → 0 < length (filter p xs))
      → 0 < length (cond a (x ∷ filter p xs) (filter p xs))
  by_test true is where-y more = omega arith
  by_test false is (inl same) more = absurd (true≢false (sym passes ∙ ap p (sym same) ∙ is))
  by_test false is (inr later) more = more later

pub filter-length : {X : Type 0} (p : X → Bool) (xs : List X) → length (filter p xs) ≤ length xs
filter-length p [] = omega arith
filter-length {X} p (x ∷ xs) = by_test (p x) (filter-length p xs) where
  by_test : (a : Bool) → length (filter p xs) ≤ length xs → length (cond a (x ∷ filter p xs) (filter p xs)) ≤ length (x ∷ xs)
  by_test true more = omega (arith, more)
  by_test false more = omega (arith, more)

-- ---- the walk

-- how many classes of the view were not met
abbrev pub not_met : {C : Type 0} → Classes C → List C → ℕ
not_met classes met = length (filter (λ x. not (is_met classes met x.key)) classes.items)

module _ {C : Type 0} (classes : Classes C) (ordered : AreOrdered classes) where
  -- a class that was not met is among these, and is not any more once it is met
  not_met-fewer : (met : List C) (class : C) → HasClass classes class → is_met classes met class ≡ false
      → not_met classes (class ∷ met) < not_met classes met
  not_met-fewer met class has new = fewer (λ x. not (is_met classes met x.key)) (λ x. not (is_met classes (class ∷ met) x.key))
      (λ x is. not_or (is_eq (classes.cmp class x.key)) (is_met classes met x.key) is) classes.items has.class has.stands
      (ap not (ap (is_met classes met) has.is ∙ new)) (ap not (seen has.class.key has.is)) where
        not_or : (a b : Bool) → not (a || b) ≡ true → not b ≡ true
        not_or true b is = absurd (true≢false (sym is))
        not_or false b is = is

        seen : (key : C) → key ≡ class → is_met classes (class ∷ met) key ≡ true
        seen key is = rw ((same_key ordered.order class key).1 (sym is)) refl

  not_met-some : (met : List C) (class : C) → HasClass classes class → is_met classes met class ≡ false → 0 < not_met classes met
  not_met-some met class has new =
      some_pass (λ x. not (is_met classes met x.key)) classes.items has.class has.stands (ap not (ap (is_met classes met) has.is ∙ new))

module _ {C M : Type 0} (view : View C M) (ordered : AreOrdered view.classes) where
  -- where the next class is none, each superclass was met
  stops : (met : List C) (class : C) → unmet view.classes met (class_above view class) ≡ None → (above : C) → Extends view class above
      → Contains met above
  stops met class is above extends = by_test (is_met view.classes met above) refl where
    by_test : (b : Bool) → is_met view.classes met above ≡ b → Contains met above
    by_test true seen = (is_met-decides view.classes ordered met above).0 seen
    by_test false new =
        let next : unmet view.classes met (class_above view class) ≡ Some above =
        rw (is-class_above view ordered class above extends, new) refl in
        absurd (let none : None ≡ Some above = sym is ∙ next in cc)

  -- and where it is one, that is the superclass and was not met
  goes_on : (met : List C) (class above : C) → unmet view.classes met (class_above view class) ≡ Some above
      → Extends view class above × (is_met view.classes met above ≡ false)
  goes_on met class above = by_above (class_above view class) refl where
    by_test : (a : C) → class_above view class ≡ Some a → (b : Bool) → is_met view.classes met a ≡ b → cond b None (Some a) ≡ Some above
        → Extends view class above × (is_met view.classes met above ≡ false)
    by_test a named true seen is = absurd cc
    by_test a named false new is =
        let same : a ≡ above = cc in
        (class_above-is view ordered class above (named ∙ is), subst (λ c. is_met view.classes met c ≡ false) same new)

    by_above : (o : Option C) → class_above view class ≡ o → unmet view.classes met o ≡ Some above
        → Extends view class above × (is_met view.classes met above ≡ false)
    by_above None named is = absurd cc
    by_above (Some a) named is = by_test a named _ refl is

  -- with as many steps as there are classes not met, or more, the list is the way
  pub follows : (steps : ℕ) (met : List C) (class : C) → not_met view.classes (class ∷ met) ≤ steps
      → Follows view met class (way_from steps view met class)
  follows zero met class none_more = Follows.end ends where
    ends : (above : C) → Extends view class above → Contains (class ∷ met) above
    ends above extends = by_test (is_met view.classes (class ∷ met) above) refl where
      by_test : (b : Bool) → is_met view.classes (class ∷ met) above ≡ b → Contains (class ∷ met) above
      by_test true seen = (is_met-decides view.classes ordered (class ∷ met) above).0 seen
      by_test false new = absurd (omega (arith, none_more, not_met-some view.classes ordered (class ∷ met) above extends.stands new))
  follows (suc steps) met class few_more =
      by_next (unmet view.classes (class ∷ met) (class_above view class)) refl (λ above. follows steps (class ∷ met) above) where
        by_next : (o : Option C) → unmet view.classes (class ∷ met) (class_above view class) ≡ o
            → ((above : C) → not_met view.classes (above ∷ class ∷ met) ≤ steps
            → Follows view (class ∷ met) above (way_from steps view (class ∷ met) above))
            → Follows view met class (class ∷ each_above o (λ above. way_from steps view (class ∷ met) above))
        by_next None is more = Follows.end (stops (class ∷ met) class is)
        by_next (Some above) is more =
            let next = goes_on (class ∷ met) class above is in
            let still_fewer = not_met-fewer view.classes ordered (class ∷ met) above next.0.stands next.1 in
            Follows.up next.0 (Decides-not (is_met-decides view.classes ordered (class ∷ met) above) next.1)
            (more above (omega (arith, few_more, still_fewer)))

  -- the way is there
  pub way-is : (class : C) → Way view class (way view class)
  way-is class =
      follows (length view.classes.items) [] class (filter-length (λ x. not (is_met view.classes (class ∷ []) x.key)) view.classes.items)

  -- and there is one
  pub one_way : {met : List C} {class : C} {first second : List C} → Follows view met class first → Follows view met class second
      → first ≡ second
  one_way (Follows.up {met = met} {class = class} {above = above} extends new more)
      (Follows.up {way = way'} {above = above'} extends' new' more') =
      let same = one_above view ordered class above' above extends' extends in
      ap (λ w. class ∷ w) (one_way more (subst (λ a. Follows view (class ∷ met) a way') same more'))
  one_way (Follows.up {above = above} extends new more) (Follows.end ends) = absurd (new (ends above extends))
  one_way (Follows.end ends) (Follows.up {above = above} extends new more) = absurd (new (ends above extends))
  one_way (Follows.end ends) (Follows.end ends') = refl

-- ---- the end of the way

last-extends : {C M : Type 0} (view : View C M) (classes : List C) → last_extends_outside view classes ≡ true
    → (below : List C) × (last : C) × (classes ≡ below ++ last ∷ []) × ExtendsOutside view last
last-extends view [] is = absurd (true≢false (sym is))
last-extends view (class ∷ []) is = ([], class, refl, (is_outside-decides view class).0 is)
last-extends view (class ∷ above ∷ more) is =
    let rest = last-extends view (above ∷ more) is in
    (class ∷ rest.0, rest.1, ap (λ w. class ∷ w) rest.2, rest.3)

extends-last : {C M : Type 0} (view : View C M) (below : List C) (last : C) → ExtendsOutside view last
    → last_extends_outside view (below ++ last ∷ []) ≡ true
extends-last view [] last extends = (is_outside-decides view last).1 extends
extends-last view (b ∷ []) last extends = extends-last view [] last extends
extends-last view (b ∷ c ∷ below) last extends = extends-last view (c ∷ below) last extends

pub ends_outside-decides : {C M : Type 0} (view : View C M) → AreOrdered view.classes → (class : C)
    → Decides (ends_outside view class) (EndsOutside view class)
ends_outside-decides {C} {M} view ordered class = (there, at) where
  there : ends_outside view class ≡ true → EndsOutside view class
  there is =
      let end = last-extends view (way view class) is in
      record { below = end.0; last = end.1; way = subst (Way view class) end.2 (way-is view ordered class); extends = end.3 }

  at : EndsOutside view class → ends_outside view class ≡ true
  at ends =
      let same : way view class ≡ ends.below ++ ends.last ∷ [] = one_way view ordered (way-is view ordered class) ends.way in
      ap (last_extends_outside view) same ∙ extends-last view ends.below ends.last ends.extends
