-- The nearest member is what `nearest` finds on the way.
use Rattle.std.proofs.Common.{◌≡◌, ◌⊎◌, inl, inr, Bool, ◌&&◌, List, [], ◌∷◌, ◌++◌, Option, Some, None, All, Contains, find, refl, sym, ◌∙◌, ap, subst}
use Rattle.std.specs.Bool.{Decides}
use Rattle.std.specs.List.Sorted.{IsStrictlySortedBy}
use Rattle.std.specs.Option.{option_or}
use Rattle.std.specs.Ordering.{on, is_eq}
use Rattle.std.proofs.lemmas.Bool.{and_parts, and_from}
use Rattle.std.proofs.lemmas.List.Elements.{All-contains, All-weaker}
use Rattle.jav_names.specs.Ancestors.{Way}
use Rattle.jav_names.specs.Choices.{IsLeast, HoldsOfNone}
use Rattle.jav_names.specs.LookUps.{nearest, way}
use Rattle.jav_names.specs.Members.{IsNearest, HasNone}
use Rattle.jav_names.specs.Views.{IsKeyOrder, AreOrdered, View}
use Rattle.jav_names.proofs.Lists.{stands_first, stands_later, stands_where, stands_nowhere, All-from_each, find-none, find-holds_of_none, find-least, least-find}
use Rattle.jav_names.proofs.Ways.{same_key, way-is, one_way}

-- x is the nearest member along these classes
pub record IsNearestOf {X C M : Type 0} (view : View C M) (owner : X → C) (key : X → M) (P : X → Type 0) (all : List X) (classes : List C)
    (x : X) : Type 0 where
  pub nearer : List C
  pub farther : List C
  pub is : classes ≡ nearer ++ owner x ∷ farther
  pub none_nearer : All (λ y. P y → ¬ Contains nearer (owner y)) all
  pub least : IsLeast view.member_cmp key (λ y. P y × (owner y ≡ owner x)) all x

module _ {X C M : Type 0} (view : View C M) (ordered : AreOrdered view.classes) (order : IsKeyOrder view.member_cmp) (owner : X → C)
    (key : X → M)
    (P : X → Type 0) (p : X → Bool) (tests : (x : X) → Decides (p x) (P x)) (all : List X)
    (up : IsStrictlySortedBy (on key view.member_cmp) all) where
  -- a member that passes, of this class
  owned_tests : (class : C) (x : X) → Decides (p x && is_eq (view.classes.cmp (owner x) class)) (P x × (owner x ≡ class))
  owned_tests class x = (
    λ is. let both = and_parts _ _ is in ((tests x).0 both.0, (same_key ordered.order (owner x) class).0 both.1),
    λ h. and_from _ _ ((tests x).1 h.0) ((same_key ordered.order (owner x) class).1 h.1),
  )

  abbrev owned : C → Option X
  owned class = find (λ x. p x && is_eq (view.classes.cmp (owner x) class)) all

  owned-least : (class : C) (x : X) → owned class ≡ Some x → IsLeast view.member_cmp key (λ y. P y × (owner y ≡ class)) all x
  owned-least class x is =
      find-least view.member_cmp key order (λ y. P y × (owner y ≡ class)) (λ y. p y && is_eq (view.classes.cmp (owner y) class))
      (owned_tests class) all x up is

  least-owned : (class : C) (x : X) → IsLeast view.member_cmp key (λ y. P y × (owner y ≡ class)) all x → owned class ≡ Some x
  least-owned class x is =
      least-find view.member_cmp key order (λ y. P y × (owner y ≡ class)) (λ y. p y && is_eq (view.classes.cmp (owner y) class))
      (owned_tests class) all x up is

  owned-none : (class : C) → owned class ≡ None → HoldsOfNone (λ y. P y × (owner y ≡ class)) all
  owned-none class is =
      find-none (λ y. P y × (owner y ≡ class)) (λ y. p y && is_eq (view.classes.cmp (owner y) class)) (owned_tests class) all is

  none-owned : (class : C) → HoldsOfNone (λ y. P y × (owner y ≡ class)) all → owned class ≡ None
  none-owned class none =
      find-holds_of_none (λ y. P y × (owner y ≡ class)) (λ y. p y && is_eq (view.classes.cmp (owner y) class)) (owned_tests class) all none

  -- one more class in front, of which no such member is
  farther_on : (class : C) (classes : List C) → HoldsOfNone (λ y. P y × (owner y ≡ class)) all
      → All (λ y. P y → ¬ Contains classes (owner y)) all
      → All (λ y. P y → ¬ Contains (class ∷ classes) (owner y)) all
  farther_on class classes none later = All-from_each (λ y. P y → ¬ Contains (class ∷ classes) (owner y)) all each where
    each : (y : X) → Contains all y → P y → ¬ Contains (class ∷ classes) (owner y)
    each y of-y holds h = by_place (stands_where class (owner y) classes h) where
      by_place : (class ≡ owner y) ⊎ Contains classes (owner y) → ⊥
      by_place (inl same) = All-contains (λ z. ¬ (P z × (owner z ≡ class))) all y none of-y (holds, sym same)
      by_place (inr more) = All-contains (λ z. P z → ¬ Contains classes (owner z)) all y later of-y holds more

  none_first : (class : C) (classes : List C) → All (λ y. P y → ¬ Contains (class ∷ classes) (owner y)) all
      → HoldsOfNone (λ y. P y × (owner y ≡ class)) all
  none_first class classes none = All-from_each (λ y. ¬ (P y × (owner y ≡ class))) all
      (λ y of-y h. All-contains (λ z. P z → ¬ Contains (class ∷ classes) (owner z)) all y none of-y h.0
      (subst (λ c. Contains (c ∷ classes) (owner y)) h.1 (stands_first (owner y) classes)))

  none_later : (class : C) (classes : List C) → All (λ y. P y → ¬ Contains (class ∷ classes) (owner y)) all
      → All (λ y. P y → ¬ Contains classes (owner y)) all
  none_later class classes none = All-weaker (λ y. P y → ¬ Contains (class ∷ classes) (owner y)) (λ y. P y → ¬ Contains classes (owner y))
      (λ y not holds h. not holds (stands_later class (owner y) classes h)) all none

  -- ---- what is found is the nearest

  nearest-found : (classes : List C) (x : X) → nearest view owner p all classes ≡ Some x → IsNearestOf view owner key P all classes x
  nearest-found [] x is = absurd cc
  nearest-found (class ∷ classes) x is = by_owned (owned class) refl is (nearest-found classes x) where
    first : (y : X) → owned class ≡ Some y → y ≡ x → IsNearestOf view owner key P all (class ∷ classes) x
    first y has same =
        let least = owned-least class x (has ∙ ap (λ z. Some z) same) in
        let of_class : owner x ≡ class = least.holds.1 in
        record {
          nearer = [];
          farther = classes;
          is = ap (λ c. c ∷ classes) (sym of_class);
          none_nearer = All-from_each (λ y. P y → ¬ Contains [] (owner y)) all (λ y of-y holds. stands_nowhere (owner y));
          least = subst (λ c. IsLeast view.member_cmp key (λ y. P y × (owner y ≡ c)) all x) (sym of_class) least;
        }

    by_owned : (o : Option X) → owned class ≡ o → option_or o (nearest view owner p all classes) ≡ Some x
        → (nearest view owner p all classes ≡ Some x → IsNearestOf view owner key P all classes x)
        → IsNearestOf view owner key P all (class ∷ classes) x
    by_owned (Some y) has is more = first y has (let same : y ≡ x = cc in same)
    by_owned None none is more =
        let later = more is in
        record {
          nearer = class ∷ later.nearer;
          farther = later.farther;
          is = ap (λ cs. class ∷ cs) later.is;
          none_nearer = farther_on class later.nearer (owned-none class none) later.none_nearer;
          least = later.least;
        }

  nearest-none : (classes : List C) → nearest view owner p all classes ≡ None → All (λ y. P y → ¬ Contains classes (owner y)) all
  nearest-none [] is = All-from_each (λ y. P y → ¬ Contains [] (owner y)) all (λ y of-y holds. stands_nowhere (owner y))
  nearest-none (class ∷ classes) is = by_owned (owned class) refl is (nearest-none classes) where
    by_owned : (o : Option X) → owned class ≡ o → option_or o (nearest view owner p all classes) ≡ None
        → (nearest view owner p all classes ≡ None → All (λ y. P y → ¬ Contains classes (owner y)) all)
        → All (λ y. P y → ¬ Contains (class ∷ classes) (owner y)) all
    by_owned (Some y) has is more = absurd cc
    by_owned None none is more = farther_on class classes (owned-none class none) (more is)

  -- ---- and the nearest is found

  found-nearest : (nearer farther : List C) (x : X) → All (λ y. P y → ¬ Contains nearer (owner y)) all
      → IsLeast view.member_cmp key (λ y. P y × (owner y ≡ owner x)) all x → nearest view owner p all (nearer ++ owner x ∷ farther) ≡ Some x
  found-nearest [] farther x none least = rw (least-owned (owner x) x least) refl
  found-nearest (class ∷ nearer) farther x none least =
      rw (none-owned class (none_first class nearer none)) (found-nearest nearer farther x (none_later class nearer none) least)

  none-nearest : (classes : List C) → All (λ y. P y → ¬ Contains classes (owner y)) all → nearest view owner p all classes ≡ None
  none-nearest [] none = refl
  none-nearest (class ∷ classes) none =
      rw (none-owned class (none_first class classes none)) (none-nearest classes (none_later class classes none))

  -- ---- on the way from a class up

  pub nearest-is : (class : C) (x : X) → nearest view owner p all (way view class) ≡ Some x → IsNearest view owner key P all class x
  nearest-is class x is =
      let of_way = nearest-found (way view class) x is in
      record {
        nearer = of_way.nearer;
        farther = of_way.farther;
        way = subst (Way view class) of_way.is (way-is view ordered class);
        none_nearer = of_way.none_nearer;
        least = of_way.least;
      }

  pub is-nearest : (class : C) (x : X) → IsNearest view owner key P all class x → nearest view owner p all (way view class) ≡ Some x
  is-nearest class x is =
      let same : way view class ≡ is.nearer ++ owner x ∷ is.farther = one_way view ordered (way-is view ordered class) is.way in
      ap (nearest view owner p all) same ∙ found-nearest is.nearer is.farther x is.none_nearer is.least

  pub nearest-has_none : (class : C) → nearest view owner p all (way view class) ≡ None → HasNone view owner P all class
  nearest-has_none class is = record { classes = way view class; way = way-is view ordered class; none = nearest-none (way view class) is }

  pub has_none-nearest : (class : C) → HasNone view owner P all class → nearest view owner p all (way view class) ≡ None
  has_none-nearest class none =
      let same : way view class ≡ none.classes = one_way view ordered (way-is view ordered class) none.way in
      ap (nearest view owner p all) same ∙ none-nearest none.classes none.none
