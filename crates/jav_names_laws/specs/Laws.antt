-- That names read alike in views with other keys, and that numbers can be keys.
use Rattle.std.specs.Prelude.{◌≡◌, ◌≢◌, ℕ, List, Some, None, slice_get}
use Rattle.std.specs.List.{AllPairs}
use Rattle.std.specs.Ordering.{is_eq, nat_cmp}
use Rattle.std.specs.declared.cmp.Ordering.{Ordering}
use Rattle.jav_names.specs.DottedNames.{Name}
use Rattle.jav_names.specs.LookUps.{found_or, field_from, method_from, super_method}
use Rattle.jav_names.specs.Members.{is_object_method}
use Rattle.jav_names.specs.Views.{View, IsKeyOrder, not_found}
use Rattle.jav_names_laws.specs.Alike.{ViewsAlike, LooksAlikeIn}
use Rattle.jav_names_laws.specs.HasKeys.{HasKeys}
use Rattle.jav_names_laws.specs.Keys.{Keys}
use Rattle.jav_names_laws.specs.Numbered.{pair_number, list_number, number_among}
use Rattle.jav_names_laws.specs.Strange.{IsStrange}
use Rattle.jav_names_laws.specs.ViewsMatch.{ViewsMatch}

-- In views that are alike all names read alike. Here and below keys are of these types.
abbrev pub LooksAlike : Type 0 → Type 0 → Type 0 → Type 0 → Type 0
LooksAlike C M D N = (keys : Keys C M D N) (view : View C M) (other : View D N) → ViewsAlike keys view other
    → LooksAlikeIn keys view other

-- Views that differ in their keys alone are alike,
abbrev pub KeysAlike : Type 0 → Type 0 → Type 0 → Type 0 → Type 0
KeysAlike C M D N = (keys : Keys C M D N) (view : View C M) (other : View D N) → HasKeys keys view other
    → ViewsAlike keys view other

-- and so are views that match.
abbrev pub MatchingAlike : Type 0 → Type 0 → Type 0 → Type 0 → Type 0
MatchingAlike C M D N = (keys : Keys C M D N) (view : View C M) (other : View D N) → ViewsMatch keys view other
    → ViewsAlike keys view other

-- No two pairs, and no two lists, have one number.
pub record NumbersApart : Type 0 where
  pub pairs : (m n k l : ℕ) → pair_number m n ≡ pair_number k l → (m ≡ k) × (n ≡ l)
  pub lists : (first second : List ℕ) → list_number first ≡ list_number second → first ≡ second

-- No two keys have one number, where no two have one number of their own; so that comparing numbers is comparing keys. The number of a key
-- is its place among the keys, where no two of them are one.
pub record KeysNumbered (K : Type 0) : Type 0 where
  pub apart : (cmp : K → K → Ordering) (own : K → ℕ) → IsKeyOrder cmp → ((first second : K) → own first ≡ own second → first ≡ second)
      → (keys : List K) (first second : K) → number_among cmp own keys first ≡ number_among cmp own keys second → first ≡ second
  pub compared : (cmp : K → K → Ordering) (own : K → ℕ) → IsKeyOrder cmp → ((first second : K) → own first ≡ own second → first ≡ second)
      → (keys : List K) (first second : K) → is_eq (cmp first second)
      ≡ is_eq (nat_cmp (number_among cmp own keys first) (number_among cmp own keys second))
  pub placed : (cmp : K → K → Ordering) (own : K → ℕ) → IsKeyOrder cmp → (keys : List K) → AllPairs (λ first second. first ≢ second) keys
      → (place : ℕ) (key : K) → slice_get keys place ≡ Some key → number_among cmp own keys key ≡ place

-- From a class with the key of nothing up no field is found, and no method but those of `Object`.
pub record StrangeFindNothing (C M : Type 0) : Type 0 where
  pub fields : (view : View C M) (class : C) (name : Name) → IsStrange view class → field_from view class name ≡ not_found
  pub methods : (view : View C M) (class : C) (name : Name) (arity : ℕ) → IsStrange view class
      → method_from view class name arity ≡ found_or None (is_object_method name arity)
  pub super_methods : (view : View C M) (class : C) (name : Name) (arity : ℕ) → IsStrange view class
      → super_method view class name arity ≡ found_or None (is_object_method name arity)
