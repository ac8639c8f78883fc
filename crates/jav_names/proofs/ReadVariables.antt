-- The name of a variable has exactly one reading.
use Rattle.std.proofs.Common.{◌≡◌, ℕ, zero, suc, ◌<◌, Bool, true, false, cond, if◌then◌else◌, [], ◌∷◌, Option, Some, None, option_map, bytes_eq, slice_get, refl, ap, subst, arith}
use Rattle.std.specs.Option.{option_or}
use Rattle.std.proofs.lemmas.List.Elements.{All-nil, All-cons, All-head, All-tail}
use Rattle.std.proofs.lemmas.Slice.Eq.{bytes_eq-Decides}
use Rattle.jav_names.specs.Choices.{IsFirst, IsLast}
use Rattle.jav_names.specs.DottedNames.{Name, Names}
use Rattle.jav_names.specs.Laws.{IsTheAnswer}
use Rattle.jav_names.specs.LookUps.{first_place, last_place, field_found, local_or, field_from, variable}
use Rattle.jav_names.specs.Members.{ReadsField}
use Rattle.jav_names.specs.Variables.{Place, Variable, IsAbsent, ReadsVariable}
use Rattle.jav_names.specs.Views.{ViewField, View, IsOrdered, Found, found, outside, not_found}
use Rattle.jav_names.proofs.Lists.{Decides-not, Decides-fails}
use Rattle.jav_names.proofs.Places.{IsFirst-later, IsFirst-rest, IsLast-later, IsLast-rest, HoldsOfNone-at}
use Rattle.jav_names.proofs.ReadMembers.{field-answered}

-- a place is one further on where there is one more name in front
further : {k : ℕ} (o : Option ℕ) → option_map (λ j. suc j) o ≡ Some k → (j : ℕ) × (o ≡ Some j) × (suc j ≡ k)
further None is = absurd cc
further (Some j) is = (j, refl, let same : suc j ≡ _ = cc in same)

no_further : (o : Option ℕ) → option_map (λ j. suc j) o ≡ None → o ≡ None
no_further None is = refl
no_further (Some j) is = absurd cc

module _ (name : Name) where
  abbrev pub Is : Name → Type 0
  Is next = next ≡ name

  -- ---- the first

  first_place-none : (names : Names) → first_place name names ≡ None → IsAbsent names name
  first_place-none [] is = All-nil (λ z. ¬ Is z)
  first_place-none (next ∷ rest) is = by_test (bytes_eq next name) refl is (first_place-none rest) where
    by_test : (b : Bool) → bytes_eq next name ≡ b → cond b (Some 0) (option_map (λ k. suc k) (first_place name rest)) ≡ None
        → (first_place name rest ≡ None → IsAbsent rest name) → IsAbsent (next ∷ rest) name
    by_test true same at more = absurd cc
    by_test false differs at more =
        All-cons (λ z. ¬ Is z) next rest (Decides-not (bytes_eq-Decides next name) differs) (more (no_further (first_place name rest) at))

  first_place-is : (names : Names) (k : ℕ) → first_place name names ≡ Some k → IsFirst Is names k name
  first_place-is [] k is = absurd cc
  first_place-is (next ∷ rest) k is = by_test (bytes_eq next name) refl is (first_place-is rest) where
    by_test : (b : Bool) → bytes_eq next name ≡ b → cond b (Some 0) (option_map (λ j. suc j) (first_place name rest)) ≡ Some k
        → ((j : ℕ) → first_place name rest ≡ Some j → IsFirst Is rest j name) → IsFirst Is (next ∷ rest) k name
    by_test true same at more =
        let zeroth : 0 ≡ k = cc in
        subst (λ j. IsFirst Is (next ∷ rest) j name) zeroth (record {
          here = ap (λ n. Some n) ((bytes_eq-Decides next name).0 same);
          holds = refl;
          none_before = λ j z below is. absurd (omega (arith, below));
        })
    by_test false differs at more =
        let later = further (first_place name rest) at in
        subst (λ j. IsFirst Is (next ∷ rest) j name) later.2
        (IsFirst-later Is next rest later.0 name (Decides-not (bytes_eq-Decides next name) differs) (more later.0 later.1))

  is-first_place : (names : Names) (k : ℕ) → IsFirst Is names k name → first_place name names ≡ Some k
  is-first_place [] k first = absurd (let is = first.here in cc)
  is-first_place (next ∷ rest) zero first = rw ((bytes_eq-Decides next name).1 (let same : Some next ≡ Some name = first.here in cc)) refl
  is-first_place (next ∷ rest) (suc k) first =
      rw (
        Decides-fails (bytes_eq-Decides next name) (first.none_before zero next (omega arith) refl),
        is-first_place rest k
            (IsFirst-rest Is next rest k name first),
      ) refl

  none-first_place : (names : Names) → IsAbsent names name → first_place name names ≡ None
  none-first_place [] none = refl
  none-first_place (next ∷ rest) none =
      rw (
        Decides-fails (bytes_eq-Decides next name) (All-head (λ z. ¬ Is z) next rest none),
        none-first_place rest
            (All-tail (λ z. ¬ Is z) next rest none),
      ) refl

  -- ---- the last

  abbrev here_or_none : Name → Option ℕ
  here_or_none next = if bytes_eq next name then Some 0 else None

  last_place-none : (names : Names) → last_place name names ≡ None → IsAbsent names name
  last_place-none [] is = All-nil (λ z. ¬ Is z)
  last_place-none (next ∷ rest) is = by_rest (last_place name rest) refl is (last_place-none rest) where
    by_test : IsAbsent rest name → (b : Bool) → bytes_eq next name ≡ b → cond {A = Option ℕ} b (Some 0) None ≡ None
        → IsAbsent (next ∷ rest) name
    by_test none true same at = absurd cc
    by_test none false differs at = All-cons (λ z. ¬ Is z) next rest (Decides-not (bytes_eq-Decides next name) differs) none

    by_rest : (o : Option ℕ) → last_place name rest ≡ o → option_or (option_map (λ k. suc k) o) (here_or_none next) ≡ None
        → (last_place name rest ≡ None → IsAbsent rest name) → IsAbsent (next ∷ rest) name
    by_rest None none at more = by_test (more none) _ refl at
    by_rest (Some k) has at more = absurd cc

  last_place-is : (names : Names) (k : ℕ) → last_place name names ≡ Some k → IsLast Is names k name
  last_place-is [] k is = absurd cc
  last_place-is (next ∷ rest) k is = by_rest (last_place name rest) refl is (last_place-is rest) where
    by_test : IsAbsent rest name → (b : Bool) → bytes_eq next name ≡ b → cond b (Some 0) None ≡ Some k → IsLast Is (next ∷ rest) k name
    by_test none true same at =
        let zeroth : 0 ≡ k = cc in
        subst (λ j. IsLast Is (next ∷ rest) j name) zeroth (record {
          here = ap (λ n. Some n) ((bytes_eq-Decides next name).0 same);
          holds = refl;
          none_after = after;
        }) where
          after : (j : ℕ) (z : Name) → 0 < j → slice_get (next ∷ rest) j ≡ Some z → ¬ Is z
          after zero z above is = absurd (omega (arith, above))
          after (suc j) z above is = HoldsOfNone-at Is rest j z none is
    by_test none false differs at = absurd cc

    by_rest : (o : Option ℕ) → last_place name rest ≡ o → option_or (option_map (λ j. suc j) o) (here_or_none next) ≡ Some k
        → ((j : ℕ) → last_place name rest ≡ Some j → IsLast Is rest j name) → IsLast Is (next ∷ rest) k name
    by_rest None none at more = by_test (last_place-none rest none) _ refl at
    by_rest (Some j) has at more =
        let same : suc j ≡ k = cc in
        subst (λ i. IsLast Is (next ∷ rest) i name) same (IsLast-later Is next rest j name (more j has))

  none-last_place : (names : Names) → IsAbsent names name → last_place name names ≡ None
  none-last_place [] none = refl
  none-last_place (next ∷ rest) none =
      rw (
        none-last_place rest (All-tail (λ z. ¬ Is z) next rest none),
        Decides-fails (bytes_eq-Decides next name)
            (All-head (λ z. ¬ Is z) next rest none),
      ) refl

  -- a name that stands at no place is absent
  absent-from_places : (names : Names) → ((k : ℕ) (z : Name) → slice_get names k ≡ Some z → ¬ Is z) → IsAbsent names name
  absent-from_places [] none = All-nil (λ z. ¬ Is z)
  absent-from_places (next ∷ rest) none =
      All-cons (λ z. ¬ Is z) next rest (none zero next refl) (absent-from_places rest (λ k z is. none (suc k) z is))

  is-last_place : (names : Names) (k : ℕ) → IsLast Is names k name → last_place name names ≡ Some k
  is-last_place [] k last = absurd (let is = last.here in cc)
  is-last_place (next ∷ rest) zero last =
      rw (
        none-last_place rest (absent-from_places rest (λ j z is. last.none_after (suc j) z (omega arith) is)),
        (bytes_eq-Decides next name).1 (let same : Some next ≡ Some name = last.here in cc),
      ) refl
  is-last_place (next ∷ rest) (suc k) last = rw (is-last_place rest k (IsLast-rest Is next rest k name last)) refl

-- ---- variables

module _ {C M : Type 0} (view : View C M) (ordered : IsOrdered view) (place : Place C) (name : Name) where
  reads_field : IsAbsent place.locals name → IsAbsent place.params name → (reading : Found (ViewField C M))
      → ReadsField view place.class name reading
      → ReadsVariable view place name (field_found reading)
  reads_field no_local no_param (found field) reads = ReadsVariable.nearest_field no_local no_param reads
  reads_field no_local no_param outside reads = ReadsVariable.in_outside_class no_local no_param reads
  reads_field no_local no_param not_found reads = ReadsVariable.not_there no_local no_param reads

  reads : (local : Option ℕ) → last_place name place.locals ≡ local → (param : Option ℕ) → first_place name place.params ≡ param
      → ReadsVariable view place name (local_or local param (field_from view place.class name))
  reads (Some k) is param at = ReadsVariable.nearest_local (last_place-is name place.locals k is)
  reads None none (Some k) is =
      ReadsVariable.first_parameter (last_place-none name place.locals none) (first_place-is name place.params k is)
  reads None none None none' = reads_field (last_place-none name place.locals none) (first_place-none name place.params none') _
      (field-answered view ordered place.class name).holds

  field_only : (reading : Found (ViewField C M)) → ReadsField view place.class name reading → reading ≡ field_from view place.class name
  field_only = (field-answered view ordered place.class name).only

  only : (reading : Found (Variable C M)) → ReadsVariable view place name reading → reading ≡ variable view place name
  only reading (ReadsVariable.nearest_local {number = k} last) = rw (is-last_place name place.locals k last) refl
  only reading (ReadsVariable.first_parameter {number = k} no_local first) =
      rw (none-last_place name place.locals no_local, is-first_place name place.params k first) refl
  only reading (ReadsVariable.nearest_field no_local no_param reads) =
      rw (none-last_place name place.locals no_local, none-first_place name place.params no_param, ← field_only _ reads) refl
  only reading (ReadsVariable.in_outside_class no_local no_param reads) =
      rw (none-last_place name place.locals no_local, none-first_place name place.params no_param, ← field_only _ reads) refl
  only reading (ReadsVariable.not_there no_local no_param reads) =
      rw (none-last_place name place.locals no_local, none-first_place name place.params no_param, ← field_only _ reads) refl

  pub variable-answered : IsTheAnswer (ReadsVariable view place name) (variable view place name)
  variable-answered = record { holds = reads _ refl _ refl; only = only }
