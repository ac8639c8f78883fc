-- Steps up from a class meet its ancestors, and nothing else.
use Rattle.std.proofs.Common.{◌≡◌, ◌≢◌, ◌⊎◌, inl, inr, ℕ, zero, suc, ◌==◌, Bool, true, false, cond, ◌||◌, List, [], ◌∷◌, drop, length, Option, Some, None, Contains, refl, sym, ◌∙◌, ap, subst, true≢false, eq-eqb, ne_eqb, if◌then◌else◌}
use Rattle.std.specs.List.{list_any}
use Rattle.jav_names.specs.LookUps.{class_above, is_met, unmet, each_above, way_from, ancestors}
use Rattle.jav_names.specs.UnitViews.{MemberKey}
use Rattle.jav_names.specs.Views.{AreOrdered, View}
use Rattle.jav_names.proofs.Lists.{stands_first, stands_later, stands_where, stands_nowhere}
use Rattle.jav_names.proofs.Ways.{is_met-decides}
use Rattle.jav_scope.specs.ancestors.Steps.{unless_from, next_up, and_on, steps_up}

module _ {M : Type 0} (view : View ℕ M) (order : AreOrdered view.classes) (from : ℕ) (test : ℕ → Bool) where
  abbrev above : ℕ → Option ℕ
  above class = class_above view class

  -- The way up to a class, which is the first of these: each extends one of them, but for the first, and none but the one from which the
  -- way begins passes the test.
  record IsWayUp (at : ℕ) (met : List ℕ) : Type 0 where
    pub begun : Contains (at ∷ met) from
    pub closed : (class : ℕ) → Contains met class → (next : ℕ) × (above class ≡ Some next) × Contains (at ∷ met) next
    pub failed : (class : ℕ) → Contains (at ∷ met) class → class ≢ from → test class ≡ false

  -- round a circle nothing new is met
  module _ (all : List ℕ) (closed : (class : ℕ) → Contains all class → (next : ℕ) × (above class ≡ Some next) × Contains all next)
      (failed : (class : ℕ) → Contains all class → class ≢ from → test class ≡ false) where
    round : (steps at : ℕ) → Contains all at → list_any test (steps_up steps view from at) ≡ false
    round zero at stands = refl
    round (suc steps) at stands =
        ap (λ o. list_any test (and_on (unless_from from o) (steps_up steps view from))) (closed at stands).1
        ∙ by (closed at stands) ((closed at stands).0 == from) refl (round steps (closed at stands).0 (closed at stands).2) where
          apart : (n : ℕ) → (n == from) ≡ false → n ≢ from
          apart n differs same = true≢false (sym (eq-eqb n from same) ∙ differs)

          by : (next : (n : ℕ) × (above at ≡ Some n) × Contains all n) → (b : Bool) → (next.0 == from) ≡ b
              → list_any test (steps_up steps view from next.0) ≡ false
              → list_any test (and_on (if b then None else Some next.0) (steps_up steps view from)) ≡ false
          by next true is more = refl
          by next false differs more = (λ i. failed next.0 next.2 (apart next.0 differs) i || more i)

  begins : (steps : ℕ) (met : List ℕ) (at : ℕ) → way_from steps view met at ≡ at ∷ drop 1 (way_from steps view met at)
  begins zero met at = refl
  begins (suc steps) met at = refl

  -- one step on, to a class that was not met
  further : (met : List ℕ) (at next : ℕ) → IsWayUp at met → above at ≡ Some next → test next ≡ false → IsWayUp next (at ∷ met)
  further met at next up is fails = record {
    begun = stands_later next from (at ∷ met) up.begun;
    closed = λ class there. by_closed class (stands_where at class met there);
    failed = λ class there. by_failed class (stands_where next class (at ∷ met) there);
  } where
    by_closed : (class : ℕ) → (at ≡ class) ⊎ Contains met class
        → (n : ℕ) × (above class ≡ Some n) × Contains (next ∷ at ∷ met) n
    by_closed class (inl same) = (next, ap above (sym same) ∙ is, stands_first next (at ∷ met))
    by_closed class (inr before) =
        let more = up.closed class before in (more.0, more.1, stands_later next more.0 (at ∷ met) more.2)

    by_failed : (class : ℕ) → (next ≡ class) ⊎ Contains (at ∷ met) class → class ≢ from → test class ≡ false
    by_failed class (inl same) apart = ap test (sym same) ∙ fails
    by_failed class (inr before) apart = up.failed class before apart

  met-all : (steps : ℕ) (met : List ℕ) (at : ℕ) → IsWayUp at met
      → list_any test (steps_up steps view from at) ≡ list_any test (drop 1 (way_from steps view met at))
  met-all zero met at up = refl
  met-all (suc steps) met at up = by (above at) refl (λ next on. met-all steps (at ∷ met) next on) where
    by : (o : Option ℕ) → above at ≡ o
        → ((next : ℕ) → IsWayUp next (at ∷ met)
        → list_any test (steps_up steps view from next) ≡ list_any test (drop 1 (way_from steps view (at ∷ met) next)))
        → list_any test (and_on (unless_from from o) (steps_up steps view from))
        ≡ list_any test (each_above (unmet view.classes (at ∷ met) o) (λ class. way_from steps view (at ∷ met) class))
    by None is again = refl
    by (Some next) is again = by_met (is_met view.classes (at ∷ met) next) refl where
      all-closed : Contains (at ∷ met) next → (class : ℕ) → Contains (at ∷ met) class
          → (n : ℕ) × (above class ≡ Some n) × Contains (at ∷ met) n
      all-closed stands class there = by_place (stands_where at class met there) where
        by_place : (at ≡ class) ⊎ Contains met class → (n : ℕ) × (above class ≡ Some n) × Contains (at ∷ met) n
        by_place (inl same) = (next, ap above (sym same) ∙ is, stands)
        by_place (inr before) = up.closed class before

      around : Contains (at ∷ met) next → (b : Bool) → (next == from) ≡ b
          → list_any test (and_on (if b then None else Some next) (steps_up steps view from)) ≡ false
      around stands true same = refl
      around stands false differs =
          (λ i. up.failed next stands (λ same. true≢false (sym (eq-eqb next from same) ∙ differs)) i
          || round (at ∷ met) (all-closed stands) up.failed steps next stands i)

      not_from : is_met view.classes (at ∷ met) next ≡ false → (next == from) ≡ false
      not_from new = ne_eqb next from (λ same. true≢false (sym ((is_met-decides view.classes order (at ∷ met) next).1
          (subst (Contains (at ∷ met)) (sym same) up.begun)) ∙ new))

      onward : (b : Bool) → test next ≡ b
          → (test next || list_any test (steps_up steps view from next))
          ≡ (test next || list_any test (drop 1 (way_from steps view (at ∷ met) next)))
      onward true passes = ap (λ b. b || list_any test (steps_up steps view from next)) passes
          ∙ sym (ap (λ b. b || list_any test (drop 1 (way_from steps view (at ∷ met) next))) passes)
      onward false fails = ap (λ b. test next || b) (again next (further met at next up is fails))

      by_met : (b : Bool) → is_met view.classes (at ∷ met) next ≡ b
          → list_any test (and_on (if next == from then None else Some next) (steps_up steps view from))
          ≡ list_any test (each_above (if b then None else Some next) (λ class. way_from steps view (at ∷ met) class))
      by_met true before =
          around ((is_met-decides view.classes order (at ∷ met) next).0 before) (next == from) refl
      by_met false new =
          ap (λ b. list_any test (and_on (if b then None else Some next) (steps_up steps view from))) (not_from new)
          ∙ onward (test next) refl
          ∙ ap (list_any test) (sym (begins steps (at ∷ met) next))

  -- from a class on
  pub met-ancestors : (steps : ℕ) → length view.classes.items ≡ steps
      → list_any test (steps_up steps view from from) ≡ list_any test (ancestors view from)
  met-ancestors steps many =
      met-all steps [] from (record {
        begun = stands_first from [];
        closed = λ class there. absurd (stands_nowhere class there);
        failed = λ class there apart. absurd (by class (stands_where from class [] there) apart);
      })
      ∙ ap (λ n. list_any test (drop 1 (way_from n view [] from))) (sym many) where
        by : (class : ℕ) → (from ≡ class) ⊎ Contains [] class → class ≢ from → ⊥
        by class (inl same) apart = apart (sym same)
        by class (inr there) apart = stands_nowhere class there
