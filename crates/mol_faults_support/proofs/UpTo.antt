-- The first of some classes, up to one.
use Rattle.std.proofs.Common.{◌≡◌, ◌⊎◌, inl, inr, ℕ, ◌+◌, ◌<◌, ◌≤◌, true, false, List, [], ◌∷◌, ◌++◌, take, drop, get_or, length, Some, Contains, refl, sym, ◌∙◌, ap, subst, arith, true≢false}
use Rattle.std.proofs.lemmas.Bool.{cases_lt}
use Rattle.std.proofs.lemmas.List.{append_assoc, drop_more, get_or_at, length-append, take-append-drop, take_at, take_more}
use Rattle.std.proofs.lemmas.List.Quantifiers.{position-Some}
use Rattle.std.proofs.lemmas.Map.Keys.{apart_from_distinct}
use Rattle.std.specs.List.{list_any, position, IsDistinct}
use Rattle.std.specs.Prelude.{◌↔◌}
use Rattle.jav_names.proofs.Lists.{stands_first}
use Rattle.mol_base.specs.declared.ident.Id.{Id}
use Rattle.mol_resolve_rules.proofs.Stands.{behind}
use Rattle.mol_spell_rules.specs.Support.{IsBetween}
use Rattle.mol_faults_support.proofs.Among.{is-among}
use Rattle.mol_faults_support.specs.Ways.{IsUpTo}
use Rattle.mol_table_rules.proofs.Living.{id_tied, same_id-own}
use Rattle.mol_table_rules.specs.Ancestors.{way}
use Rattle.mol_table_rules.specs.Program.{Program}
use Rattle.mol_values_types.proofs.Ties.{id_ties}
use Rattle.mol_values_types.specs.Order.{id_eq}

eq-own : (id : Id) → id_eq id id ≡ true
eq-own id = id_ties id id ∙ same_id-own id

eq-tied : (first second : Id) → id_eq first second ≡ true → first ≡ second
eq-tied first second is = id_tied first second (sym (id_ties first second) ∙ is)

module _ (classes : List Id) (last : Id) (place : ℕ) (is : position (id_eq last) classes ≡ Some place)
    (distinct : IsDistinct id_eq classes) where
  found : (place < length classes) × (id_eq last (get_or classes place last) ≡ true)
      × ((k : ℕ) → k < place → id_eq last (get_or classes k last) ≡ false)
  found = position-Some (id_eq last) classes place last is

  here : get_or classes place last ≡ last
  here = sym (eq-tied last (get_or classes place last) found.1)

  front : take (place + 1) classes ≡ take place classes ++ last ∷ []
  front = take_more classes place last found.0 ∙ ap (λ c. take place classes ++ c ∷ []) here

  whole : classes ≡ take place classes ++ last ∷ drop (place + 1) classes
  whole = sym (take-append-drop place classes)
      ∙ ap (λ cs. take place classes ++ cs) (drop_more classes place last found.0 ∙ ap (λ c. c ∷ drop (place + 1) classes) here)

  -- it stands nowhere else
  only : (below above : List Id) → classes ≡ below ++ last ∷ above → length below ≡ place
  only below above split = by (cases_lt (length below) place) (cases_lt place (length below)) where
    there : get_or classes (length below) last ≡ last
    there = ap (λ cs. get_or cs (length below) last) split ∙ get_or_at below last above last (length below) refl

    by : (length below < place) ⊎ (place ≤ length below) → (place < length below) ⊎ (length below ≤ place) → length below ≡ place
    by (inl before) other = absurd (true≢false (sym (ap (id_eq last) there ∙ eq-own last) ∙ found.2 (length below) before))
    by (inr high) (inl after) =
        let within : length below < length classes = omega (arith, ap length split, length-append below (last ∷ above)) in
        absurd (true≢false (sym (eq-own last) ∙ sym (λ i. id_eq (here i) (there i))
        ∙ apart_from_distinct id_eq classes place (length below) last distinct after within))
    by (inr high) (inr low) = omega (arith, high, low)

  to : (class : Id) → Contains (take (place + 1) classes) class → IsUpTo classes last class
  to class stands = record {
    below = take place classes;
    above = drop (place + 1) classes;
    is = whole;
    met = subst (λ cs. Contains cs class) front stands;
  }

  from : (class : Id) → IsUpTo classes last class → Contains (take (place + 1) classes) class
  from class up = subst (λ cs. Contains cs class) (sym same) up.met where
    same : take (place + 1) classes ≡ up.below ++ last ∷ []
    same =
        let long = only up.below up.above up.is in
        ap (take (place + 1)) (up.is ∙ sym (append_assoc up.below (last ∷ []) up.above))
        ∙ take_at (up.below ++ last ∷ []) up.above (place + 1) (omega (arith, long, length-append up.below (last ∷ [])))

  pub up-to : (cut : List Id) → cut ≡ take (place + 1) classes → (class : Id) → Contains cut class ↔ IsUpTo classes last class
  up-to cut made class = (
    λ stands. to class (subst (λ cs. Contains cs class) made stands),
    λ up. subst (λ cs. Contains cs class) (sym made) (from class up),
  )

-- nothing is up to a class that is not there
pub up-to-none : (classes : List Id) (last : Id) → list_any (id_eq last) classes ≡ false → (class : Id) → ¬ IsUpTo classes last class
up-to-none classes last none class up =
    true≢false (sym (is-among classes last (subst (λ cs. Contains cs last) (sym up.is)
    (behind up.below (last ∷ up.above) last (stands_first last up.above)))) ∙ none)

-- ---- between two classes

module _ (program : Program) (lower upper : Id) (met cut : List Id) (is : met ≡ way program lower)
    (up : (class : Id) → Contains cut class ↔ IsUpTo met upper class) where
  cut-to : (class : Id) → IsUpTo met upper class → IsBetween program lower upper class
  cut-to class to = record { below = to.below; above = to.above; way = sym is ∙ to.is; met = to.met }

  cut-from : (class : Id) → IsBetween program lower upper class → IsUpTo met upper class
  cut-from class between = record { below = between.below; above = between.above; is = is ∙ between.way; met = between.met }

  pub between-cut : (class : Id) → Contains cut class ↔ IsBetween program lower upper class
  between-cut class = (λ stands. cut-to class ((up class).0 stands), λ between. (up class).1 (cut-from class between))
