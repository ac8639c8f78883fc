-- Outcomes that have a value where they have no fault.
use Rattle.std.proofs.Common.{◌≡◌, ℕ, List, [], ◌∷◌, ◌++◌, map, Option, Some, None, refl, sym, ◌∙◌, subst}
use Rattle.std.specs.Prelude.{⊤}
use Rattle.mol_resolve_rules.specs.FaultKinds.{FaultKind}
use Rattle.mol_resolve_rules.specs.Outcomes.{TreeFault, Outcome, fine, refused, with_faults, mapped, over_value, over, beside, both, put_first, all, maybe}

-- Where there is no fault there is a value, of which P holds.
abbrev pub IsWhole : {A : Type 0} → (A → Type 0) → Outcome A → Type 0
IsWhole {A} P outcome = outcome.faults ≡ [] → (a : A) × (outcome.value ≡ Some a) × P a

abbrev pub Any : {A : Type 0} → A → Type 0
Any a = ⊤

pub none-first : {X : Type 0} (xs ys : List X) → xs ++ ys ≡ [] → xs ≡ []
none-first [] ys none = refl
none-first (x ∷ xs) ys none = absurd cc

pub none-last : {X : Type 0} (xs ys : List X) → xs ++ ys ≡ [] → ys ≡ []
none-last [] ys none = none
none-last (x ∷ xs) ys none = absurd cc

module _ {A : Type 0} (P : A → Type 0) where
  pub whole-fine : (a : A) → P a → IsWhole P (fine a)
  whole-fine a holds none = (a, refl, holds)

  pub whole-refused : (kind : FaultKind) (at : ℕ) → IsWhole P (refused kind at)
  whole-refused kind at none = absurd cc

  pub whole-with_faults : (faults : List TreeFault) (o : Outcome A) → IsWhole P o → IsWhole P (with_faults faults o)
  whole-with_faults faults o whole none = whole (none-last faults o.faults none)

  pub whole-any : (o : Outcome A) → IsWhole P o → IsWhole Any o
  whole-any o whole none = let here = whole none in (here.0, here.1, tt)

module _ {A B : Type 0} (P : A → Type 0) (Q : B → Type 0) where
  pub whole-mapped : (make : A → B) (o : Outcome A) → IsWhole P o → ((a : A) → P a → Q (make a)) → IsWhole Q (mapped make o)
  whole-mapped make o whole each none =
      let here = whole none in (make here.0, rw here.1 refl, each here.0 here.2)

  pub whole-both : (o : Outcome A) (second : Outcome B) → IsWhole P o → IsWhole Q second
      → IsWhole (λ (pair : A × B). P pair.0 × Q pair.1) (both o second)
  whole-both o second whole more none =
      let here = whole (none-first o.faults second.faults none) in
      let there = more (none-last o.faults second.faults none) in
      ((here.0, there.0), rw (here.1, there.1) refl, (here.2, there.2))

  pub whole-over : (o : Outcome A) (make : A → Outcome B) → IsWhole P o → ((a : A) → P a → IsWhole Q (make a)) → IsWhole Q (over o make)
  whole-over o make whole each = by o.value refl where
    by : (v : Option A) → o.value ≡ v → IsWhole Q (over_value v o.faults make)
    by None is none = let here = whole none in absurd (let no : None ≡ Some here.0 = sym is ∙ here.1 in cc)
    by (Some a) is none =
        let here = whole (none-first o.faults (make a).faults none) in
        let same : here.0 ≡ a = let both : Some here.0 ≡ Some a = sym here.1 ∙ is in cc in
        each a (subst P same here.2) (none-last o.faults (make a).faults none)

module _ {A B : Type 0} (P : A → Type 0) (Q : B → Type 0) where
  pub whole-beside : (o : Outcome A) (make : Option A → Outcome B) → IsWhole P o → ((a : A) → P a → IsWhole Q (make (Some a)))
      → IsWhole Q (beside o make)
  whole-beside o make whole each none =
      let here = whole (none-first o.faults (make o.value).faults none) in
      subst (λ (v : Option A). IsWhole Q (make v)) (sym here.1) (each here.0 here.2)
      (none-last o.faults (make o.value).faults none)

pub whole-all : {X A : Type 0} (P : A → Type 0) (make : X → Outcome A) → ((x : X) → IsWhole P (make x)) → (xs : List X)
    → IsWhole Any (all (map make xs))
whole-all P make each [] = whole-fine Any [] tt
whole-all P make each (x ∷ xs) = whole-mapped (λ pair. P pair.0 × ⊤) Any put_first (both (make x) (all (map make xs)))
    (whole-both P Any (make x) (all (map make xs)) (each x) (whole-all P make each xs)) (λ pair holds. tt)

pub whole-maybe : {A : Type 0} (P : A → Type 0) (part : Outcome A) → IsWhole P part → IsWhole Any (maybe (Some part))
whole-maybe P part whole = whole-mapped P Any (λ a. Some a) part whole (λ a holds. tt)
