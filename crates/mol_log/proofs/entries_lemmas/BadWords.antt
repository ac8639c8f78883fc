-- Words that spell a tree have no bad word, and other words have one first bad word.
use Rattle.std.proofs.Common.{◌≡◌, ℕ, ◌<◌, List, [], ◌∷◌, ◌++◌, length, Bool, true, false, refl, sym, ◌∙◌, ap, subst}
use Rattle.std.proofs.Common.{arith, append_assoc, append-nil}
use Rattle.std.specs.Prelude.{nat_lt}
use Rattle.std.proofs.lemmas.Bool.Decides.{nat_tests}
use Rattle.mol_log_words.specs.FirstBad.{Form, GoesOn, StopsBefore, IsFirstBad}
use Rattle.mol_log_words.specs.Words.{Word}

-- of two front parts of one list the longer one goes on with the next word
less : (f f' g g' : List Word) → f ++ f' ≡ g ++ g' → length f < length g
    → (w : Word) × (more rest : List Word) × (g ≡ f ++ w ∷ more) × (f' ≡ w ∷ rest)
less [] f' [] g' e low = absurd (omega (arith, low))
less [] f' (w ∷ g) g' e low = (w, g, g ++ g', refl, e)
less (x ∷ f) f' [] g' e low = absurd (omega (arith, low))
less (x ∷ f) f' (y ∷ g) g' e low =
    let head : x ≡ y = cc in
    let tail : f ++ f' ≡ g ++ g' = cc in
    let r = less f f' g g' tail (omega (arith, low)) in
    (r.0, r.1, r.2, (λ i. sym head i ∷ r.3 i), r.4)

module _ {T : Type 0} (Is : Form T) where
  pub good_or_bad : (ts : List Word) (at : ℕ) (t : T) → Is t ts → IsFirstBad Is ts at → ⊥
  good_or_bad ts at t is bad = by bad.front bad.rest bad.split bad.bad where
    by : (front rest : List Word) → ts ≡ front ++ rest → StopsBefore Is front rest → ⊥
    by front [] split stops = stops t (subst (Is t) (split ∙ append-nil front) is)
    by front (w ∷ rest) split stops = stops (rest, t, subst (Is t) (split ∙ sym (append_assoc front (w ∷ []) rest)) is)

  -- where a longer front part goes on, the shorter one does not stop
  goes_past : (f f' g g' : List Word) → f ++ f' ≡ g ++ g' → length f < length g → GoesOn Is g → StopsBefore Is f f' → ⊥
  goes_past f f' g g' e low on stops =
      let r = less f f' g g' e low in
      let stops' : StopsBefore Is f (r.0 ∷ r.2) = subst (StopsBefore Is f) r.4 stops in
      let front : g ++ on.0 ≡ (f ++ r.0 ∷ []) ++ (r.1 ++ on.0) =
      ap (λ ws. ws ++ on.0) r.3 ∙ append_assoc f (r.0 ∷ r.1) on.0 ∙ sym (append_assoc f (r.0 ∷ []) (r.1 ++ on.0)) in
      stops' (r.1 ++ on.0, on.1, subst (Is on.1) front on.2)

  pub one_place : (ts : List Word) (a b : ℕ) → IsFirstBad Is ts a → IsFirstBad Is ts b → a ≡ b
  one_place ts a b x y = x.place ∙ by (nat_lt m n) refl (nat_lt n m) refl ∙ sym y.place where
    m : ℕ
    m = length x.front

    n : ℕ
    n = length y.front

    by : (l : Bool) → nat_lt m n ≡ l → (g : Bool) → nat_lt n m ≡ g → m ≡ n
    by true i g j = absurd (goes_past x.front x.rest y.front y.rest (sym x.split ∙ y.split) (grind (arith, nat_tests, i)) y.before x.bad)
    by false i true j =
        absurd (goes_past y.front y.rest x.front x.rest (sym y.split ∙ x.split) (grind (arith, nat_tests, j)) x.before y.bad)
    by false i false j = grind (arith, nat_tests, i, j)
