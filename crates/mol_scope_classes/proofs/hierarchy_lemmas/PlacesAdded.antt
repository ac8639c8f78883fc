-- Classes that are given a new place.
use Rattle.std.proofs.Common.{◌≡◌, ◌⊎◌, inl, inr, ℕ, ◌<◌, ◌≤◌, Bool, true, false, cond, List, [], ◌∷◌, ◌++◌, length, Option, Some, None, Contains, slice_get, refl, sym, ◌∙◌, ap, subst, arith, length-append}
use Rattle.std.specs.Prelude.{◌↔◌, IsSome}
use Rattle.std.specs.Cmp.{eq_by_cmp_equiv}
use Rattle.std.specs.List.{list_any}
use Rattle.std.proofs.lemmas.Bool.{cases_lt}
use Rattle.std.proofs.lemmas.Map.Views.{Contains-from_any, list_any-from_Contains}
use Rattle.jav_names.proofs.Lists.{stands_where, stands_nowhere}
use Rattle.mol_base.specs.Order.{id_cmp-total}
use Rattle.mol_base.specs.declared.ident.Id.{Id}
use Rattle.mol_table_rules.proofs.Counts.{none-some, some-same}
use Rattle.mol_table_rules.proofs.Living.{id_tied}
use Rattle.mol_table_rules.specs.Heights.{upward}
use Rattle.mol_table_rules.specs.Program.{Program, same_id}
use Rattle.mol_scope_classes.specs.hierarchy.Forest.{IsUp, here, up, IsPlace, ArePlaces, IsBelow, top_place}
use Rattle.mol_scope_classes.specs.hierarchy.Placed.{number_in, HasAbove, ArePlaced, AreNew, Adds, Keeps}
use Rattle.mol_scope_classes.specs.hierarchy.Reaching.{Reaches, AreTop}
use Rattle.mol_scope_classes.specs.declared.hierarchy.place.Place.{Place}
use Rattle.mol_scope_classes.proofs.hierarchy_lemmas.Following.{itself, one-step, further, first-step, stays}
use Rattle.mol_scope_classes.proofs.hierarchy_lemmas.WaysUp.{get-front, get-last, get-inside, top-alone, past, up-low, up-more, place-more, up-back}

only : (class x : Id) → Contains (class ∷ []) x → class ≡ x
only class x stands = by (stands_where class x [] stands) where
  by : (class ≡ x) ⊎ Contains [] x → class ≡ x
  by (inl same) = same
  by (inr later) = absurd (stands_nowhere x later)

module _ (program : Program) (numbers : List (Id × ℕ)) (places : List Place) (classes : List Id) (place : Place)
    (new_numbers : List (Id × ℕ)) (new_places : List Place) (adds : Adds numbers places classes place new_numbers new_places)
    (new : AreNew numbers classes) where
  abbrev last : ℕ
  last = length places

  abbrev more : List Place
  more = places ++ place ∷ []

  -- ---- numbers

  put : (class : Id) (b : Bool) → list_any (same_id class) classes ≡ b
      → number_in new_numbers class ≡ cond b (Some last) (number_in numbers class)
  put class b is = adds.numbered class ∙ ap (λ b. cond b (Some last) (number_in numbers class)) is

  pub old-number : (class : Id) (number : ℕ) → number_in numbers class ≡ Some number → number_in new_numbers class ≡ Some number
  old-number class number is = by (list_any (same_id class) classes) refl where
    by : (b : Bool) → list_any (same_id class) classes ≡ b → number_in new_numbers class ≡ Some number
    by true among = absurd (none-some number (sym (new class (Contains-from_any id_tied class classes among)) ∙ is))
    by false not = put class false not ∙ is

  pub new-number : (class : Id) → Contains classes class → number_in new_numbers class ≡ Some last
  new-number class stands = put class true (list_any-from_Contains (eq_by_cmp_equiv id_cmp-total) class classes stands)

  pub kept : Keeps numbers new_numbers
  kept class has = by (number_in numbers class) refl has where
    by : (o : Option ℕ) → number_in numbers class ≡ o → IsSome o → IsSome (number_in new_numbers class)
    by None is some = absurd cc
    by (Some number) is some = subst (λ o. IsSome o) (sym (old-number class number is)) refl

  which : (class : Id) (number : ℕ) → number_in new_numbers class ≡ Some number
      → (Contains classes class × (number ≡ last)) ⊎ (number_in numbers class ≡ Some number)
  which class number is = by (list_any (same_id class) classes) refl where
    by : (b : Bool) → list_any (same_id class) classes ≡ b
        → (Contains classes class × (number ≡ last)) ⊎ (number_in numbers class ≡ Some number)
    by true among = inl (Contains-from_any id_tied class classes among, some-same number last (sym is ∙ put class true among))
    by false not = inr (sym (put class false not) ∙ is)

  -- ---- places

  module _ (placed : ArePlaced program numbers places) where
    -- what each of the classes leads to, by places
    abbrev AreLed : Type 0
    AreLed = (below : Id) → Contains classes below → (above : Id)
        → Reaches program below above ↔ (Contains classes above ⊎ HasAbove numbers more last above)

    -- a place that was there, or the new one
    old-or-new : (number : ℕ) (p : Place) → slice_get more number ≡ Some p
        → (slice_get places number ≡ Some p) ⊎ ((last ≡ number) × (place ≡ p))
    old-or-new number p there = by (cases_lt number last) where
      by : (number < last) ⊎ (last ≤ number) → (slice_get places number ≡ Some p) ⊎ ((last ≡ number) × (place ≡ p))
      by (inl within) = inl (sym (get-front places (place ∷ []) number within) ∙ there)
      by (inr past_all) =
          let inside = get-inside more number p there in
          let same : last ≡ number = omega (arith, past_all, inside, length-append places (place ∷ [])) in
          inr (same, some-same place p (sym (get-last places place) ∙ ap (slice_get more) same ∙ there))

    places-more : IsPlace more last place → ArePlaces more
    places-more own number p there = by (old-or-new number p there) where
      by : (slice_get places number ≡ Some p) ⊎ ((last ≡ number) × (place ≡ p)) → IsPlace more number p
      by (inl old) = place-more places (place ∷ []) number p (placed.forest number p old)
      by (inr same) = subst (λ n. IsPlace more n p) same.0 (subst (IsPlace more last) same.1 own)

    of-new : AreLed → (class : Id) → Contains classes class → (above : Id)
        → Reaches program class above ↔ HasAbove new_numbers more last above
    of-new led class stands above = (
      λ reaches. there ((led class stands above).0 reaches),
      λ has. (led class stands above).1 (back has),
    ) where
      there : Contains classes above ⊎ HasAbove numbers more last above → HasAbove new_numbers more last above
      there (inl among) = record { own = last; is = new-number above among; leads = here }
      there (inr has) = record { own = has.own; is = old-number above has.own has.is; leads = has.leads }

      back : HasAbove new_numbers more last above → Contains classes above ⊎ HasAbove numbers more last above
      back has = by (which above has.own has.is) where
        by : (Contains classes above × (has.own ≡ last)) ⊎ (number_in numbers above ≡ Some has.own)
            → Contains classes above ⊎ HasAbove numbers more last above
        by (inl among) = inl among.0
        by (inr old) = inr (record { own = has.own; is = old; leads = has.leads })

    of-old : (class : Id) (number : ℕ) → number_in numbers class ≡ Some number → (above : Id)
        → Reaches program class above ↔ HasAbove new_numbers more number above
    of-old class number is above = (
      λ reaches. there ((placed.leads class number is above).0 reaches),
      λ has. (placed.leads class number is above).1 (back has),
    ) where
      there : HasAbove numbers places number above → HasAbove new_numbers more number above
      there has = record { own = has.own; is = old-number above has.own has.is; leads = up-more places (place ∷ []) has.leads }

      back : HasAbove new_numbers more number above → HasAbove numbers places number above
      back has = by (which above has.own has.is) where
        within : number < last
        within = placed.within class number is

        leads : IsUp places number has.own
        leads = up-back places (place ∷ []) placed.forest within has.leads

        by : (Contains classes above × (has.own ≡ last)) ⊎ (number_in numbers above ≡ Some has.own) → HasAbove numbers places number above
        by (inl among) = absurd (omega (arith, within, among.1, up-low places placed.forest leads))
        by (inr old) = record { own = has.own; is = old; leads = leads }

    added : IsPlace more last place → AreLed → ArePlaced program new_numbers more
    added own led = record {
      forest = places-more own;
      within = λ class number is. within class number (which class number is);
      leads = λ class number is. leads class number (which class number is);
    } where
      within : (class : Id) (number : ℕ) → (Contains classes class × (number ≡ last)) ⊎ (number_in numbers class ≡ Some number)
          → number < length more
      within class number (inl among) = omega (arith, among.1, length-append places (place ∷ []))
      within class number (inr old) = omega (arith, placed.within class number old, length-append places (place ∷ []))

      leads : (class : Id) (number : ℕ) → (Contains classes class × (number ≡ last)) ⊎ (number_in numbers class ≡ Some number)
          → (above : Id)
          → Reaches program class above ↔ HasAbove new_numbers more number above
      leads class number (inl among) above =
          subst (λ n. Reaches program class above ↔ HasAbove new_numbers more n above) (sym among.1) (of-new led class among.0 above)
      leads class number (inr old) above = of-old class number old above

    -- ---- at the top

    pub top-added : (class : Id) → AreTop program class classes → place ≡ top_place last → ArePlaced program new_numbers new_places
    top-added class top is =
        subst (ArePlaced program new_numbers) (sym adds.grown)
        (added own led) where
          own : IsPlace more last place
          own = subst (IsPlace more last) (sym is) (record { above = omega arith; jump = here; top = λ same. refl })

          led : AreLed
          led below stands above = (
            λ (reaches : Reaches program below above).
                inl (stays program (Contains classes) top.closed reaches.steps below above reaches.leads stands),
            back,
          ) where
            back : Contains classes above ⊎ HasAbove numbers more last above → Reaches program below above
            back (inl among) = top.joined below above stands among
            back (inr has) =
                let same = top-alone more last has.own place (get-last places place) (ap (λ (p : Place). p.above) is) has.leads in
                absurd (omega (arith, same, placed.within above has.own has.is))

    -- ---- below another place

    pub below-added : (class at : Id) (above : ℕ) → classes ≡ class ∷ [] → upward program (Some class) ≡ Some at
        → number_in numbers at ≡ Some above → IsBelow places above place → ArePlaced program new_numbers new_places
    below-added class at above alone up_is is below =
        subst (ArePlaced program new_numbers) (sym adds.grown) (added own led) where
          within : above < last
          within = placed.within at above is

          own : IsPlace more last place
          own = record {
            above = omega (arith, within, below.next);
            jump = up place (get-last places place) (subst (λ n. IsUp more n place.jump) (sym below.next)
                (up-more places (place ∷ []) below.jump));
            top = λ same. absurd (omega (arith, same, within, up-low places placed.forest below.jump));
          }

          is-class : (x : Id) → Contains classes x → class ≡ x
          is-class x stands = only class x (subst (λ ids. Contains ids x) alone stands)

          led : AreLed
          led low stands high = (
            λ reaches. there (first-step program class high (subst (λ c. Reaches program c high) (sym same) reaches)),
            back,
          ) where
            same : class ≡ low
            same = is-class low stands

            there : (class ≡ high) ⊎ ((next : Id) × (upward program (Some class) ≡ Some next) × Reaches program next high)
                → Contains classes high ⊎ HasAbove numbers more last high
            there (inl own_class) = inl (subst (Contains classes) (sym same ∙ own_class) stands)
            there (inr on) =
                let next : on.0 ≡ at = some-same on.0 at (sym on.1 ∙ up_is) in
                let has = (placed.leads at above is high).0 (subst (λ c. Reaches program c high) next on.2) in
                inr (record {
                  own = has.own;
                  is = has.is;
                  leads = up place (get-last places place) (subst (λ n. IsUp more n has.own) (sym below.next)
                      (up-more places (place ∷ []) has.leads));
                })

            back : Contains classes high ⊎ HasAbove numbers more last high → Reaches program low high
            back (inl among) = subst (Reaches program low) (sym same ∙ is-class high among) (itself program low)
            back (inr has) =
                let on : IsUp more place.above has.own = past more place (get-last places place)
                (placed.within high has.own has.is) has.leads in
                let led_on : IsUp places above has.own = up-back places (place ∷ []) placed.forest within
                (subst (λ n. IsUp more n has.own) below.next on) in
                let reaches = (placed.leads at above is high).1 (record { own = has.own; is = has.is; leads = led_on }) in
                subst (λ c. Reaches program c high) same (further program class at high (one-step program class at up_is) reaches)
