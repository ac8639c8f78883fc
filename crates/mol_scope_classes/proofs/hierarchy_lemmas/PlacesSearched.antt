-- Looking for a place on the way up from another one.
use Rattle.std.proofs.Common.{◌≡◌, ◌⊎◌, inl, inr, ℕ, ◌<◌, ◌≤◌, List, sym, ◌∙◌, subst, arith}
use Rattle.mol_scope_classes.specs.hierarchy.Forest.{IsUp, up, IsPlace, ArePlaces, LeadsOn}
use Rattle.mol_scope_classes.specs.declared.hierarchy.place.Place.{Place}
use Rattle.mol_scope_classes.proofs.hierarchy_lemmas.WaysUp.{up-on, top-alone, past, up-low, between}

module _ (places : List Place) (are : ArePlaces places) (number sought next : ℕ) (on : LeadsOn places number sought next) where
  place-is : IsPlace places number on.place
  place-is = are number on.place on.there

  pub next-low : next ≤ number
  next-low = by on.way where
    by : (next ≡ on.place.above) ⊎ ((next ≡ on.place.jump) × (sought ≤ next)) → next ≤ number
    by (inl same) = omega (arith, same, place-is.above)
    by (inr jump) = omega (arith, jump.0, up-low places are place-is.jump)

  -- there is nothing above the top
  pub stuck : sought < number → next ≡ number → IsUp places number sought → ⊥
  stuck below same is =
      let none = top-alone places number sought on.place on.there (by on.way) is in
      omega (arith, below, none)
    where
      by : (next ≡ on.place.above) ⊎ ((next ≡ on.place.jump) × (sought ≤ next)) → on.place.above ≡ number
      by (inl step) = sym step ∙ same
      by (inr jump) = place-is.top (sym jump.0 ∙ same)

  pub goes-on : sought < number → IsUp places number sought → IsUp places next sought
  goes-on below is = by on.way where
    by : (next ≡ on.place.above) ⊎ ((next ≡ on.place.jump) × (sought ≤ next)) → IsUp places next sought
    by (inl step) = subst (λ n. IsUp places n sought) (sym step) (past places on.place on.there below is)
    by (inr jump) = between places are (subst (IsUp places number) (sym jump.0) place-is.jump) is jump.1

  pub comes-from : IsUp places next sought → IsUp places number sought
  comes-from is = by on.way where
    by : (next ≡ on.place.above) ⊎ ((next ≡ on.place.jump) × (sought ≤ next)) → IsUp places number sought
    by (inl step) = up on.place on.there (subst (λ n. IsUp places n sought) step is)
    by (inr jump) = up-on places (subst (IsUp places number) (sym jump.0) place-is.jump) is
