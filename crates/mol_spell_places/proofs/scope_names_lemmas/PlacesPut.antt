-- What stands at a name after a place was put at one.
use Rattle.std.proofs.Common.{◌≡◌, ℕ, Bool, true, false, cond, if◌then◌else◌, List, Option, Some, None, refl, sym, ◌∙◌, ap, bytes_eq}
use Rattle.std.specs.Borrow.{Bor}
use Rattle.std.specs.Option.{option_flatten, option_or}
use Rattle.std.proofs.lemmas.Slice.Eq.{bytes_eq-Decides}
use Rattle.jav_names.specs.DottedNames.{Name}
use Rattle.mol_spell_places.specs.scope_names.Places.{found_at}

pub put-found : (here : Bool) (value : Option ℕ) (old : Option (Option ℕ))
    → option_flatten (cond here (Some value) old) ≡ (if here then value else option_flatten old)
put-found true value old = refl
put-found false value old = refl

or-none : (o : Option ℕ) → o ≡ option_or o None
or-none None = refl
or-none (Some k) = refl

module _ (entries : List (Bor Name × Option ℕ)) (name asked : Name) (place : ℕ) where
  same-found : (o : Option ℕ) → found_at entries name ≡ o → bytes_eq name asked ≡ true → found_at entries asked ≡ o
  same-found o is same = ap (found_at entries) (sym ((bytes_eq-Decides name asked).0 same)) ∙ is

  -- what stands there already stays
  pub first-kept : (k : ℕ) → found_at entries name ≡ Some k
      → found_at entries asked ≡ option_or (found_at entries asked) (if bytes_eq name asked then Some place else None)
  first-kept k is = by (bytes_eq name asked) refl where
    by : (b : Bool) → bytes_eq name asked ≡ b
        → found_at entries asked ≡ option_or (found_at entries asked) (if b then Some place else None)
    by true same = let there = same-found (Some k) is same in there ∙ sym (ap (λ (o : Option ℕ). option_or o (Some place)) there)
    by false differs = or-none (found_at entries asked)

  pub first-put : found_at entries name ≡ None
      → (if bytes_eq name asked then Some place else found_at entries asked)
      ≡ option_or (found_at entries asked) (if bytes_eq name asked then Some place else None)
  first-put is = by (bytes_eq name asked) refl where
    by : (b : Bool) → bytes_eq name asked ≡ b
        → (if b then Some place else found_at entries asked) ≡ option_or (found_at entries asked) (if b then Some place else None)
    by true same = sym (ap (λ (o : Option ℕ). option_or o (Some place)) (same-found None is same))
    by false differs = or-none (found_at entries asked)
