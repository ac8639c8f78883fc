-- Forests of places: each place names the next one up and one further up, and a place at the top names itself.
use Rattle.std.specs.Prelude.{◌≡◌, ◌⊎◌, ℕ, ◌≤◌, List, Some, slice_get}
use Rattle.mol_scope_classes.specs.declared.hierarchy.place.Place.{Place}

-- the second place is the first one, or above it
pub data IsUp (places : List Place) : ℕ → ℕ → Type 0 where
  here : {number : ℕ} → IsUp places number number
  up : {number above : ℕ} (place : Place) → slice_get places number ≡ Some place → IsUp places place.above above → IsUp places number above

-- Both ways lead up from a place, and where the jump leads nowhere else, the place is at the top.
pub record IsPlace (places : List Place) (number : ℕ) (place : Place) : Type 0 where
  pub above : place.above ≤ number
  pub jump : IsUp places number place.jump
  pub top : place.jump ≡ number → place.above ≡ number

abbrev pub ArePlaces : List Place → Type 0
ArePlaces places = (number : ℕ) (place : Place) → slice_get places number ≡ Some place → IsPlace places number place

-- a place at the top, which has this number
abbrev pub top_place : ℕ → Place
top_place number = record { above = number; jump = number; rank = 0 }

-- a new place below one that is there
pub record IsBelow (places : List Place) (above : ℕ) (place : Place) : Type 0 where
  pub next : place.above ≡ above
  pub jump : IsUp places above place.jump

-- One of the two ways up, which does not miss the place that is looked for.
pub record LeadsOn (places : List Place) (number sought next : ℕ) : Type 0 where
  pub place : Place
  pub there : slice_get places number ≡ Some place
  pub way : (next ≡ place.above) ⊎ ((next ≡ place.jump) × (sought ≤ next))
