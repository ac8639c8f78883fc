-- Classes and what they extend, as places of a list.
use Rattle.std.specs.Prelude.{◌≡◌, ℕ, ◌<◌, ◌==◌, Bool, List, length, false, slice_index_or, unwrap_or}
use Rattle.std.specs.List.{list_any}
use Rattle.jav_names.specs.LookUps.{class_above}
use Rattle.jav_names.specs.UnitViews.{MemberKey}
use Rattle.jav_names.specs.Views.{View}

-- the class that a class extends, or this number where that is none of the view
abbrev pub link_up : View ℕ MemberKey → ℕ → ℕ → ℕ
link_up view end class = unwrap_or (class_above view class) end

-- Of each number below this it is said whether it stands among the places.
pub record AreReached (places : List ℕ) (count : ℕ) (reached : List Bool) : Type 0 where
  pub size : length reached ≡ count
  pub marks : (number : ℕ) → number < count → slice_index_or reached number false ≡ list_any (λ place. place == number) places
