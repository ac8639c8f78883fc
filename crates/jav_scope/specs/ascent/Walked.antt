-- Steps from places of a list: each leads to the place that stands there.
use Rattle.std.specs.Prelude.{◌≡◌, ℕ, zero, suc, ◌≤◌, List, map, length, slice_index}
use Rattle.std.specs.List.{range_with_len}

-- where so many steps lead from a place
abbrev pub walked : List ℕ → ℕ → ℕ → ℕ
walked links zero place = place
walked links (suc steps) place = slice_index links (walked links steps place)

-- Of each place, where so many steps lead, which are as many as there are places or more.
pub record LeadsFar (links far : List ℕ) : Type 0 where
  pub steps : ℕ
  pub enough : length links ≤ steps
  pub places : far ≡ map (walked links steps) (range_with_len 0 (length links))
