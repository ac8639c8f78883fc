-- The numbers of identities and stamps.
use Rattle.std.specs.Prelude.{ℕ, ◌^◌, ◌<◌, ◌≤◌, Bool, false, ◌&&◌, nat_le, List, [], ◌∷◌}

-- from 1 to the greatest number of 32 bits
abbrev pub IsNumber : ℕ → Type 0
IsNumber n = (1 ≤ n) × (n < 2 ^ 32)

-- the first byte is a digit other than 0
abbrev pub starts_from_one : List ℕ → Bool
starts_from_one [] = false
starts_from_one (first ∷ rest) = nat_le 49 first && nat_le first 57
