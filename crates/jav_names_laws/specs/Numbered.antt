-- Numbers in place of keys.
use Rattle.std.specs.Prelude.{ℕ, zero, suc, ◌*◌, List, [], ◌∷◌, if◌then◌else◌}
use Rattle.std.specs.Ordering.{is_eq}
use Rattle.std.specs.declared.cmp.Ordering.{Ordering}

-- One number for two: the odd number that holds the second, doubled as often as the first says.
abbrev pub pair_number : ℕ → ℕ → ℕ
pair_number zero n = suc (2 * n)
pair_number (suc m) n = 2 * pair_number m n

-- one number for a list of numbers
abbrev pub list_number : List ℕ → ℕ
list_number [] = zero
list_number (n ∷ ns) = pair_number n (list_number ns)

-- The number of a key is its place among these keys. One that is none of them has the number that counts them and, on top, a number of
-- its own.
abbrev pub number_among : {K : Type 0} → (K → K → Ordering) → (K → ℕ) → List K → K → ℕ
number_among cmp own [] key = own key
number_among cmp own (first ∷ keys) key = if is_eq (cmp first key) then zero else suc (number_among cmp own keys key)
