-- The bytes of a text, as they are held.
use Rattle.std.specs.Prelude.{ℕ, ◌≡◌, ◌≤◌, ◌⊎◌, ◌++◌, List, [], take, IsUtf8}

-- the first `len` of those in place, and those of a string
abbrev pub held : List ℕ → ℕ → List ℕ → List ℕ
held short len long = take len short ++ long

-- what is held is UTF-8 (RFC 3629) in one place: in place, where nothing is apart, or apart, where nothing is in place
abbrev pub IsHeld : List ℕ → ℕ → List ℕ → Type 0
IsHeld short len long = (len ≤ 15) × ∥ IsUtf8 (take len short) ∥₁ × ((long ≡ []) ⊎ (len ≡ 0))
