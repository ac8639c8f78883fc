-- Unicode escapes (JLS 3.3).
use Rattle.std.specs.Prelude.{◌≡◌, ℕ, zero, suc, ◌+◌, ◌%◌, ◌<◌, ◌≤◌, ◌==◌, List, length, slice_index, if◌then◌else◌}

-- how many backslashes stand directly before the place
abbrev pub backslashes_before : List ℕ → ℕ → ℕ
backslashes_before bytes zero = 0
backslashes_before bytes (suc place) = if slice_index bytes place == 92 then 1 + backslashes_before bytes place else 0

-- an even number of backslashes precede the place directly, so none of them goes with the byte there
abbrev pub IsUnescaped : List ℕ → ℕ → Type 0
IsUnescaped bytes place = backslashes_before bytes place % 2 ≡ 0

-- a Unicode escape begins at the place (JLS 3.3): a backslash and `u`, where the run of backslashes that ends
-- before them has an even length, or there is none
pub record IsEscapeAt (bytes : List ℕ) (place : ℕ) : Type 0 where
  pub backslash : slice_index bytes place ≡ 92
  pub unescaped : IsUnescaped bytes place
  pub followed : slice_index bytes (place + 1) ≡ 117

-- no Unicode escape stands anywhere in the bytes
abbrev pub HasNoEscape : List ℕ → Type 0
HasNoEscape bytes = (place : ℕ) → IsEscapeAt bytes place → ⊥

-- the least place at which a Unicode escape begins, or how many bytes there are where none does
pub record IsBeforeEscape (bytes : List ℕ) (place : ℕ) : Type 0 where
  pub within : place ≤ length bytes
  pub there : place < length bytes → IsEscapeAt bytes place
  pub least : (earlier : ℕ) → earlier < place → IsEscapeAt bytes earlier → ⊥
