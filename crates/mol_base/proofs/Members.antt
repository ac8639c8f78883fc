-- Elements of lists that are written out, by computation.
use Rattle.std.proofs.Common.{◌≡◌, ℕ, suc, List, [], ◌∷◌, Bool, true, Contains, length, get_or, refl, subst, arith, nat_eq}
use Rattle.std.specs.List.{list_any, list_all}
use Rattle.std.specs.Str.{bytes_eq}
use Rattle.std.proofs.Common.{inl, inr}
use Rattle.std.proofs.lemmas.Bool.{and_parts, or_cases, eqb-true}
use Rattle.std.proofs.lemmas.List.Folds.{list_any_at}
use Rattle.std.proofs.lemmas.Slice.Eq.{bytes_eq-Decides}

-- whether a list of bytes is among others
abbrev pub is_among : List (List ℕ) → List ℕ → Bool
is_among texts bytes = list_any (λ text. bytes_eq text bytes) texts

pub is_among-Contains : (texts : List (List ℕ)) (bytes : List ℕ) → Contains texts bytes → is_among texts bytes ≡ true
is_among-Contains texts bytes is = list_any_at (λ text. bytes_eq text bytes) texts is.0 bytes is.1 ((bytes_eq-Decides (get_or texts is.0 bytes) bytes).1 is.2)

pub Contains-is_among : (texts : List (List ℕ)) (bytes : List ℕ) → is_among texts bytes ≡ true → Contains texts bytes
Contains-is_among [] bytes h = absurd cc
Contains-is_among (text ∷ texts) bytes h =
    elim (or_cases (bytes_eq text bytes) (is_among texts bytes) h) [
      | inl same ↦ (0, omega arith, (bytes_eq-Decides text bytes).0 same)
      | inr more ↦ (suc (Contains-is_among texts bytes more).0, omega (arith, (Contains-is_among texts bytes more).1), (Contains-is_among texts bytes more).2)
    ]

-- what is computed of each of some texts holds of what is among them
pub all_among : (test : List ℕ → Bool) (texts : List (List ℕ)) (bytes : List ℕ) → list_all test texts ≡ true → is_among texts bytes ≡ true → test bytes ≡ true
all_among test [] bytes all h = absurd cc
all_among test (text ∷ texts) bytes all h =
    let parts = and_parts (test text) (list_all test texts) all in
    elim (or_cases (bytes_eq text bytes) (is_among texts bytes) h) [
      | inl same ↦ let P : List ℕ → Type 0 = λ xs. test xs ≡ true in subst P ((bytes_eq-Decides text bytes).0 same) parts.0
      | inr more ↦ all_among test texts bytes parts.1 more
    ]

-- likewise of one of some bytes
pub all_bytes : (test : ℕ → Bool) (bytes : List ℕ) (b : ℕ) → list_all test bytes ≡ true → list_any (λ x. nat_eq x b) bytes ≡ true → test b ≡ true
all_bytes test [] b all h = absurd cc
all_bytes test (x ∷ xs) b all h =
    let parts = and_parts (test x) (list_all test xs) all in
    elim (or_cases (nat_eq x b) (list_any (λ y. nat_eq y b) xs) h) [
      | inl same ↦ let P : ℕ → Type 0 = λ y. test y ≡ true in subst P (eqb-true x b same) parts.0
      | inr more ↦ all_bytes test xs b parts.1 more
    ]

-- lists of few bytes, by their bytes
pub bytes_1 : (r : List ℕ) → 1 ≡ length r → r ≡ get_or r 0 0 ∷ []
bytes_1 [] h = absurd (omega arith)
bytes_1 (a ∷ []) h = refl
bytes_1 (a ∷ b ∷ r) h = absurd (omega arith)

pub bytes_2 : (r : List ℕ) → 2 ≡ length r → r ≡ get_or r 0 0 ∷ get_or r 1 0 ∷ []
bytes_2 [] h = absurd (omega arith)
bytes_2 (a ∷ []) h = absurd (omega arith)
bytes_2 (a ∷ b ∷ []) h = refl
bytes_2 (a ∷ b ∷ c ∷ r) h = absurd (omega arith)

pub bytes_3 : (r : List ℕ) → 3 ≡ length r → r ≡ get_or r 0 0 ∷ get_or r 1 0 ∷ get_or r 2 0 ∷ []
bytes_3 [] h = absurd (omega arith)
bytes_3 (a ∷ []) h = absurd (omega arith)
bytes_3 (a ∷ b ∷ []) h = absurd (omega arith)
bytes_3 (a ∷ b ∷ c ∷ []) h = refl
bytes_3 (a ∷ b ∷ c ∷ d ∷ r) h = absurd (omega arith)

pub bytes_4 : (r : List ℕ) → 4 ≡ length r → r ≡ get_or r 0 0 ∷ get_or r 1 0 ∷ get_or r 2 0 ∷ get_or r 3 0 ∷ []
bytes_4 [] h = absurd (omega arith)
bytes_4 (a ∷ []) h = absurd (omega arith)
bytes_4 (a ∷ b ∷ []) h = absurd (omega arith)
bytes_4 (a ∷ b ∷ c ∷ []) h = absurd (omega arith)
bytes_4 (a ∷ b ∷ c ∷ d ∷ []) h = refl
bytes_4 (a ∷ b ∷ c ∷ d ∷ e ∷ r) h = absurd (omega arith)

pub Contains-byte : (bytes : List ℕ) (b : ℕ) → list_any (λ x. nat_eq x b) bytes ≡ true → Contains bytes b
Contains-byte [] b h = absurd cc
Contains-byte (x ∷ xs) b h =
    elim (or_cases (nat_eq x b) (list_any (λ y. nat_eq y b) xs) h) [
      | inl same ↦ (0, omega arith, eqb-true x b same)
      | inr more ↦ (suc (Contains-byte xs b more).0, omega (arith, (Contains-byte xs b more).1), (Contains-byte xs b more).2)
    ]
