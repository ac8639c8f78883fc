-- The character at the front of a text, by its bytes.
use Rattle.std.proofs.Common.{◌≡◌, ◌⊎◌, inl, inr, ℕ, zero, suc, ◌+◌, ◌/◌, ◌<◌, ◌≤◌, true, List, [], ◌∷◌, ◌++◌, take, drop, length, Some, refl, sym, ◌∙◌, ap, subst, arith, length-append}
use Rattle.std.specs.Prelude.{slice_get, is_some}
use Rattle.std.specs.Str.{IsUtf8, chars}
use lib.Utf8.{encode, encodes, scalar, scalars, next}
use Rattle.std.proofs.Math.Seq.{take-append_seam}
use Rattle.std.proofs.lemmas.Bool.{and_parts, lt-ltb, le-ltb, cases_lt}
use Rattle.std.proofs.lemmas.Bool.Decides.{nat_tests}
use Rattle.std.proofs.lemmas.List.{append-nil, length-take-le, take-append-drop}
use Rattle.std.proofs.lemmas.Str.{IsUtf8-encode, chars_past_char, chars-nil}
use Rattle.mol_base.specs.Lexical.Characters.{first, width, first_char}
use Rattle.mol_base.proofs.FirstChar.{first_char-is, first_char-some, width-ascii}

encode-1 : (c : ℕ) → c < 128 → encode c ≡ c ∷ []
unfolding encode
encode-1 c low = rw (lt-ltb c 128 low) refl

encode-2 : (c : ℕ) → 128 ≤ c → c < 2048 → encode c ≡ (192 + c / 64) ∷ next c ∷ []
unfolding encode
encode-2 c high low = rw (le-ltb c 128 high, lt-ltb c 2048 low) refl

encode-3 : (c : ℕ) → 2048 ≤ c → c < 65536 → encode c ≡ (224 + c / 4096) ∷ next (c / 64) ∷ next c ∷ []
unfolding encode
encode-3 c high low = let above : 128 ≤ c = omega arith in rw (le-ltb c 128 above, le-ltb c 2048 high, lt-ltb c 65536 low) refl

encode-4 : (c : ℕ) → 65536 ≤ c → encode c ≡ (240 + c / 262144) ∷ next (c / 4096) ∷ next (c / 64) ∷ next c ∷ []
unfolding encode
encode-4 c high = let above : 128 ≤ c = omega arith in let above' : 2048 ≤ c = omega arith in rw (le-ltb c 128 above, le-ltb c 2048 above', le-ltb c 65536 high) refl

width-2 : (x : ℕ) → 192 ≤ x → x < 224 → width x ≡ 2
width-2 x low high = grind (arith, nat_tests)

width-3 : (x : ℕ) → 224 ≤ x → x < 240 → width x ≡ 3
width-3 x low high = grind (arith, nat_tests)

width-4 : (x : ℕ) → 240 ≤ x → width x ≡ 4
width-4 x low = grind (arith, nat_tests)

-- the bytes of a character: itself below 128, else a first byte that says how many there are, and then
-- bytes from 128 up
pub data Shape (c : ℕ) : Type 0 where
  of1 : c < 128 → encode c ≡ c ∷ [] → Shape c
  of2 : (a b : ℕ) → 128 ≤ c → c < 65536 → 192 ≤ a → a < 224 → 128 ≤ b → encode c ≡ a ∷ b ∷ [] → Shape c
  of3 : (a b d : ℕ) → 128 ≤ c → c < 65536 → 224 ≤ a → a < 240 → 128 ≤ b → 128 ≤ d → encode c ≡ a ∷ b ∷ d ∷ [] → Shape c
  of4 : (a b d e : ℕ) → 65536 ≤ c → 240 ≤ a → encode c ≡ a ∷ b ∷ d ∷ e ∷ [] → Shape c

pub shape : (c : ℕ) → Shape c
shape c = by_size (cases_lt c 128) (cases_lt c 2048) (cases_lt c 65536) where
  by_size : ((c < 128) ⊎ (128 ≤ c)) → ((c < 2048) ⊎ (2048 ≤ c)) → ((c < 65536) ⊎ (65536 ≤ c)) → Shape c
  by_size (inl low) two three = of1 low (encode-1 c low)
  by_size (inr high) (inl low) three = of2 (192 + c / 64) (next c) high (omega arith) (omega arith) (omega arith) (omega arith) (encode-2 c high low)
  by_size (inr one) (inr high) (inl low) = of3 (224 + c / 4096) (next (c / 64)) (next c) one low (omega arith) (omega arith) (omega arith) (omega arith) (encode-3 c high low)
  by_size (inr one) (inr two) (inr high) = of4 (240 + c / 262144) (next (c / 4096)) (next (c / 64)) (next c) high (omega arith) (encode-4 c high)

-- its first byte says how many it has
width-shape : (c : ℕ) (rest : List ℕ) → Shape c → width (first (encode c ++ rest)) ≡ length (encode c)
width-shape c rest (of1 low e) = rw e (width-ascii c low)
width-shape c rest (of2 a b _ _ low high _ e) = rw e (width-2 a low high)
width-shape c rest (of3 a b d _ _ low high _ _ e) = rw e (width-3 a low high)
width-shape c rest (of4 a b d x _ low e) = rw e (width-4 a low)

pub width-encode : (c : ℕ) (rest : List ℕ) → scalar c ≡ true → width (first (encode c ++ rest)) ≡ length (encode c)
width-encode c rest is = width-shape c rest (shape c)

pub chars-encode : (c : ℕ) → scalar c ≡ true → chars (encode c) ≡ c ∷ []
chars-encode c is = chars_past_char (encode c) [] c (IsUtf8-encode c is) (sym (append-nil (encode c))) ∙ ap (λ (xs : List ℕ). c ∷ xs) chars-nil

pub first_char-encode : (c : ℕ) (rest : List ℕ) → scalar c ≡ true → first_char (encode c ++ rest) ≡ Some c
first_char-encode c rest is =
    let r : List ℕ = encode c ++ rest in
    let wide : width (first r) ≡ length (encode c) = width-encode c rest is in
    let front : take (width (first r)) r ≡ encode c = ap (λ (n : ℕ). take n r) wide ∙ take-append_seam (encode c) rest in
    let text : IsUtf8 (take (width (first r)) r) = subst IsUtf8 (sym front) (IsUtf8-encode c is) in
    first_char-is r (omega (arith, length-append (encode c) rest)) text ∙ ap (λ (xs : List ℕ). slice_get (chars xs) 0) front ∙ ap (λ (xs : List ℕ). slice_get xs 0) (chars-encode c is)

-- bytes of which a text is as long as its first character
one_char : (t : List ℕ) (cs : List ℕ) → scalars cs ≡ true → encodes cs ≡ t → length t ≡ width (first t) → (c : ℕ) × (scalar c ≡ true) × (t ≡ encode c)
one_char t [] are e len = let none : 0 ≡ length t = ap (λ (xs : List ℕ). length xs) e in absurd (omega arith)
one_char t (c ∷ cs) are e len =
    let both = and_parts (scalar c) (scalars cs) are in
    let wide : width (first t) ≡ length (encode c) = ap (λ (xs : List ℕ). width (first xs)) (sym e) ∙ width-encode c (encodes cs) both.0 in
    let all : length (encode c ++ encodes cs) ≡ length t = ap (λ (xs : List ℕ). length xs) e in
    let none : length (encodes cs) ≡ 0 = omega (arith, length-append (encode c) (encodes cs)) in
    (c, both.0, sym e ∙ ap (λ (xs : List ℕ). encode c ++ xs) (empty (encodes cs) none) ∙ append-nil (encode c))
  where
    empty : (xs : List ℕ) → length xs ≡ 0 → xs ≡ []
    empty [] h = refl
    empty (x ∷ xs) h = absurd (omega arith)

-- where there is a character, the bytes begin with it
pub first_char-spelled : (r : List ℕ) → is_some (first_char r) ≡ true → (c : ℕ) × (scalar c ≡ true) × (r ≡ encode c ++ drop (width (first r)) r) × (first_char r ≡ Some c)
first_char-spelled r some =
    let whole = first_char-some r some in
    let w : ℕ = width (first r) in
    let front : List ℕ = take w r in
    let text : IsUtf8 front = whole.1 in
    let len : length front ≡ w = length-take-le w r whole.0 in
    let same : first front ≡ first r = first_take r w (omega arith) in
    let is = one_char front text.0 text.1.0 text.1.1 (len ∙ ap width (sym same)) in
    let spelled : r ≡ encode is.0 ++ drop w r = sym (take-append-drop w r) ∙ ap (λ (xs : List ℕ). xs ++ drop w r) is.2 in
    (is.0, is.1, spelled, ap first_char spelled ∙ first_char-encode is.0 (drop w r) is.1)
  where
    first_take : (xs : List ℕ) (n : ℕ) → 0 < n → first (take n xs) ≡ first xs
    first_take xs zero h = absurd (omega arith)
    first_take [] (suc n) h = refl
    first_take (x ∷ xs) (suc n) h = refl
