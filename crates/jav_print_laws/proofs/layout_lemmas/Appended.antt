-- Pieces one after the other: their text, their tokens, and that they fit.
use Rattle.std.proofs.Common.{◌≡◌, ℕ, ◌+◌, List, [], ◌∷◌, ◌++◌, length, refl, sym, ◌∙◌, ap, arith, length-append, add-zero, append_assoc}
use Rattle.jav_print_laws.specs.pieces.Pieces.{Piece, blank, word, text_of, tokens_from, lead, Fits}

pub lead-append : (xs ys : List Piece) (next : ℕ) → lead (xs ++ ys) next ≡ lead xs (lead ys next)
lead-append [] ys next = refl
lead-append (blank b ∷ xs) ys next = refl
lead-append (word kind text ∷ xs) ys next = refl

pub tokens-append : (at : ℕ) (xs ys : List Piece) → tokens_from at (xs ++ ys) ≡ tokens_from at xs ++ tokens_from (at + length (text_of xs)) ys
tokens-append at [] ys = ap (λ (n : ℕ). tokens_from n ys) (sym (add-zero at))
tokens-append at (blank b ∷ xs) ys =
    let e : at + 1 + length (text_of xs) ≡ at + length (b ∷ text_of xs) = omega arith in
    tokens-append (at + 1) xs ys ∙ ap (λ (n : ℕ). tokens_from (at + 1) xs ++ tokens_from n ys) e
tokens-append at (word kind text ∷ xs) ys =
    let e : at + length text + length (text_of xs) ≡ at + length (text ++ text_of xs) = omega (arith, length-append text (text_of xs)) in
    ap (λ ts. record { kind = kind; text = text; start = at; end = at + length text } ∷ ts) (tokens-append (at + length text) xs ys ∙ ap (λ (n : ℕ). tokens_from (at + length text) xs ++ tokens_from n ys) e)

pub fits-append : (xs ys : List Piece) (next : ℕ) → Fits xs (lead ys next) → Fits ys next → Fits (xs ++ ys) next
fits-append [] ys next fits fits' = fits'
fits-append (blank b ∷ xs) ys next fits fits' = (fits.0, fits-append xs ys next fits.1 fits')
fits-append (word kind text ∷ xs) ys next fits fits' = (fits.0, rw (lead-append xs ys next) fits.1, fits-append xs ys next fits.2 fits')

pub text-append : (xs ys : List Piece) → text_of (xs ++ ys) ≡ text_of xs ++ text_of ys
text-append [] ys = refl
text-append (blank b ∷ xs) ys = ap (λ bs. b ∷ bs) (text-append xs ys)
text-append (word kind text ∷ xs) ys = ap (λ bs. text ++ bs) (text-append xs ys) ∙ sym (append_assoc text (text_of xs) (text_of ys))
