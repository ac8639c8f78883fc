-- What stands inside a literal, and the scans for its closing quote and for its first bad escape.
use Rattle.std.proofs.Common.{◌≡◌, ◌⊎◌, inl, inr, ℕ, zero, suc, ◌+◌, ◌<◌, Bool, true, false, ◌&&◌, ◌||◌, List, [], ◌∷◌, ◌++◌, take, length, get_or, refl, sym, ap, subst, arith, cond, nat_eq}
use Rattle.std.specs.Prelude.{not}
use Rattle.std.proofs.lemmas.Bool.{cases_Bool, not-true, not_from_false, or_parts, eq-eqb, eqb-true}
use Rattle.mol_base.specs.Lexical.Characters.{is_line_end, pairs_next}
use Rattle.mol_base.specs.Lexical.Quoted.{before_quote, before_bad_escape, is_escape}
use Rattle.mol_base.specs.Lexical.Forms.Quoted.{is_plain}
use Rattle.mol_base.specs.Lexical.Flaws.{IsInside, end, plain, pair, IsQuote}

-- a byte that goes with a backslash before it
abbrev pub on_line : ℕ → Bool
on_line b = not (is_line_end b)

pub quote-no_backslash : (q : ℕ) → IsQuote q → nat_eq 92 q ≡ false
quote-no_backslash q (inl double) = rw double refl
quote-no_backslash q (inr single) = rw single refl

pub quote-no_line_end : (q : ℕ) → IsQuote q → is_line_end q ≡ false
quote-no_line_end q (inl double) = rw double refl
quote-no_line_end q (inr single) = rw single refl

pub quote-some : (q : ℕ) → IsQuote q → 0 < q
quote-some q (inl double) = omega arith
quote-some q (inr single) = omega arith

pub plain-parts : (q b : ℕ) → is_plain q b ≡ true → (nat_eq b q ≡ false) × (nat_eq b 92 ≡ false) × (is_line_end b ≡ false)
plain-parts q b h =
    let p1 = or_parts (nat_eq b q || nat_eq b 92) (is_line_end b) (not-true _ h) in
    let p2 = or_parts (nat_eq b q) (nat_eq b 92) p1.0 in
    (p2.0, p2.1, p1.1)

plain-from : (q b : ℕ) → nat_eq b q ≡ false → nat_eq b 92 ≡ false → is_line_end b ≡ false → is_plain q b ≡ true
plain-from q b other no_backslash goes = rw (other, no_backslash, goes) refl

-- the scan finds the quote after such bytes
pub before_quote-inside : (q : ℕ) (after : List ℕ) {body : List ℕ} → IsQuote q → IsInside q on_line body → before_quote q false (body ++ q ∷ after) ≡ length body
before_quote-inside q after is end = let here : nat_eq q q ≡ true = eq-eqb q q refl in rw (quote-no_line_end q is, here) refl
before_quote-inside q after is (plain b rest h inside) =
    let parts = plain-parts q b h in
    rw (parts.2, parts.0, parts.1) (omega (arith, before_quote-inside q after is inside))
before_quote-inside q after is (pair b rest h inside) =
    let goes : is_line_end b ≡ false = not-true _ h in
    rw (quote-no_backslash q is, goes) (omega (arith, before_quote-inside q after is inside))

-- and what it goes over to a quote are such bytes
pub inside-before_quote : (q : ℕ) → IsQuote q → (r : List ℕ) → get_or r (before_quote q false r) 0 ≡ q → IsInside q on_line (take (before_quote q false r) r)
inside-before_quote q is [] found = end
inside-before_quote q is (b ∷ []) found = by_byte (is_line_end b) (nat_eq b q) (nat_eq b 92) refl refl refl found where
  by_byte : (t u v : Bool) → is_line_end b ≡ t → nat_eq b q ≡ u → nat_eq b 92 ≡ v → get_or (b ∷ []) (cond (t || u) 0 (1 + 0)) 0 ≡ q → IsInside q on_line (take (cond (t || u) 0 (1 + 0)) (b ∷ []))
  by_byte true u v _ _ _ _ = end
  by_byte false true v _ _ _ _ = end
  by_byte false false v is1 is2 is3 found' = absurd (omega (arith, quote-some q is, found'))
inside-before_quote q is (b ∷ c ∷ cs) found =
    by_byte (is_line_end b) (nat_eq b q) (nat_eq b 92) refl refl refl found (inside-before_quote q is (c ∷ cs)) (inside-before_quote q is cs)
  where
    at_pair : (t : Bool) → is_line_end c ≡ t → get_or (c ∷ cs) (cond (t || false) 0 (1 + before_quote q false cs)) 0 ≡ q
        → (get_or cs (before_quote q false cs) 0 ≡ q → IsInside q on_line (take (before_quote q false cs) cs))
        → IsInside q on_line (take (1 + cond (t || false) 0 (1 + before_quote q false cs)) (92 ∷ c ∷ cs))
    at_pair true is1 found' rest = let ends : is_line_end q ≡ true = rw found' at is1 in let never = quote-no_line_end q is in absurd cc
    at_pair false is1 found' rest =
        let m = before_quote q false cs in
        let next : 1 + m ≡ suc m = omega arith in
        let more : 1 + (1 + m) ≡ suc (suc m) = omega arith in
        rw more (pair c (take m cs) (not_from_false _ is1) (rest (rw next at found')))

    by_byte : (t u v : Bool) → is_line_end b ≡ t → nat_eq b q ≡ u → nat_eq b 92 ≡ v
        → get_or (b ∷ c ∷ cs) (cond (t || u) 0 (1 + before_quote q v (c ∷ cs))) 0 ≡ q
        → (get_or (c ∷ cs) (before_quote q false (c ∷ cs)) 0 ≡ q → IsInside q on_line (take (before_quote q false (c ∷ cs)) (c ∷ cs)))
        → (get_or cs (before_quote q false cs) 0 ≡ q → IsInside q on_line (take (before_quote q false cs) cs))
        → IsInside q on_line (take (cond (t || u) 0 (1 + before_quote q v (c ∷ cs))) (b ∷ c ∷ cs))
    by_byte true u v _ _ _ _ _ _ = end
    by_byte false true v _ _ _ _ _ _ = end
    by_byte false false false is1 is2 is3 found' rest rest' =
        let m = before_quote q false (c ∷ cs) in
        let next : 1 + m ≡ suc m = omega arith in
        rw next (plain b (take m (c ∷ cs)) (plain-from q b is2 is3 is1) (rest (rw next at found')))
    by_byte false false true is1 is2 is3 found' rest rest' =
        let same : b ≡ 92 = eqb-true b 92 is3 in
        let m = before_quote q true (c ∷ cs) in
        let next : 1 + m ≡ suc m = omega arith in
        let P : ℕ → Type 0 = λ x. IsInside q on_line (take (1 + m) (x ∷ c ∷ cs)) in
        subst P (sym same) (at_pair (is_line_end c) refl (rw next at found') rest')

-- the scan finds the first bad escape
pub before_bad_escape-inside : (q bad : ℕ) (others : List ℕ) {good : List ℕ} → IsInside q is_escape good → is_escape bad ≡ false → before_bad_escape false (good ++ 92 ∷ bad ∷ others) ≡ length good
before_bad_escape-inside q bad others end fails = rw fails refl
before_bad_escape-inside q bad others (plain b rest h inside) fails =
    let parts = plain-parts q b h in
    rw parts.1 (omega (arith, before_bad_escape-inside q bad others inside fails))
before_bad_escape-inside q bad others (pair b rest h inside) fails = rw h (omega (arith, before_bad_escape-inside q bad others inside fails))

-- bytes inside a literal, split at the first bad escape
pub record Split (q : ℕ) (body : List ℕ) (place : ℕ) : Type 0 where
  pub good : List ℕ
  pub bad : ℕ
  pub others : List ℕ
  pub spelled : body ≡ good ++ 92 ∷ bad ∷ others
  pub escapes : IsInside q is_escape good
  pub no_escape : is_escape bad ≡ false
  pub place_is : length good ≡ place

split-plain : (q b : ℕ) (rest : List ℕ) → is_plain q b ≡ true → nat_eq b 92 ≡ false → Split q rest (before_bad_escape false rest) → Split q (b ∷ rest) (before_bad_escape false (b ∷ rest))
split-plain q b rest h no_backslash inner = rw no_backslash (record {
  good = b ∷ inner.good;
  bad = inner.bad;
  others = inner.others;
  spelled = ap (λ (xs : List ℕ). b ∷ xs) inner.spelled;
  escapes = plain b inner.good h inner.escapes;
  no_escape = inner.no_escape;
  place_is = omega (arith, inner.place_is);
})

split-pair : (q b : ℕ) (rest : List ℕ) → is_escape b ≡ true → Split q rest (before_bad_escape false rest) → Split q (92 ∷ b ∷ rest) (before_bad_escape false (92 ∷ b ∷ rest))
split-pair q b rest h inner = rw h (record {
  good = 92 ∷ b ∷ inner.good;
  bad = inner.bad;
  others = inner.others;
  spelled = ap (λ (xs : List ℕ). 92 ∷ b ∷ xs) inner.spelled;
  escapes = pair b inner.good h inner.escapes;
  no_escape = inner.no_escape;
  place_is = omega (arith, inner.place_is);
})

split-here : (q b : ℕ) (rest : List ℕ) → is_escape b ≡ false → Split q (92 ∷ b ∷ rest) (before_bad_escape false (92 ∷ b ∷ rest))
split-here q b rest fails = rw fails (record { good = []; bad = b; others = rest; spelled = refl; escapes = end; no_escape = fails; place_is = refl })

past-plain : (b : ℕ) (rest : List ℕ) → nat_eq b 92 ≡ false → before_bad_escape false (b ∷ rest) ≡ 1 + before_bad_escape false rest
past-plain b rest h = rw h refl

past-pair : (b : ℕ) (rest : List ℕ) → is_escape b ≡ true → before_bad_escape false (92 ∷ b ∷ rest) ≡ 1 + (1 + before_bad_escape false rest)
past-pair b rest h = rw h refl

pub split-before_bad_escape : (q : ℕ) {body : List ℕ} → IsInside q on_line body → before_bad_escape false body < length body → Split q body (before_bad_escape false body)
split-before_bad_escape q end less = absurd (omega arith)
split-before_bad_escape q (plain b rest h inside) less =
    let no_backslash = (plain-parts q b h).1 in
    split-plain q b rest h no_backslash (split-before_bad_escape q inside (omega (arith, past-plain b rest no_backslash)))
split-before_bad_escape q (pair b rest h inside) less = by_test (cases_Bool (is_escape b)) (λ fewer. split-before_bad_escape q inside fewer) where
  by_test : ((is_escape b ≡ true) ⊎ (is_escape b ≡ false)) → (before_bad_escape false rest < length rest → Split q rest (before_bad_escape false rest)) → Split q (92 ∷ b ∷ rest) (before_bad_escape false (92 ∷ b ∷ rest))
  by_test (inl good) inner = split-pair q b rest good (inner (omega (arith, past-pair b rest good)))
  by_test (inr fails) inner = split-here q b rest fails

-- a quote that is found before the end of a front of the bytes is found in the bytes
pub before_quote-extends : (q : ℕ) (e : Bool) (r : List ℕ) (m : ℕ) → before_quote q e (take m r) < length (take m r) → before_quote q e r ≡ before_quote q e (take m r)
before_quote-extends q e [] zero less = refl
before_quote-extends q e [] (suc m) less = refl
before_quote-extends q e (b ∷ bs) zero less = absurd (omega arith)
before_quote-extends q e (b ∷ bs) (suc m) less =
    by_test (is_line_end b || (not e && nat_eq b q)) less (before_quote-extends q (pairs_next e b) bs m)
  where
    by_test : (t : Bool) → cond t 0 (1 + before_quote q (pairs_next e b) (take m bs)) < length (b ∷ take m bs)
        → (before_quote q (pairs_next e b) (take m bs) < length (take m bs) → before_quote q (pairs_next e b) bs ≡ before_quote q (pairs_next e b) (take m bs))
        → cond t 0 (1 + before_quote q (pairs_next e b) bs) ≡ cond t 0 (1 + before_quote q (pairs_next e b) (take m bs))
    by_test true less' further = refl
    by_test false less' further = ap (λ (n : ℕ). 1 + n) (further (omega arith))
