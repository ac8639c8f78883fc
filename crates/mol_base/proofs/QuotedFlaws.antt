-- Literals that do not end, and bad escapes, as the scan finds them.
use Rattle.std.proofs.Common.{◌≡◌, ◌⊎◌, inl, inr, ℕ, zero, suc, ◌+◌, ◌-◌, ◌<◌, ◌≤◌, Bool, true, false, ◌&&◌, ◌||◌, List, [], ◌∷◌, ◌++◌, take, drop, length, get_or, refl, sym, ◌∙◌, ap, subst, arith, cond, nat_eq, length-append, drop-cons}
use Rattle.std.specs.Prelude.{not, nat_lt}
use Rattle.std.proofs.lemmas.Bool.{cases_Bool, cond_both, eqb-true, eq-eqb, not-false, ltb-true, lt-ltb, false_from_ne_true, true≢false}
use Rattle.std.proofs.lemmas.List.{get_or-take, length-take-le, length-drop, drop-take, take-append-drop}
use Rattle.std.proofs.Math.Seq.{take-append_seam, get_or-append_seam}
use Rattle.mol_base.specs.Lexical.Characters.{is_space, first, second, third}
use Rattle.mol_base.specs.Lexical.Flaws.{IsInside, end, plain, pair, IsQuote, IsBadEscape, IsOpenString}
use Rattle.mol_base.specs.Lexical.Front.{front, IsWithin, TakesLongest}
use Rattle.mol_base.specs.Lexical.Quoted.{before_quote, before_bad_escape, is_escape, quoted, fits_between}
use Rattle.mol_base.specs.Lexical.Names.{starts_name}
use Rattle.mol_base.specs.Lexical.Characters.{first_char}
use Rattle.mol_base.specs.Lexical.Symbols.{symbol}
use Rattle.mol_base.specs.Lexical.Tokens.{IsToken}
use Rattle.mol_base.specs.declared.token_kind.TokenKind.{TokenKind}
use Rattle.mol_base.specs.declared.token_kind.TokenKind.TheVariants.{Literal}
use Rattle.mol_base.specs.declared.lexical.front.Front.{Front}
use Rattle.mol_base.specs.declared.lexical.front.Front.TheVariants.{Taken, Wrong}
use Rattle.mol_base.specs.declared.lexical.front.Flaw.TheVariants.{BadChar, OpenString, BadEscape}
use Rattle.mol_base.proofs.Ends.{get_or-there, take-shorter, front-within}
use Rattle.mol_base.proofs.Inside.{on_line, quote-no_backslash, quote-some, before_quote-inside, inside-before_quote, before_bad_escape-inside, Split, split-before_bad_escape, before_quote-extends, plain-parts}
use Rattle.mol_base.proofs.Longest.{front-longest}
use Rattle.mol_base.proofs.OpenComments.{front-text_block, three_quotes-IsTextBlock, IsTextBlock-three_quotes}
use Rattle.mol_base.proofs.Whole.{IsWhole-token}

abbrev pub three_quotes : List ℕ → Bool
three_quotes r = nat_eq (first r) 34 && nat_eq (second r) 34 && nat_eq (third r) 34

quote-no_space : (q : ℕ) → IsQuote q → is_space q ≡ false
quote-no_space q (inl double) = rw double refl
quote-no_space q (inr single) = rw single refl

quote-no_slash : (q : ℕ) → IsQuote q → nat_eq q 47 ≡ false
quote-no_slash q (inl double) = rw double refl
quote-no_slash q (inr single) = rw single refl

quote-test : (q : ℕ) → IsQuote q → (nat_eq q 34 || nat_eq q 39) ≡ true
quote-test q (inl double) = rw double refl
quote-test q (inr single) = rw single refl

-- the rule of literals is the one that is chosen
pub front-quote : (r : List ℕ) → IsQuote (first r) → three_quotes r ≡ false → front r ≡ quoted (first r) r
unfolding front
front-quote r is no_block = rw (quote-no_space (first r) is, quote-no_slash (first r) is, no_block, quote-test (first r) is) refl

pub front-nil : front [] ≡ Wrong BadChar 0
unfolding front symbol starts_name first_char
front-nil = refl

quote_found : (t u w : Bool) (k j n : ℕ) (kind : TokenKind) → cond (not t) (Wrong OpenString 0) (cond u (Wrong BadEscape j) (cond w (Taken Literal (k + 2)) (Wrong OpenString 0))) ≡ Taken kind n → t ≡ true
quote_found true u w k j n kind is = refl
quote_found false u w k j n kind is = absurd cc

-- a literal at the front of a front of the bytes is one at theirs
quoted-extends : (q : ℕ) (r : List ℕ) (m n : ℕ) (kind : TokenKind) → 0 < q → 0 < m → m ≤ length r → quoted q (take m r) ≡ Taken kind n → quoted q r ≡ Taken kind n
unfolding quoted
quoted-extends q r m n kind high some room taken =
    let rest = drop 1 r in
    let small = take (m - 1) rest in
    let sum : 1 + (m - 1) ≡ m = omega arith in
    let after : drop 1 (take m r) ≡ small = ap (λ (x : ℕ). drop 1 (take x r)) (sym sum) ∙ drop-take 1 (m - 1) r in
    let here = rw after at taken in
    let k = before_quote q false small in
    let len : length rest ≡ length r - 1 = length-drop 1 r in
    let len' : length small ≡ m - 1 = length-take-le (m - 1) rest (omega arith) in
    let byte : get_or small k 0 ≡ q = eqb-true _ _ (quote_found (nat_eq (get_or small k 0) q) _ _ k _ n kind here) in
    let inside : k < length small = get_or-there small k (omega arith) in
    let same : before_quote q false rest ≡ k = before_quote-extends q false rest (m - 1) inside in
    let found : get_or rest k 0 ≡ get_or small k 0 = sym (get_or-take (m - 1) rest k 0 (omega arith)) in
    let body : take k rest ≡ take k small = sym (take-shorter k (m - 1) rest (omega arith) (omega arith)) in
    rw (same, found, body) here

-- so where the scan finds no end no front of the bytes is a literal
no_literal_at : (r : List ℕ) → IsQuote (first r) → quoted (first r) r ≡ Wrong OpenString 0 → (n : ℕ) → n ≤ length r → IsToken Literal (take n r) → ⊥
no_literal_at r is open_ zero le token = let whole = IsWhole-token Literal [] token in let nothing = front-nil in absurd cc
no_literal_at r is open_ (suc n) le token = by_quotes (cases_Bool (three_quotes (take (suc n) r))) where
  by_quotes : ((three_quotes (take (suc n) r) ≡ true) ⊎ (three_quotes (take (suc n) r) ≡ false)) → ⊥
  by_quotes (inl block) =
      let whole = IsWhole-token Literal (take (suc n) r) token in
      let wrong = front-text_block (take (suc n) r) (IsTextBlock-three_quotes (take (suc n) r) block) in
      absurd cc
  by_quotes (inr no_block) =
      let whole = IsWhole-token Literal (take (suc n) r) token in
      let here : first (take (suc n) r) ≡ first r = get_or-take (suc n) r 0 0 (omega arith) in
      let taken = sym (front-quote (take (suc n) r) (rw here is) no_block) ∙ whole in
      let shorter : quoted (first r) (take (suc n) r) ≡ Taken Literal (length (take (suc n) r)) = ap (λ (q : ℕ). quoted q (take (suc n) r)) (sym here) ∙ taken in
      let longer = quoted-extends (first r) r (suc n) _ Literal (quote-some (first r) is) (omega arith) le shorter in
      absurd cc

-- a bad escape
inside-first : (q : ℕ) {body : List ℕ} → IsQuote q → IsInside q on_line body → 0 < length body → nat_eq (first body) q ≡ false
inside-first q is end some = absurd (omega arith)
inside-first q is (plain b rest h inside) some = (plain-parts q b h).0
inside-first q is (pair b rest h inside) some = quote-no_backslash q is

first-left : (xs ys : List ℕ) → 0 < length xs → first (xs ++ ys) ≡ first xs
first-left [] ys some = absurd (omega arith)
first-left (x ∷ xs) ys some = refl

second_fails : (x y z : Bool) → y ≡ false → (x && y && z) ≡ false
second_fails true y z h = rw h refl
second_fails false y z h = refl

quoted-bad_escape_at : (q : ℕ) (good : List ℕ) (bad : ℕ) (others after : List ℕ) → IsQuote q → IsInside q on_line (good ++ 92 ∷ bad ∷ others) → IsInside q is_escape good → is_escape bad ≡ false
    → quoted q (q ∷ ((good ++ 92 ∷ bad ∷ others) ++ q ∷ after)) ≡ Wrong BadEscape (1 + length good)
unfolding quoted
quoted-bad_escape_at q good bad others after is closed escapes fails =
    let quote : before_quote q false ((good ++ 92 ∷ bad ∷ others) ++ q ∷ after) ≡ length (good ++ 92 ∷ bad ∷ others) = before_quote-inside q after is closed in
    let byte : get_or ((good ++ 92 ∷ bad ∷ others) ++ q ∷ after) (length (good ++ 92 ∷ bad ∷ others)) 0 ≡ q = get_or-append_seam (good ++ 92 ∷ bad ∷ others) q after 0 in
    let body : take (length (good ++ 92 ∷ bad ∷ others)) ((good ++ 92 ∷ bad ∷ others) ++ q ∷ after) ≡ good ++ 92 ∷ bad ∷ others = take-append_seam (good ++ 92 ∷ bad ∷ others) (q ∷ after) in
    let escape : before_bad_escape false (good ++ 92 ∷ bad ∷ others) ≡ length good = before_bad_escape-inside q bad others escapes fails in
    let less : nat_lt (length good) (length (good ++ 92 ∷ bad ∷ others)) ≡ true = lt-ltb _ _ (omega (arith, length-append good (92 ∷ bad ∷ others))) in
    let same : nat_eq q q ≡ true = eq-eqb q q refl in
    rw (quote, byte, body, escape, less, same) refl

no_block-bad_escape : (offset : ℕ) (r : List ℕ) → IsBadEscape offset r → three_quotes r ≡ false
no_block-bad_escape offset r is = by_quote is.is_quote where
  some : 0 < length (is.good ++ 92 ∷ is.bad ∷ is.others)
  some = omega (arith, length-append is.good (92 ∷ is.bad ∷ is.others))

  next : second r ≡ first (is.good ++ 92 ∷ is.bad ∷ is.others)
  next = ap second is.spelled ∙ first-left (is.good ++ 92 ∷ is.bad ∷ is.others) (is.quote ∷ is.after) some

  by_quote : IsQuote is.quote → three_quotes r ≡ false
  by_quote (inl double) =
      let other : nat_eq (second r) is.quote ≡ false = ap (λ (x : ℕ). nat_eq x is.quote) next ∙ inside-first is.quote is.is_quote is.closed some in
      second_fails (nat_eq (first r) 34) (nat_eq (second r) 34) (nat_eq (third r) 34) (rw double at other)
  by_quote (inr single) = let here : first r ≡ 39 = ap first is.spelled ∙ single in rw here refl

pub front-bad_escape : (offset : ℕ) (r : List ℕ) → IsBadEscape offset r → front r ≡ Wrong BadEscape offset
front-bad_escape offset r is =
    let here : first r ≡ is.quote = ap first is.spelled in
    let chosen : front r ≡ quoted (first r) r = front-quote r (rw here is.is_quote) (no_block-bad_escape offset r is) in
    let found = quoted-bad_escape_at is.quote is.good is.bad is.others is.after is.is_quote is.closed is.escapes is.no_escape in
    chosen ∙ ap (λ (q : ℕ). quoted q r) here ∙ ap (λ (xs : List ℕ). quoted is.quote xs) is.spelled ∙ found ∙ ap (λ (k : ℕ). Wrong BadEscape k) (sym is.place)

split_first : (r : List ℕ) → 0 < length r → r ≡ first r ∷ drop 1 r
split_first [] some = absurd (omega arith)
split_first (x ∷ r) some = refl

IsBadEscape-quoted : (r : List ℕ) → 0 < length r → IsQuote (first r) → get_or (drop 1 r) (before_quote (first r) false (drop 1 r)) 0 ≡ first r
    → before_bad_escape false (take (before_quote (first r) false (drop 1 r)) (drop 1 r)) < before_quote (first r) false (drop 1 r)
    → IsBadEscape (1 + before_bad_escape false (take (before_quote (first r) false (drop 1 r)) (drop 1 r))) r
IsBadEscape-quoted r some is found less =
    let q : ℕ = first r in
    let rest : List ℕ = drop 1 r in
    let n : ℕ = before_quote q false rest in
    let high = quote-some q is in
    let there : n < length rest = get_or-there rest n (omega arith) in
    let len : length (take n rest) ≡ n = length-take-le n rest (omega arith) in
    let inside : IsInside q on_line (take n rest) = inside-before_quote q is rest found in
    let split : Split q (take n rest) (before_bad_escape false (take n rest)) = split-before_bad_escape q inside (omega arith) in
    let P : List ℕ → Type 0 = IsInside q on_line in
    let tail : drop n rest ≡ q ∷ drop (suc n) rest = drop-cons rest n 0 there ∙ ap (λ (x : ℕ). x ∷ drop (suc n) rest) found in
    let whole : rest ≡ take n rest ++ q ∷ drop (suc n) rest = sym (take-append-drop n rest) ∙ ap (λ (xs : List ℕ). take n rest ++ xs) tail in
    let spelled : rest ≡ (split.good ++ 92 ∷ split.bad ∷ split.others) ++ q ∷ drop (suc n) rest = whole ∙ ap (λ (xs : List ℕ). xs ++ q ∷ drop (suc n) rest) split.spelled in
    record {
      quote = q;
      good = split.good;
      bad = split.bad;
      others = split.others;
      after = drop (suc n) rest;
      is_quote = is;
      spelled = split_first r some ∙ ap (λ (xs : List ℕ). q ∷ xs) spelled;
      closed = subst P split.spelled inside;
      escapes = split.escapes;
      no_escape = split.no_escape;
      place = omega (arith, split.place_is);
    }

pub IsOpenString-quoted : (r : List ℕ) → IsQuote (first r) → three_quotes r ≡ false → quoted (first r) r ≡ Wrong OpenString 0 → IsOpenString r
IsOpenString-quoted r is no_block found = record {
  quote = is;
  no_literal = no_literal_at r is found;
  no_text_block = λ block. true≢false (sym (three_quotes-IsTextBlock r block) ∙ no_block);
  no_bad_escape = λ offset bad. let chosen = front-quote r is no_block in let wrong = front-bad_escape offset r bad in absurd cc;
}

-- what the rule of literals finds
pub data QuotedCase (r : List ℕ) : Type 0 where
  open_string : quoted (first r) r ≡ Wrong OpenString 0 → QuotedCase r
  bad_escape : (offset : ℕ) → quoted (first r) r ≡ Wrong BadEscape offset → IsBadEscape offset r → QuotedCase r
  literal : (n : ℕ) → quoted (first r) r ≡ Taken Literal n → QuotedCase r

pub quoted-cases : (r : List ℕ) → 0 < length r → IsQuote (first r) → QuotedCase r
unfolding quoted
quoted-cases r some is =
    let q = first r in let rest = drop 1 r in let n = before_quote q false rest in let body = take n rest in let k = before_bad_escape false body in
    let Found : Front → Type 0 = λ f. quoted (first r) r ≡ f → QuotedCase r in
    cond_both (not (nat_eq (get_or rest n 0) q)) (Wrong OpenString 0) _ Found (λ _ e. open_string e)
    (λ closed. cond_both (nat_lt k n) (Wrong BadEscape (1 + k)) _ Found (λ less e. bad_escape (1 + k) e (IsBadEscape-quoted r some is (eqb-true _ _ (not-false _ closed)) (ltb-true _ _ less)))
    (λ _. cond_both (fits_between q body) (Taken Literal (n + 2)) (Wrong OpenString 0) Found (λ _ e. literal (n + 2) e) (λ _ e. open_string e))) refl

-- a literal that does not end
pub front-open_string : (r : List ℕ) → 0 < length r → IsOpenString r → front r ≡ Wrong OpenString 0
front-open_string r some is = by_case (quoted-cases r some is.quote) where
  chosen : front r ≡ quoted (first r) r
  chosen = front-quote r is.quote (false_from_ne_true _ (λ block. is.no_text_block (IsTextBlock-three_quotes r block)))

  by_case : QuotedCase r → front r ≡ Wrong OpenString 0
  by_case (open_string e) = chosen ∙ e
  by_case (bad_escape offset e bad) = absurd (is.no_bad_escape offset bad)
  by_case (literal n e) =
      let taken : front r ≡ Taken Literal n = chosen ∙ e in
      let P : Front → Type 0 = IsWithin r in
      let Q : Front → Type 0 = TakesLongest r in
      let within : IsWithin r (Taken Literal n) = subst P taken (front-within r some) in
      let longest : TakesLongest r (Taken Literal n) = subst Q taken (front-longest r some) in
      absurd (is.no_literal n within.1 longest.token)
