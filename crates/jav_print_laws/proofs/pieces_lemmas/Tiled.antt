-- Pieces that fit are a source, whose tokens are theirs.
use Rattle.std.proofs.Common.{◌≡◌, ◌⊎◌, inl, inr, ℕ, suc, ◌+◌, ◌<◌, ◌≤◌, Bool, true, false, ◌&&◌, List, [], ◌∷◌, ◌++◌, drop, length, refl, sym, ◌∙◌, ap, arith, cond, nat_eq, None, Some, length-append, add-zero}
use Rattle.std.specs.Prelude.{not, nat_lt, slice_index}
use Rattle.std.specs.Str.{is_utf8, IsUtf8}
use Rattle.std.proofs.lemmas.Str.{IsUtf8-from_is_utf8, IsUtf8-append, IsUtf8-nil, IsUtf8-from_ascii}
use Rattle.std.proofs.lemmas.Option.{same_Some}
use Rattle.std.proofs.lemmas.Bool.{and_parts, cases_Bool, ltb-true, eqb-true, not-true}
use Rattle.std.proofs.lemmas.Bool.Decides.{nat_tests}
use Rattle.std.proofs.lemmas.List.{get_or-drop, length-drop, drop-drop}
use Rattle.std.proofs.Math.Seq.{take-append_seam, drop-append_seam}
use Rattle.mol_base.specs.Token.{Token}
use Rattle.mol_base.specs.Lexical.Characters.{is_space, first, pairs_next, before_unicode_escape, first_char}
use Rattle.mol_base.specs.Lexical.Names.{starts_name}
use Rattle.mol_base.specs.Lexical.Symbols.{symbol}
use Rattle.mol_base.specs.Lexical.Front.{front, token_kind, is_clean, whole}
use Rattle.mol_base.specs.declared.token_kind.TokenKind.{TokenKind}
use Rattle.mol_base.specs.declared.token_kind.TokenKind.TheVariants.{Word, Keyword, Comment, Literal, Symbol}
use Rattle.mol_base.specs.declared.lexical.front.Front.{Front}
use Rattle.mol_base.specs.declared.lexical.front.Front.TheVariants.{Space, Taken, Wrong}
use Rattle.mol_base.specs.declared.lexical.front.Flaw.TheVariants.{BadChar}
use Rattle.mol_base.specs.Source.{IsBlank, Tiles, IsSource}
use Rattle.mol_base.proofs.Escaping.{HasNoEscape-from_scan}
use Rattle.mol_base.proofs.Sources.{IsTaken-front}
use Rattle.jav_print_laws.specs.pieces.Pieces.{Piece, blank, word, text_of, tokens_from, lead, breaks, ends_symbol, no_backslash, may_follow, Fits}
use Rattle.jav_print_laws.proofs.pieces_lemmas.Bytes.{backslash_starts_none, u_goes_on}
use Rattle.jav_print_laws.proofs.pieces_lemmas.Cut.{ascii_char, ascii_one, front-followed}
use Rattle.jav_print_laws.proofs.pieces_lemmas.Signs.{symbol-kind}

-- what a token is
pub record IsToken (text : List ℕ) (kind : TokenKind) : Type 0 where
  pub some : 0 < length text
  pub taken : front text ≡ Taken kind (length text)
  pub utf8 : IsUtf8 text
  pub escapes : before_unicode_escape false text ≡ length text

of_whole : (n : ℕ) (f : Front) (kind : TokenKind) → whole n f ≡ Some kind → f ≡ Taken kind n
of_whole n Space kind is = absurd cc
of_whole n (Wrong flaw at) kind is = absurd cc
of_whole n (Taken k m) kind is = by_len (nat_eq m n) refl is where
  by_len : (b : Bool) → nat_eq m n ≡ b → cond b (Some k) None ≡ Some kind → Taken k m ≡ Taken kind n
  by_len true same h = let e = eqb-true m n same in let e' = same_Some k kind h in cc
  by_len false same h = absurd cc

none_in_nothing : front [] ≡ Wrong BadChar 0
unfolding front symbol starts_name first_char
none_in_nothing = refl

some_bytes : (text : List ℕ) (kind : TokenKind) (n : ℕ) → front text ≡ Taken kind n → 0 < length text
some_bytes [] kind n is = let e = none_in_nothing in absurd cc
some_bytes (b ∷ text) kind n is = omega arith

pub token_is : (text : List ℕ) (kind : TokenKind) → token_kind text ≡ Some kind → IsToken text kind
unfolding token_kind is_clean
token_is text kind is = by_clean (is_clean text) refl is where
  by_clean : (b : Bool) → is_clean text ≡ b → cond b (whole (length text) (front text)) None ≡ Some kind → IsToken text kind
  by_clean false _ h = absurd cc
  by_clean true clean h =
      let taken = of_whole (length text) (front text) kind h in
      let parts = and_parts (is_utf8 text) (nat_eq (before_unicode_escape false text) (length text)) clean in
      record { some = some_bytes text kind _ taken; taken = taken; utf8 = IsUtf8-from_is_utf8 text parts.0; escapes = eqb-true _ _ parts.1 }

pub lead-text : (ps : List Piece) → Fits ps 0 → first (text_of ps) ≡ lead ps 0
lead-text [] fits = refl
lead-text (blank b ∷ ps) fits = refl
lead-text (word kind [] ∷ ps) fits = let t = token_is [] kind fits.0 in absurd (omega (arith, t.some))
lead-text (word kind (b ∷ text) ∷ ps) fits = refl

-- the bytes are UTF-8
space-low : (b : ℕ) → is_space b ≡ true → b < 128
space-low b h = grind (arith, nat_tests, h)

utf8-text : (ps : List Piece) (next : ℕ) → Fits ps next → IsUtf8 (text_of ps)
utf8-text [] next fits = IsUtf8-nil
utf8-text (blank b ∷ ps) next fits = IsUtf8-append (b ∷ []) (text_of ps) (IsUtf8-from_ascii (b ∷ []) (ascii_one b (space-low b fits.0))) (utf8-text ps next fits.1)
utf8-text (word kind text ∷ ps) next fits = IsUtf8-append text (text_of ps) (token_is text kind fits.0).utf8 (utf8-text ps next fits.2)

-- no Unicode escape stands in the text, nor where two pieces meet
after : Bool → List ℕ → Bool
after odd [] = odd
after odd (b ∷ bs) = after (pairs_next odd b) bs

and_no : (a b : Bool) → b ≡ false → (a && b) ≡ false
and_no true b h = h
and_no false b h = refl

step_len : (t : Bool) (n m : ℕ) → cond t 0 (1 + n) ≡ suc m → (t ≡ false) × (n ≡ m)
step_len true n m h = absurd (omega arith)
step_len false n m h = (refl, omega arith)

escapes-join : (odd : Bool) (t r : List ℕ) → before_unicode_escape odd t ≡ length t → ((no_backslash t ≡ true) ⊎ (nat_eq (first r) 117 ≡ false))
    → before_unicode_escape odd (t ++ r) ≡ length t + before_unicode_escape (after odd t) r
unfolding after
escapes-join odd [] r clean seam = omega arith
escapes-join odd (b ∷ []) r clean seam = rw (meet seam) (omega arith) where
  meet : ((no_backslash (b ∷ []) ≡ true) ⊎ (nat_eq (first r) 117 ≡ false)) → (pairs_next odd b && nat_eq (first r) 117) ≡ false
  meet (inr differs) = and_no (pairs_next odd b) _ differs
  meet (inl none) = let plain : nat_eq b 92 ≡ false = not-true _ (and_parts (not (nat_eq b 92)) true none).0 in rw (plain, and_no (not odd) false refl) refl
escapes-join odd (b ∷ c ∷ t) r clean seam =
    let here = step_len (pairs_next odd b && nat_eq c 117) (before_unicode_escape (pairs_next odd b) (c ∷ t)) (length (c ∷ t)) clean in
    rw here.0 (omega (arith, escapes-join (pairs_next odd b) (c ∷ t) r here.1 (later seam)))
  where
    later : ((no_backslash (b ∷ c ∷ t) ≡ true) ⊎ (nat_eq (first r) 117 ≡ false)) → (no_backslash (c ∷ t) ≡ true) ⊎ (nat_eq (first r) 117 ≡ false)
    later (inl none) = inl (and_parts (not (nat_eq b 92)) (no_backslash (c ∷ t)) none).1
    later (inr differs) = inr differs

-- a token begins with no backslash
plain_symbol : (text : List ℕ) (kind : TokenKind) (b : ℕ) → Symbol ≡ kind → may_follow kind text b ≡ true → no_backslash text ≡ true
unfolding may_follow
plain_symbol text kind b is h = (and_parts (ends_symbol text b) _ (rw (← is) at h)).1

backslash-symbol : (bs : List ℕ) (kind : TokenKind) (n : ℕ) → front (92 ∷ bs) ≡ Taken kind n → Symbol ≡ kind
unfolding front starts_name
backslash-symbol bs kind n is = symbol-kind (92 ∷ bs) kind n (rw (ascii_char 92 bs (omega arith), backslash_starts_none) at is)

no_backslash_first : (text : List ℕ) (kind : TokenKind) (b : ℕ) → IsToken text kind → may_follow kind text b ≡ true → nat_eq (first text) 92 ≡ false
no_backslash_first [] kind b is ends = absurd (omega (arith, is.some))
no_backslash_first (a ∷ bs) kind b is ends = by_byte (cases_Bool (nat_eq a 92)) where
  by_byte : ((nat_eq a 92 ≡ true) ⊎ (nat_eq a 92 ≡ false)) → nat_eq a 92 ≡ false
  by_byte (inr differs) = differs
  by_byte (inl same) =
      let e : a ≡ 92 = eqb-true a 92 same in
      let taken = is.taken in
      let sign = backslash-symbol bs kind _ (rw e at taken) in
      let plain = plain_symbol (a ∷ bs) kind b sign ends in
      not-true _ (and_parts (not (nat_eq a 92)) (no_backslash bs) plain).0

-- so what stands before it does not matter
escapes-any : (odd : Bool) (text : List ℕ) → nat_eq (first text) 92 ≡ false → before_unicode_escape false text ≡ length text → before_unicode_escape odd text ≡ length text
escapes-any false text plain clean = clean
escapes-any true [] plain clean = clean
escapes-any true (b ∷ bs) plain clean = let e = rw plain at clean in e

-- what ends a token is no `u`, or the token is a symbol
seam-word : (text : List ℕ) (kind : TokenKind) (b : ℕ) → may_follow kind text b ≡ true → (no_backslash text ≡ true) ⊎ (nat_eq b 117 ≡ false)
unfolding may_follow
seam-word text Symbol b ends = inl (and_parts (ends_symbol text b) _ ends).1
seam-word text Word b ends = inr (u_goes_on b ends)
seam-word text Keyword b ends = inr (u_goes_on b ends)
seam-word text Literal b ends = inr (u_goes_on b (and_parts (breaks b) _ ends).0)
seam-word text Comment b ends = inr (grind (arith, nat_tests, ends))

escapes-text : (odd : Bool) (ps : List Piece) → Fits ps 0 → before_unicode_escape odd (text_of ps) ≡ length (text_of ps)
escapes-text odd [] fits = refl
escapes-text odd (blank b ∷ ps) fits =
    let plain : nat_eq b 92 ≡ false = grind (arith, nat_tests, fits.0) in
    let rest = escapes-text false ps fits.1 in
    rw (plain, and_no (not odd) false refl) (omega (arith, rest))
escapes-text odd (word kind text ∷ ps) fits =
    let t = token_is text kind fits.0 in
    let ends = rw (← lead-text ps fits.2) at fits.1 in
    let clean = escapes-any odd text (no_backslash_first text kind _ t ends) t.escapes in
    let rest = escapes-text (after odd text) ps fits.2 in
    escapes-join odd text (text_of ps) clean (seam-word text kind _ ends) ∙ (let e : length text + before_unicode_escape (after odd text) (text_of ps) ≡ length (text ++ text_of ps) = omega (arith, rest, length-append text (text_of ps)) in e)

-- the tokens, with white space between them, are the text
before-space : (bytes : List ℕ) (at to : ℕ) (ts : List Token) → at < length bytes → is_space (slice_index bytes at) ≡ true → Tiles bytes (at + 1) ts to → Tiles bytes at ts to
before-space bytes at to ts inside is tiles = by ts tiles where
  more : (end : ℕ) → IsBlank bytes (at + 1) end → IsBlank bytes at end
  more end b = record { ordered = omega (arith, b.ordered); inside = b.inside; blank = λ i low high. by_place i low high (cases_Bool (nat_lt at i)) } where
    by_place : (i : ℕ) → at ≤ i → i < end → ((nat_lt at i ≡ true) ⊎ (nat_lt at i ≡ false)) → is_space (slice_index bytes i) ≡ true
    by_place i low high (inl after') = b.blank i (omega (arith, ltb-true at i after')) high
    by_place i low high (inr here) = let same : i ≡ at = grind (arith, nat_tests, here) in rw same is

  by : (ts : List Token) → Tiles bytes (at + 1) ts to → Tiles bytes at ts to
  by [] tiles = more to tiles
  by (t ∷ ts) tiles = (more t.start tiles.0, tiles.1, tiles.2)

tiles-pieces : (bytes : List ℕ) (at : ℕ) (ps : List Piece) → at ≤ length bytes → drop at bytes ≡ text_of ps → Fits ps 0 → Tiles bytes at (tokens_from at ps) (length bytes)
tiles-pieces bytes at [] room is fits =
    let len = length-drop at bytes in
    let none : length (drop at bytes) ≡ 0 = ap length is in
    record { ordered = room; inside = omega arith; blank = λ i low high. absurd (omega (arith, len, none)) }
tiles-pieces bytes at (blank b ∷ ps) room is fits =
    let len = length-drop at bytes in
    let all : length (drop at bytes) ≡ suc (length (text_of ps)) = ap length is in
    let here : slice_index bytes at ≡ b = ap (λ (n : ℕ). slice_index bytes n) (sym (add-zero at)) ∙ sym (get_or-drop at bytes 0 0) ∙ ap first is in
    let rest : drop (at + 1) bytes ≡ text_of ps = sym (drop-drop 1 at bytes) ∙ ap (drop 1) is in
    before-space bytes at (length bytes) (tokens_from (at + 1) ps) (omega (arith, len, all)) (rw here fits.0) (tiles-pieces bytes (at + 1) ps (omega (arith, len, all)) rest fits.1)
tiles-pieces bytes at (word kind text ∷ ps) room is fits =
    let t = token_is text kind fits.0 in
    let some : 0 < length text = t.some in
    let len = length-drop at bytes in
    let all : length (drop at bytes) ≡ length text + length (text_of ps) = ap length is ∙ length-append text (text_of ps) in
    let inside : at + length text ≤ length bytes = omega (arith, len, all) in
    let rest : drop (at + length text) bytes ≡ text_of ps = sym (drop-drop (length text) at bytes) ∙ ap (drop (length text)) is ∙ drop-append_seam text (text_of ps) in
    let ends = rw (← lead-text ps fits.2) at fits.1 in (
      record { ordered = omega arith; inside = room; blank = λ i low high. absurd (omega arith) },
      IsTaken-front bytes (record { kind = kind; text = text; start = at; end = at + length text }) (length text)
          (rw is (front-followed text (text_of ps) kind some t.taken ends)) (omega arith) refl (rw is (sym (take-append_seam text (text_of ps)))),
      tiles-pieces bytes (at + length text) ps inside rest fits.2,
    )

pub pieces_lex : (ps : List Piece) → Fits ps 0 → IsSource (text_of ps) (tokens_from 0 ps)
pieces_lex ps fits = record {
  utf8 = utf8-text ps 0 fits;
  escapes = HasNoEscape-from_scan (text_of ps) (escapes-text false ps fits);
  tiles = tiles-pieces (text_of ps) 0 ps (omega arith) refl fits;
}
