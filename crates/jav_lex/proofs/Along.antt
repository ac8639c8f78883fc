-- How far a source is read.
use Rattle.std.proofs.Common.{◌≡◌, ◌≢◌, ◌⊎◌, inl, inr, ℕ, ◌+◌, ◌-◌, ◌<◌, ◌≤◌, true, false, List, [], ◌∷◌, ◌++◌, take, drop, length, get_or, refl, ◌∙◌, ap, arith, add-zero}
use Rattle.std.specs.Prelude.{nat_lt, slice_index, min}
use Rattle.std.specs.Str.{IsUtf8}
use Rattle.std.specs.Str.Lossy.{utf8_valid_len}
use Rattle.std.proofs.lemmas.Bool.Decides.{nat_tests}
use Rattle.std.proofs.lemmas.Bool.{cases_Bool, ltb-true}
use Rattle.std.proofs.lemmas.Grind.{common_steps}
use Rattle.std.proofs.lemmas.List.{length-take-le, get_or-take, drop-take, length-drop, get_or-drop}
use Rattle.std.proofs.lemmas.Str.{IsUtf8-take, IsUtf8-drop, IsCharBoundary-before_ascii, IsCharBoundary-from_take}
use Rattle.mol_base.specs.Token.{Token}
use Rattle.mol_base.specs.Source.{IsTaken, Tiles}
use Rattle.mol_base.specs.Lexical.Characters.{first, is_space}
use Rattle.mol_base.specs.Lexical.Escapes.{IsBeforeEscape}
use Rattle.mol_base.specs.Lexical.Front.{front, EndsText, IsWithin}
use Rattle.mol_base.specs.declared.token_kind.TokenKind.{TokenKind}
use Rattle.mol_base.specs.declared.lexical.front.Flaw.{Flaw}
use Rattle.mol_base.specs.declared.lexical.front.Front.TheVariants.{Taken, Wrong}
use Rattle.mol_base.proofs.Ends.{take-shorter, EndsText-ascii}
use Rattle.mol_base.proofs.Flawed.{IsFlaw-front}
use Rattle.mol_base.proofs.Sources.{IsTaken-front}
use Rattle.jav_lex.specs.Token.{seen, all_seen}
use Rattle.jav_lex.specs.declared.token.Token as code
use Rattle.jav_lex.specs.Fault.{HasFlaw, IsFirstFault, flawed, of_characters}
use Rattle.jav_lex.proofs.Faults.{characters_first, flaw_first, flaw_alone, flaws_late}
use Rattle.jav_lex.proofs.Tiling.{IsBlank-nil, Tiles-space, Tiles-token}

-- the bytes before the first fault of a character are UTF-8
pub clean-text : (bytes : List ℕ) (e v : ℕ) → IsBeforeEscape bytes e → v ≤ length bytes → IsUtf8 (take v bytes) → IsUtf8 (take (min e v) bytes)
clean-text bytes e v escape room text = by_place (cases_Bool (nat_lt e v)) where
  by_place : ((nat_lt e v ≡ true) ⊎ (nat_lt e v ≡ false)) → IsUtf8 (take (min e v) bytes)
  by_place (inl is) =
      let less : e < v = ltb-true e v is in
      let least : min e v ≡ e = omega arith in
      let len : length (take v bytes) ≡ v = length-take-le v bytes room in
      let byte : get_or bytes e 0 ≡ 92 = (escape.there (omega arith)).backslash in
      let here : get_or (take v bytes) e 0 ≡ get_or bytes e 0 = get_or-take v bytes e 0 less in
      let boundary = IsCharBoundary-before_ascii (take v bytes) e (omega arith) (omega arith) in
      rw (least, ← take-shorter e v bytes (omega arith) room) (IsUtf8-take (take v bytes) e text boundary)
  by_place (inr is) = let least : min e v ≡ v = grind (arith, nat_tests, is) in rw least text

-- of UTF-8 the front that is UTF-8 may be left out
IsUtf8-after : (r : List ℕ) (n m : ℕ) → n ≤ m → m ≤ length r → IsUtf8 (take m r) → IsUtf8 (take n r) → IsUtf8 (take (m - n) (drop n r))
IsUtf8-after r n m le room text front =
    let len : length (take m r) ≡ m = length-take-le m r room in
    let boundary = IsCharBoundary-from_take (take m r) n text (omega arith) (rw (take-shorter n m r le room) front) in
    let sum : n + (m - n) ≡ m = omega arith in
    rw (← drop-take n (m - n) r, sum) (IsUtf8-drop (take m r) n text boundary)

-- Tokens are read up to a place, and up to the clean end the bytes from there are UTF-8.
pub record Along (bytes : List ℕ) (clean : ℕ) (ts : List Token) (at : ℕ) : Type 0 where
  pub tiles : Tiles bytes 0 ts at
  pub before : at ≤ clean
  pub text : IsUtf8 (take (clean - at) (drop at bytes))

pub Along-start : (bytes : List ℕ) (clean : ℕ) → IsUtf8 (take clean bytes) → Along bytes clean [] 0
Along-start bytes clean text = record { tiles = IsBlank-nil bytes 0 (omega arith); before = omega arith; text = let same : clean - 0 ≡ clean = omega arith in rw same text }

drop-further : (bytes : List ℕ) (at n : ℕ) → drop n (drop at bytes) ≡ drop (at + n) bytes
drop-further bytes at n = grind (arith, common_steps)

pub Along-step : (bytes : List ℕ) (clean at n : ℕ) → at < clean → clean ≤ length bytes → n ≤ clean - at → IsUtf8 (take (clean - at) (drop at bytes)) → EndsText (drop at bytes) n
    → IsUtf8 (take (clean - (at + n)) (drop (at + n) bytes))
Along-step bytes clean at n before room le text ends =
    let len : length (drop at bytes) ≡ length bytes - at = length-drop at bytes in
    let front = ends (clean - at) le (omega arith) text in
    let after = IsUtf8-after (drop at bytes) n (clean - at) le (omega arith) text front in
    let count : clean - at - n ≡ clean - (at + n) = omega arith in
    rw (← drop-further bytes at n, ← count) after

pub Along-space : (bytes : List ℕ) (clean at : ℕ) (ts : List Token) → Along bytes clean ts at → at < clean → clean ≤ length bytes → is_space (first (drop at bytes)) ≡ true
    → Along bytes clean ts (at + 1)
Along-space bytes clean at ts along before room is =
    let here : first (drop at bytes) ≡ slice_index bytes at = get_or-drop at bytes 0 0 ∙ ap (λ (n : ℕ). slice_index bytes n) (add-zero at) in
    let low : get_or (drop at bytes) 0 0 < 128 = grind (arith, nat_tests, is) in
    let len : length (drop at bytes) ≡ length bytes - at = length-drop at bytes in
    record {
      tiles = Tiles-space bytes 0 at ts along.tiles (omega arith) (rw here at is);
      before = omega arith;
      text = Along-step bytes clean at 1 before room (omega arith) along.text (EndsText-ascii (drop at bytes) 0 (omega arith) low);
    }

pub Along-token : (bytes : List ℕ) (clean n : ℕ) (ts : List Token) (t : Token) → Along bytes clean ts t.start → t.start < clean → clean ≤ length bytes → n ≤ clean - t.start
    → EndsText (drop t.start bytes) n → t.end ≡ t.start + n → IsTaken bytes t → Along bytes clean (ts ++ t ∷ []) t.end
Along-token bytes clean n ts t along before room le ends end taken = record {
  tiles = Tiles-token bytes 0 ts t along.tiles taken;
  before = omega arith;
  text = rw end (Along-step bytes clean t.start n before room le along.text ends);
}

pub all_seen-more : (ts : List code.Token) (t : code.Token) → all_seen (ts ++ t ∷ []) ≡ all_seen ts ++ seen t ∷ []
all_seen-more [] t = refl
all_seen-more (u ∷ ts) t = ap (λ (xs : List Token). seen u ∷ xs) (all_seen-more ts t)

-- Where tokens are read up to a place before the clean end, or up to that end: the first fault.
module _ (bytes : List ℕ) (e v clean at : ℕ) (ts : List Token) (escape : IsBeforeEscape bytes e) (valid : v ≡ utf8_valid_len bytes) (least : clean ≡ min e v)
    (room : v ≤ length bytes) (along : Along bytes clean ts at) where
  -- a token goes on beyond it
  pub exit_taken : (kind : TokenKind) (n : ℕ) → at < clean → front (drop at bytes) ≡ Taken kind n → IsWithin (drop at bytes) (Taken kind n) → clean - at < n → IsFirstFault bytes (of_characters e v)
  exit_taken kind n before is within beyond =
      let len : length (drop at bytes) ≡ length bytes - at = length-drop at bytes in
      let t : Token = record { kind = kind; text = take n (drop at bytes); start = at; end = at + n } in
      let taken : IsTaken bytes t = IsTaken-front bytes t n is (omega arith) refl refl in
      let tiles = Tiles-token bytes 0 ts t along.tiles taken in
      characters_first bytes e v escape valid (omega (arith, within.1)) (λ flaw p has. omega (arith, flaws_late bytes (at + n) (ts ++ t ∷ []) tiles flaw p has))

  -- a flaw is found beyond it
  pub exit_late : (flaw : Flaw) (k : ℕ) → at < clean → front (drop at bytes) ≡ Wrong flaw k → k < length (drop at bytes) → clean - at ≤ k → IsFirstFault bytes (of_characters e v)
  exit_late flaw k before is within beyond =
      let len : length (drop at bytes) ≡ length bytes - at = length-drop at bytes in
      characters_first bytes e v escape valid (omega arith) (λ other p has. omega (arith, flaw_alone bytes at k flaw ts along.tiles is other p has))

  -- a flaw is found before it
  pub exit_flaw : (flaw : Flaw) (k : ℕ) → at < clean → front (drop at bytes) ≡ Wrong flaw k → k < clean - at → IsFirstFault bytes (flawed flaw (at + k))
  exit_flaw flaw k before is within =
      let len : length (drop at bytes) ≡ length bytes - at = length-drop at bytes in
      let has : HasFlaw bytes flaw (at + k) = record { tokens = ts; at = at; offset = k; tiles = along.tiles; inside = omega arith; flawed = IsFlaw-front (drop at bytes) flaw k (omega arith) is; found = refl } in
      flaw_first bytes e v escape valid flaw (at + k) has (omega arith) (λ other p has'. omega (arith, flaw_alone bytes at k flaw ts along.tiles is other p has'))

  -- all up to it are read
  pub exit_end : clean ≤ at → clean ≢ length bytes → IsFirstFault bytes (of_characters e v)
  exit_end whole short = characters_first bytes e v escape valid (omega arith) (λ flaw p has. omega (arith, flaws_late bytes at ts along.tiles flaw p has))
