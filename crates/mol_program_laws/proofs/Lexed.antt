-- Each list of bytes has tokens or a first lexical fault.
use Rattle.std.proofs.Common.{◌≡◌, ◌⊎◌, inl, inr, ℕ, zero, suc, ◌+◌, ◌<◌, ◌≤◌, min, Bool, true, false, List, [], ◌∷◌, ◌++◌, take, drop, length, refl, sym, ◌∙◌, ap, subst, arith, add-zero}
use Rattle.std.specs.Prelude.{nat_lt, slice_index}
use Rattle.std.specs.Str.{IsUtf8, is_utf8}
use Rattle.std.specs.Str.Lossy.{utf8_valid_len, valid_len_up_to}
use Rattle.std.proofs.lemmas.Bool.Decides.{nat_tests}
use Rattle.std.proofs.lemmas.Bool.{cond_both, ltb-true}
use Rattle.std.proofs.lemmas.List.{get_or-drop, length-drop, take_all}
use Rattle.std.proofs.lemmas.Str.{IsUtf8-from_is_utf8, IsUtf8-nil}
use Rattle.jav_lex.proofs.Faults.{characters_first, flaw_alone, flaw_first}
use Rattle.jav_lex.proofs.Tiling.{IsBlank-nil, Tiles-space, Tiles-token, no_flaw_before}
use Rattle.jav_lex.proofs.Faults.{HasFlaw-front}
use Rattle.jav_lex.specs.Fault.{HasFlaw, IsFirstFault, flawed, of_characters}
use Rattle.jav_lex.specs.declared.fault.LexFault.{LexFault}
use Rattle.mol_base.proofs.Ends.{front-within}
use Rattle.mol_base.proofs.Escaping.{HasNoEscape-from_scan, before_unicode_escape-is}
use Rattle.mol_base.proofs.Flawed.{IsFlaw-front}
use Rattle.mol_base.proofs.Sources.{IsTaken-front}
use Rattle.mol_base.specs.Lexical.Characters.{before_unicode_escape, first, is_space}
use Rattle.mol_base.specs.Lexical.Escapes.{IsBeforeEscape}
use Rattle.mol_base.specs.Lexical.Front.{IsWithin, front}
use Rattle.mol_base.specs.declared.lexical.front.Flaw.{Flaw}
use Rattle.mol_base.specs.declared.lexical.front.Front.{Front}
use Rattle.mol_base.specs.declared.lexical.front.Front.TheVariants.{Space, Taken, Wrong}
use Rattle.mol_base.specs.Source.{IsSource, Tiles}
use Rattle.mol_base.specs.Token.{Token}

-- # Tokens one after another

-- tokens tile the bytes up to a flaw
record IsStuck (bytes : List ℕ) : Type 0 where
  pub tokens : List Token
  pub at : ℕ
  pub flaw : Flaw
  pub offset : ℕ
  pub tiles : Tiles bytes 0 tokens at
  pub inside : at < length bytes
  pub wrong : front (drop at bytes) ≡ Wrong flaw offset

-- or all of them
abbrev Scanned : List ℕ → Type 0
Scanned bytes = ((tokens : List Token) × Tiles bytes 0 tokens (length bytes)) ⊎ IsStuck bytes

tiles-inside : (bytes : List ℕ) (from at : ℕ) (ts : List Token) → Tiles bytes from ts at → at ≤ length bytes
tiles-inside bytes from at [] tiles = tiles.inside
tiles-inside bytes from at (t ∷ ts) tiles = tiles-inside bytes t.end at ts tiles.2

module _ (bytes : List ℕ) where
  within : (at : ℕ) → at < length bytes → IsWithin (drop at bytes) (front (drop at bytes))
  within at inside = front-within (drop at bytes) (omega (arith, length-drop at bytes, inside))

  space_at : (at : ℕ) → at < length bytes → front (drop at bytes) ≡ Space → is_space (slice_index bytes at) ≡ true
  space_at at inside is =
      let here : first (drop at bytes) ≡ slice_index bytes at = get_or-drop at bytes 0 0 ∙ ap (λ (n : ℕ). slice_index bytes n) (add-zero at) in
      ap is_space (sym here) ∙ subst (IsWithin (drop at bytes)) is (within at inside)

  -- so many bytes at most are left
  abbrev Further : ℕ → Type 0
  Further fuel = (next : ℕ) (more : List Token) → Tiles bytes 0 more next → length bytes ≤ next + fuel → Scanned bytes

  scan : (fuel at : ℕ) (ts : List Token) → Tiles bytes 0 ts at → length bytes ≤ at + fuel → Scanned bytes
  scan zero at ts tiles enough =
      inl (ts, subst (Tiles bytes 0 ts) (omega (arith, enough, tiles-inside bytes 0 at ts tiles)) tiles)
  scan (suc fuel) at ts tiles enough =
      by_place (λ next more tiled left. scan fuel next more tiled left) (nat_lt at (length bytes)) refl where
        by_front : Further fuel → at < length bytes → (f : Front) → front (drop at bytes) ≡ f → Scanned bytes
        by_front further inside Space is =
            further (at + 1) ts (Tiles-space bytes 0 at ts tiles inside (space_at at inside is)) (omega (arith, enough))
        by_front further inside (Taken kind n) is =
            let t : Token = record { kind = kind; text = take n (drop at bytes); start = at; end = at + n } in
            let taken = IsTaken-front bytes t n is inside refl refl in
            further (at + n) (ts ++ t ∷ []) (Tiles-token bytes 0 ts t tiles taken) (omega (arith, enough, taken.some))
        by_front further inside (Wrong flaw offset) is =
            inr (record { tokens = ts; at = at; flaw = flaw; offset = offset; tiles = tiles; inside = inside; wrong = is })

        by_place : Further fuel → (b : Bool) → nat_lt at (length bytes) ≡ b → Scanned bytes
        by_place further true is = by_front further (ltb-true at (length bytes) is) (front (drop at bytes)) refl
        by_place further false is =
            let past : length bytes ≤ at = grind (arith, nat_tests, is) in
            inl (ts, subst (Tiles bytes 0 ts) (omega (arith, past, tiles-inside bytes 0 at ts tiles)) tiles)

  scanned : Scanned bytes
  scanned = scan (length bytes) 0 [] (IsBlank-nil bytes 0 (omega arith)) (omega arith)

-- # Characters

-- the front that is found to be in UTF-8 is
front-is : (bytes : List ℕ) (m : ℕ) → IsUtf8 (take (valid_len_up_to bytes m) bytes)
front-is bytes zero = IsUtf8-nil
front-is bytes (suc m) =
    cond_both (is_utf8 (take (suc m) bytes)) (suc m) (valid_len_up_to bytes m) (λ n. IsUtf8 (take n bytes))
    (λ is. IsUtf8-from_is_utf8 (take (suc m) bytes) is) (λ _. front-is bytes m)

text-whole : (bytes : List ℕ) → length bytes ≤ utf8_valid_len bytes → IsUtf8 bytes
unfolding utf8_valid_len
text-whole bytes whole = subst IsUtf8 (take_all (valid_len_up_to bytes (length bytes)) bytes whole) (front-is bytes (length bytes))

-- # Either

abbrev pub Lexed : List ℕ → Type 0
Lexed bytes = ((tokens : List Token) × IsSource bytes tokens) ⊎ ((fault : LexFault) × IsFirstFault bytes fault)

module _ (bytes : List ℕ) (escape : IsBeforeEscape bytes (before_unicode_escape false bytes)) where
  abbrev e : ℕ
  e = before_unicode_escape false bytes

  abbrev v : ℕ
  v = utf8_valid_len bytes

  -- where all bytes are tokens
  all_tokens : (ts : List Token) → Tiles bytes 0 ts (length bytes) → Lexed bytes
  all_tokens ts tiles = by (nat_lt (min e v) (length bytes)) refl where
    none : (flaw : Flaw) (at : ℕ) → HasFlaw bytes flaw at → min e v ≤ at
    none flaw at has = absurd (omega (
      arith,
      has.inside,
      no_flaw_before bytes 0 (length bytes) has.at has.offset flaw ts has.tokens tiles has.tiles (HasFlaw-front bytes flaw at has),
    ))

    by : (b : Bool) → nat_lt (min e v) (length bytes) ≡ b → Lexed bytes
    by true is = inr (of_characters e v, characters_first bytes e v escape refl (ltb-true (min e v) (length bytes) is) none)
    by false is =
        let whole : length bytes ≤ min e v = grind (arith, nat_tests, is) in
        inl (
          ts,
          record {
            utf8 = text-whole bytes (omega (arith, whole));
            escapes = HasNoEscape-from_scan bytes (omega (arith, whole, escape.within));
            tiles = tiles;
          },
        )

  -- where they are up to a flaw
  up_to_flaw : IsStuck bytes → Lexed bytes
  up_to_flaw stuck = by (nat_lt place (min e v)) refl where
    place : ℕ
    place = stuck.at + stuck.offset

    some : 0 < length (drop stuck.at bytes)
    some = omega (arith, length-drop stuck.at bytes, stuck.inside)

    inside : place < length bytes
    inside = let last : stuck.offset < length (drop stuck.at bytes) = subst (IsWithin (drop stuck.at bytes)) stuck.wrong (within bytes stuck.at stuck.inside) in
        omega (arith, length-drop stuck.at bytes, stuck.inside, last)

    has : HasFlaw bytes stuck.flaw place
    has = record {
      tokens = stuck.tokens;
      at = stuck.at;
      offset = stuck.offset;
      tiles = stuck.tiles;
      inside = stuck.inside;
      flawed = IsFlaw-front (drop stuck.at bytes) stuck.flaw stuck.offset some stuck.wrong;
      found = refl;
    }

    alone : (other : Flaw) (n : ℕ) → HasFlaw bytes other n → n ≡ place
    alone = flaw_alone bytes stuck.at stuck.offset stuck.flaw stuck.tokens stuck.tiles stuck.wrong

    by : (b : Bool) → nat_lt place (min e v) ≡ b → Lexed bytes
    by true is = inr (
      flawed stuck.flaw place,
      flaw_first bytes e v escape refl stuck.flaw place has (ltb-true place (min e v) is) (λ other n there. omega (arith, alone other n there)),
    )
    by false is =
        let late : min e v ≤ place = grind (arith, nat_tests, is) in
        inr (of_characters e v, characters_first bytes e v escape refl (omega (arith, late, inside)) (λ other n there. omega (arith, late, alone other n there)))

  by_scan : Scanned bytes → Lexed bytes
  by_scan (inl whole) = all_tokens whole.0 whole.1
  by_scan (inr stuck) = up_to_flaw stuck

-- each list of bytes is a source or has a first fault
pub lexed : (bytes : List ℕ) → Lexed bytes
lexed bytes = by_scan bytes (before_unicode_escape-is bytes) (scanned bytes)
