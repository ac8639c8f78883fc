-- The text of each token of a source is one token by itself.
use Rattle.std.proofs.Common.{◌≡◌, ◌⊎◌, inl, inr, ℕ, zero, suc, ◌+◌, ◌-◌, ◌<◌, ◌≤◌, true, false, List, [], ◌∷◌, take, drop, length, refl, ◌∙◌, ap, subst, arith, nat_eq}
use Rattle.std.specs.Prelude.{slice_index}
use Rattle.std.specs.Str.{IsUtf8, IsCharBoundary}
use Rattle.std.proofs.lemmas.Bool.{cases_Bool, eqb-true, and_right}
use Rattle.std.proofs.lemmas.Bool.Decides.{nat_tests}
use Rattle.std.proofs.lemmas.List.{get_or-drop, get_or-take, length-drop, length-take-le}
use Rattle.std.proofs.lemmas.List.Elements.{All-nil, All-cons}
use Rattle.std.proofs.lemmas.Str.{IsUtf8-drop, IsCharBoundary-start, IsCharBoundary-after_ascii, IsCharBoundary-from_take, IsCharBoundary-from_rest}
use Rattle.std.proofs.Math.Seq.{take-length}
use Rattle.ucd_derived.specs.Binary.{is_xid_start}
use Rattle.ucd_derived.specs.XidStartRanges.{xid_start_ranges}
use Rattle.ucd_table.specs.Rows.{in_ranges}
use Rattle.mol_base.specs.Token.{Token}
use Rattle.mol_base.specs.Source.{IsBlank, IsTaken, Tiles}
use Rattle.mol_base.specs.Lexical.Characters.{first}
use Rattle.mol_base.specs.Lexical.Escapes.{backslashes_before, HasNoEscape}
use Rattle.mol_base.specs.Lexical.Names.{starts_name, is_start}
use Rattle.mol_base.specs.Lexical.Symbols.{symbol}
use Rattle.mol_base.specs.Lexical.Front.{front, IsWithin}
use Rattle.mol_base.specs.Lexical.Tokens.{IsToken, IsOneToken}
use Rattle.mol_base.specs.declared.token_kind.TokenKind.{TokenKind}
use Rattle.mol_base.specs.declared.lexical.front.Front.{Front}
use Rattle.mol_base.specs.declared.lexical.front.Front.TheVariants.{Taken, Wrong}
use Rattle.mol_base.specs.declared.lexical.front.Flaw.TheVariants.{BadChar}
use Rattle.mol_base.proofs.Ends.{front-within, get_or-there}
use Rattle.mol_base.proofs.FirstChar.{first_char-ascii}
use Rattle.mol_base.proofs.Sources.{front-IsTaken}
use Rattle.mol_base.proofs.Whole.{IsWhole-token}
use Rattle.jav_print_laws.specs.printable.GrammarTrees.{AreOneTokens, SourcesHaveTokens}

-- # A token begins with no backslash

backslash_starts_none : is_start 92 ≡ false
unfolding is_start is_xid_start in_ranges xid_start_ranges
backslash_starts_none = refl

no_symbol : (bs : List ℕ) → symbol (92 ∷ bs) ≡ Wrong BadChar 0
unfolding symbol
no_symbol bs = rw (and_right (nat_eq 92 (first bs)) false refl, and_right (nat_eq (first bs) 61) false refl) refl

none_begins : (bs : List ℕ) → front (92 ∷ bs) ≡ Wrong BadChar 0
unfolding front starts_name
none_begins bs = rw (first_char-ascii 92 bs (omega arith), backslash_starts_none) (no_symbol bs)

no_backslash : (kind : TokenKind) (text : List ℕ) → IsToken kind text → first text ≡ 92 → ⊥
no_backslash kind [] is e = absurd cc
no_backslash kind (b ∷ bs) is e =
    let taken : front (b ∷ bs) ≡ Taken kind (length (b ∷ bs)) = IsWhole-token kind (b ∷ bs) is in
    let none = none_begins bs in
    let same : b ≡ 92 = e in
    let taken' : front (92 ∷ bs) ≡ Taken kind (length (b ∷ bs)) = rw same at taken in
    absurd cc

-- # No Unicode escape stands in a token

module _ (bytes : List ℕ) (start : ℕ) (text : List ℕ) (here : (i : ℕ) → i < length text → slice_index text i ≡ slice_index bytes (start + i)) (plain : slice_index text 0 ≡ 92 → ⊥) where
  -- as many backslashes stand before a place of the text as before that place of the bytes
  same_before : (place : ℕ) → suc place ≤ length text → backslashes_before text (suc place) ≡ backslashes_before bytes (suc (start + place))
  same_before zero room = by (cases_Bool (nat_eq (slice_index text 0) 92)) where
    same : slice_index text 0 ≡ slice_index bytes (start + 0)
    same = here 0 (omega arith)

    by : ((nat_eq (slice_index text 0) 92 ≡ true) ⊎ (nat_eq (slice_index text 0) 92 ≡ false)) → backslashes_before text 1 ≡ backslashes_before bytes (suc (start + 0))
    by (inl is) = absurd (plain (eqb-true _ 92 is))
    by (inr differs) = let differs' : nat_eq (slice_index bytes (start + 0)) 92 ≡ false = rw same at differs in rw (differs, differs') refl
  same_before (suc place) room =
      let same : slice_index text (suc place) ≡ slice_index bytes (start + suc place) = here (suc place) (omega arith) in
      let next : start + suc place ≡ suc (start + place) = omega arith in
      rw (next) (rw (same, next, same_before place (omega arith)) refl)

  pub no_escape_inside : HasNoEscape bytes → HasNoEscape text
  no_escape_inside none zero at_place = absurd (plain at_place.backslash)
  no_escape_inside none (suc place) at_place =
      let inside : suc place + 1 < length text = get_or-there text (suc place + 1) (omega (arith, at_place.followed)) in
      let next : start + suc place ≡ suc (start + place) = omega arith in
      let one : start + (suc place + 1) ≡ suc (start + place) + 1 = omega arith in
      let e = here (suc place) (omega arith) in
      let e' = here (suc place + 1) inside in
      none (suc (start + place)) (record {
        backslash = rw (← next, ← e) at_place.backslash;
        unescaped = rw (← same_before place (omega arith)) at_place.unescaped;
        followed = rw (← one, ← e') at_place.followed;
      })

-- # Where tokens begin and end

-- white space leads from where a character ends to where one ends
boundary_after : (bytes : List ℕ) (from to : ℕ) → IsUtf8 bytes → IsCharBoundary bytes from → IsBlank bytes from to → IsCharBoundary bytes to
boundary_after bytes from to text cut blank = by (cases_Bool (nat_eq from to)) where
  by : ((nat_eq from to ≡ true) ⊎ (nat_eq from to ≡ false)) → IsCharBoundary bytes to
  by (inl is) = let P : ℕ → Type 0 = IsCharBoundary bytes in subst P (eqb-true from to is) cut
  by (inr differs) =
      let ordered = blank.ordered in
      let inside = blank.inside in
      let less : from < to = grind (arith, nat_tests, differs, ordered) in
      let space = blank.blank (to - 1) (omega arith) (omega arith) in
      let low : slice_index bytes (to - 1) < 128 = grind (arith, nat_tests, space) in
      let last : to - 1 + 1 ≡ to = omega arith in
      rw last at (IsCharBoundary-after_ascii bytes (to - 1) text (omega arith) low)

module _ (bytes : List ℕ) (utf8 : IsUtf8 bytes) (escapes : HasNoEscape bytes) where
  one_token : (t : Token) → IsCharBoundary bytes t.start → IsTaken bytes t → IsOneToken t.kind t.text × IsCharBoundary bytes t.end
  one_token t cut taken =
      let n = t.end - t.start in
      let rest = drop t.start bytes in
      let some = taken.some in
      let inside = taken.inside in
      let len : length rest ≡ length bytes - t.start = length-drop t.start bytes in
      let is : front rest ≡ Taken t.kind n = front-IsTaken bytes t taken in
      let P : Front → Type 0 = IsWithin rest in
      let within : IsWithin rest (Taken t.kind n) = subst P is (front-within rest (omega arith)) in
      let text_rest : IsUtf8 rest = IsUtf8-drop bytes t.start utf8 cut in
      let whole : IsUtf8 (take (length rest) rest) = rw (take-length rest) text_rest in
      let text : IsUtf8 (take n rest) = within.2 (length rest) within.1 (omega arith) whole in
      let there : (i : ℕ) → i < length t.text → slice_index t.text i ≡ slice_index bytes (t.start + i) = λ i low.
      let short : length (take n rest) ≡ n = length-take-le n rest within.1 in
      let size : length t.text ≡ n = ap length taken.text ∙ short in
      ap (λ (xs : List ℕ). slice_index xs i) taken.text ∙ get_or-take n rest i 0 (omega arith) ∙ get_or-drop t.start bytes i 0 in
      let token : IsToken t.kind t.text = rw taken.text taken.longest.token in
      let P2 : ℕ → Type 0 = IsCharBoundary bytes in (
        record { utf8 = rw taken.text text; escapes = no_escape_inside bytes t.start t.text there (no_backslash t.kind t.text token) escapes; token = token },
        (let end : t.start + n ≡ t.end = omega arith in
            subst P2 end (IsCharBoundary-from_rest bytes t.start n (omega arith) (IsCharBoundary-from_take rest n text_rest within.1 text))),
      )

  one_tokens : (from to : ℕ) (ts : List Token) → IsCharBoundary bytes from → Tiles bytes from ts to → AreOneTokens ts
  one_tokens from to [] cut tiles = All-nil (λ token. IsOneToken token.kind token.text)
  one_tokens from to (t ∷ ts) cut tiles =
      let t_is = one_token t (boundary_after bytes from t.start utf8 cut tiles.0) tiles.1 in
      All-cons (λ token. IsOneToken token.kind token.text) t ts t_is.0 (one_tokens t.end to ts t_is.1 tiles.2)

pub sources_have_tokens : SourcesHaveTokens
sources_have_tokens bytes tokens source = one_tokens bytes source.utf8 source.escapes 0 (length bytes) tokens (IsCharBoundary-start bytes source.utf8) source.tiles
