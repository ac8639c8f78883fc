-- Which fault is the first.
use Rattle.std.proofs.Common.{◌≡◌, ℕ, ◌+◌, ◌<◌, ◌≤◌, true, List, drop, length, refl, sym, arith, subst}
use Rattle.std.specs.Prelude.{nat_lt, min}
use Rattle.std.specs.Str.Lossy.{utf8_valid_len}
use Rattle.std.proofs.lemmas.Bool.Decides.{nat_tests}
use Rattle.std.proofs.lemmas.Bool.{ltb-true, cond_both}
use Rattle.std.proofs.lemmas.Str.{utf8_valid_len-IsUtf8}
use Rattle.std.proofs.lemmas.List.{length-drop}
use Rattle.mol_base.specs.Token.{Token}
use Rattle.mol_base.specs.Source.{Tiles, IsSource}
use Rattle.mol_base.specs.Lexical.Escapes.{IsBeforeEscape}
use Rattle.mol_base.specs.Lexical.Front.{front}
use Rattle.mol_base.specs.declared.lexical.front.Flaw.{Flaw}
use Rattle.mol_base.specs.declared.lexical.front.Flaw.TheVariants as flaws
use Rattle.mol_base.specs.declared.lexical.front.Front.TheVariants.{Wrong}
use Rattle.jav_lex.specs.Fault.{HasFlaw, IsFault, place, is_of_characters, IsFirstFault, flawed, of_characters}
use Rattle.jav_lex.specs.declared.fault.LexFault.{LexFault}
use Rattle.jav_lex.specs.declared.fault.LexFault.TheVariants.{NotUtf8, BadChar, OpenString, OpenComment, BadEscape, UnicodeEscape, FloatLiteral, BadNumber, TextBlock, NameTooLong, OutOfMemory}
use Rattle.mol_base.proofs.Escaping.{IsBeforeEscape-one, before_unicode_escape-is}
use Rattle.mol_base.proofs.Flawed.{front-IsFlaw}
use Rattle.jav_lex.proofs.Tiling.{no_flaw_before}

-- what holds of each kind of fault, where the first Unicode escape would be there
by_kind : (bytes : List ℕ) (e : ℕ) → IsBeforeEscape bytes e → (P : ℕ → Type 0) → (utf8_valid_len bytes < length bytes → P (utf8_valid_len bytes)) → (e < length bytes → P e)
    → ((flaw : Flaw) (at : ℕ) → HasFlaw bytes flaw at → P at) → (other : LexFault) → IsFault bytes other → P (place other)
by_kind bytes e first P text escape flawed' (NotUtf8 at) is = subst P (sym is.0) (text (omega (arith, is.0, is.1)))
by_kind bytes e first P text escape flawed' (UnicodeEscape at) is =
    let same : e ≡ at = IsBeforeEscape-one bytes e at first is.0 in
    subst P same (escape (omega (arith, same, is.1)))
by_kind bytes e first P text escape flawed' (BadChar at) is = flawed' flaws.BadChar at is
by_kind bytes e first P text escape flawed' (OpenString at) is = flawed' flaws.OpenString at is
by_kind bytes e first P text escape flawed' (OpenComment at) is = flawed' flaws.OpenComment at is
by_kind bytes e first P text escape flawed' (BadEscape at) is = flawed' flaws.BadEscape at is
by_kind bytes e first P text escape flawed' (FloatLiteral at) is = flawed' flaws.FloatLiteral at is
by_kind bytes e first P text escape flawed' (BadNumber at) is = flawed' flaws.BadNumber at is
by_kind bytes e first P text escape flawed' (TextBlock at) is = flawed' flaws.TextBlock at is
by_kind bytes e first P text escape flawed' (NameTooLong at) is = flawed' flaws.NameTooLong at is
by_kind bytes e first P text escape flawed' OutOfMemory is = absurd is

-- the characters' fault is the first where no flaw is before it
pub characters_first : (bytes : List ℕ) (e v : ℕ) → IsBeforeEscape bytes e → v ≡ utf8_valid_len bytes → min e v < length bytes
    → ((flaw : Flaw) (at : ℕ) → HasFlaw bytes flaw at → min e v ≤ at) → IsFirstFault bytes (of_characters e v)
characters_first bytes e v escape text inside late =
    cond_both (nat_lt e v) (UnicodeEscape e) (NotUtf8 v) (IsFirstFault bytes)
    (λ is. let less : e < v = ltb-true e v is in record {
      there = (escape, omega arith);
      least = by_kind bytes e escape (λ at. e ≤ at) (λ _. omega arith) (λ _. omega arith) (λ flaw at has. omega (arith, late flaw at has));
      first = λ other is' of same. refl;
    })
    (λ is. let more : v ≤ e = grind (arith, nat_tests, is) in record {
      there = (text, omega arith);
      least = by_kind bytes e escape (λ at. v ≤ at) (λ _. omega arith) (λ _. omega arith) (λ flaw at has. omega (arith, late flaw at has));
      first = λ other is' of same. refl;
    })

place-flawed : (flaw : Flaw) (at : ℕ) → place (flawed flaw at) ≡ at
place-flawed flaws.BadChar at = refl
place-flawed flaws.OpenString at = refl
place-flawed flaws.OpenComment at = refl
place-flawed flaws.BadEscape at = refl
place-flawed flaws.FloatLiteral at = refl
place-flawed flaws.BadNumber at = refl
place-flawed flaws.TextBlock at = refl
place-flawed flaws.NameTooLong at = refl

IsFault-flawed : (bytes : List ℕ) (flaw : Flaw) (at : ℕ) → HasFlaw bytes flaw at → IsFault bytes (flawed flaw at)
IsFault-flawed bytes flaws.BadChar at has = has
IsFault-flawed bytes flaws.OpenString at has = has
IsFault-flawed bytes flaws.OpenComment at has = has
IsFault-flawed bytes flaws.BadEscape at has = has
IsFault-flawed bytes flaws.FloatLiteral at has = has
IsFault-flawed bytes flaws.BadNumber at has = has
IsFault-flawed bytes flaws.TextBlock at has = has
IsFault-flawed bytes flaws.NameTooLong at has = has

-- a fault of a character is not before the least of the two places
characters_late : (bytes : List ℕ) (e n : ℕ) → IsBeforeEscape bytes e → n < utf8_valid_len bytes → n < e → (other : LexFault) → IsFault bytes other → is_of_characters other ≡ true → n < place other
characters_late bytes e n first text escape (NotUtf8 at) is of = omega (arith, is.0)
characters_late bytes e n first text escape (UnicodeEscape at) is of = omega (arith, IsBeforeEscape-one bytes e at first is.0)
characters_late bytes e n first text escape (BadChar at) is of = absurd cc
characters_late bytes e n first text escape (OpenString at) is of = absurd cc
characters_late bytes e n first text escape (OpenComment at) is of = absurd cc
characters_late bytes e n first text escape (BadEscape at) is of = absurd cc
characters_late bytes e n first text escape (FloatLiteral at) is of = absurd cc
characters_late bytes e n first text escape (BadNumber at) is of = absurd cc
characters_late bytes e n first text escape (TextBlock at) is of = absurd cc
characters_late bytes e n first text escape (NameTooLong at) is of = absurd cc
characters_late bytes e n first text escape OutOfMemory is of = absurd is

-- a flaw before the characters' fault is the first where no flaw is before it
pub flaw_first : (bytes : List ℕ) (e v : ℕ) → IsBeforeEscape bytes e → v ≡ utf8_valid_len bytes → (flaw : Flaw) (at : ℕ) → HasFlaw bytes flaw at → at < min e v
    → ((other : Flaw) (n : ℕ) → HasFlaw bytes other n → at ≤ n) → IsFirstFault bytes (flawed flaw at)
flaw_first bytes e v escape text flaw at has before late =
    let is : place (flawed flaw at) ≡ at = place-flawed flaw at in
    record {
      there = IsFault-flawed bytes flaw at has;
      least = rw is (by_kind bytes e escape (λ n. at ≤ n) (λ _. omega arith) (λ _. omega arith) late);
      first = λ other is' of same. absurd (omega (arith, characters_late bytes e at escape (omega arith) (omega arith) other is' of, is));
    }

-- what the scan finds at a flaw
pub HasFlaw-front : (bytes : List ℕ) (flaw : Flaw) (n : ℕ) (has : HasFlaw bytes flaw n) → front (drop has.at bytes) ≡ Wrong flaw has.offset
HasFlaw-front bytes flaw n has =
    let len = length-drop has.at bytes in
    front-IsFlaw (drop has.at bytes) flaw has.offset (omega (arith, len, has.inside)) has.flawed

-- a flaw that stands where tokens tile up to is the only one
pub flaw_alone : (bytes : List ℕ) (at offset : ℕ) (flaw : Flaw) (ts : List Token) → Tiles bytes 0 ts at → front (drop at bytes) ≡ Wrong flaw offset
    → (other : Flaw) (n : ℕ) → HasFlaw bytes other n → n ≡ at + offset
flaw_alone bytes at offset flaw ts tiles wrong other n has =
    let found : front (drop has.at bytes) ≡ Wrong other has.offset = HasFlaw-front bytes other n has in
    let low : at ≤ has.at = no_flaw_before bytes 0 at has.at has.offset other ts has.tokens tiles has.tiles found in
    let high : has.at ≤ at = no_flaw_before bytes 0 has.at at offset flaw has.tokens ts has.tiles tiles wrong in
    let same : has.at ≡ at = omega arith in
    let there : front (drop at bytes) ≡ Wrong other has.offset = rw same at found in
    let offsets : has.offset ≡ offset = cc in
    omega (arith, has.found)

-- flaws are not before the place up to which tokens tile
pub flaws_late : (bytes : List ℕ) (at : ℕ) (ts : List Token) → Tiles bytes 0 ts at → (other : Flaw) (n : ℕ) → HasFlaw bytes other n → at ≤ n
flaws_late bytes at ts tiles other n has = omega (arith, has.found, no_flaw_before bytes 0 at has.at has.offset other ts has.tokens tiles has.tiles (HasFlaw-front bytes other n has))

-- a source has no fault
pub no_fault : (bytes : List ℕ) (ts : List Token) → IsSource bytes ts → (fault : LexFault) → IsFault bytes fault → ⊥
no_fault bytes ts source fault is =
    let P : ℕ → Type 0 = λ n. ⊥ in
    let escape = before_unicode_escape-is bytes in
    by_kind bytes _ escape P (λ short. omega (arith, utf8_valid_len-IsUtf8 bytes source.utf8)) (λ short. source.escapes _ (escape.there short))
    (λ flaw at has. omega (arith, has.inside, no_flaw_before bytes 0 (length bytes) has.at has.offset flaw ts has.tokens source.tiles has.tiles (HasFlaw-front bytes flaw at has))) fault is
