-- That no two faults are the first.
use Rattle.std.proofs.Common.{◌≡◌, ◌≢◌, ℕ, zero, suc, ◌<◌, ◌≤◌, true, false, List, [], ◌∷◌, take, drop, length, get_or, refl, sym, ap, subst, arith, take-suc}
use Rattle.std.specs.Prelude.{IsTrue}
use Rattle.std.specs.Str.{IsUtf8, is_utf8}
use Rattle.std.specs.Str.Lossy.{utf8_valid_len, valid_len_up_to}
use Rattle.std.proofs.lemmas.Bool.{cond_both}
use Rattle.std.proofs.lemmas.Str.{IsUtf8-nil, IsUtf8-append, IsUtf8-encode, encode_ascii, IsUtf8-from_is_utf8, is_utf8-from_IsUtf8}
use Rattle.mol_base.specs.Lexical.Characters.{before_unicode_escape}
use Rattle.mol_base.specs.Lexical.Escapes.{IsEscapeAt, IsBeforeEscape}
use Rattle.mol_base.specs.Lexical.Front.{front}
use Rattle.mol_base.specs.declared.lexical.front.Flaw.{Flaw}
use Rattle.mol_base.specs.declared.lexical.front.Flaw.TheVariants as flaws
use Rattle.mol_base.specs.declared.lexical.front.Front.TheVariants.{Wrong}
use Rattle.jav_lex.specs.Fault.{HasFlaw, IsFault, place, is_of_characters, IsFirstFault, flawed}
use Rattle.jav_lex.specs.declared.fault.LexFault.{LexFault}
use Rattle.jav_lex.specs.declared.fault.LexFault.TheVariants.{NotUtf8, BadChar, OpenString, OpenComment, BadEscape, UnicodeEscape, FloatLiteral, BadNumber, TextBlock, NameTooLong, OutOfMemory}
use Rattle.mol_base.proofs.Ends.{get_or-there}
use Rattle.mol_base.proofs.Escaping.{IsBeforeEscape-one, before_unicode_escape-is}
use Rattle.jav_lex.proofs.Faults.{HasFlaw-front}
use Rattle.jav_lex.proofs.Tiling.{no_flaw_before}

-- the front up to a length that is found to be the longest in UTF-8 is in UTF-8
front-is : (bytes : List ℕ) (m : ℕ) → IsUtf8 (take (valid_len_up_to bytes m) bytes)
front-is bytes zero = IsUtf8-nil
front-is bytes (suc m) =
    cond_both (is_utf8 (take (suc m) bytes)) (suc m) (valid_len_up_to bytes m) (λ n. IsUtf8 (take n bytes))
    (λ is. IsUtf8-from_is_utf8 (take (suc m) bytes) is) (λ _. front-is bytes m)

-- and no longer one up to that length is
front-within : (bytes : List ℕ) (n m : ℕ) → n ≤ m → IsUtf8 (take n bytes) → n ≤ valid_len_up_to bytes m
front-within bytes n zero le text = omega arith
front-within bytes n (suc m) le text =
    cond_both (is_utf8 (take (suc m) bytes)) (suc m) (valid_len_up_to bytes m) (λ x. n ≤ x) (λ _. le)
    (λ refused.
    let P : ℕ → Type 0 = λ x. IsUtf8 (take x bytes) in
    let passed : n ≡ suc m → is_utf8 (take (suc m) bytes) ≡ true = λ same. is_utf8-from_IsUtf8 (take (suc m) bytes) (subst P same text) in
    let shorter : n ≢ suc m = λ same. let is = passed same in absurd cc in
    front-within bytes n m (omega arith) text)

-- where a Unicode escape begins no ill-formed sequence does, since a backslash is a character by itself
apart : (bytes : List ℕ) (e : ℕ) → IsEscapeAt bytes e → utf8_valid_len bytes ≡ e → ⊥
unfolding utf8_valid_len
apart bytes e escape same =
    let P : ℕ → Type 0 = λ n. IsUtf8 (take n bytes) in
    let byte : get_or bytes e 0 ≡ 92 = escape.backslash in
    let inside : e < length bytes = get_or-there bytes e (omega arith) in
    let text : IsUtf8 (take e bytes) = subst P same (front-is bytes (length bytes)) in
    let backslash : IsUtf8 (92 ∷ []) = subst IsUtf8 (encode_ascii 92 (omega arith)) (IsUtf8-encode 92 refl) in
    let longer : IsUtf8 (take (suc e) bytes) = rw (take-suc bytes e 0 inside, byte) (IsUtf8-append (take e bytes) (92 ∷ []) text backslash) in
    let within : suc e ≤ valid_len_up_to bytes (length bytes) = front-within bytes (suc e) (length bytes) (omega arith) longer in
    omega arith

-- what holds of faults of each kind, where the first Unicode escape would be there
by_fault : (bytes : List ℕ) (e : ℕ) → IsBeforeEscape bytes e → (P : LexFault → Type 0) → P (NotUtf8 (utf8_valid_len bytes)) → (IsEscapeAt bytes e → P (UnicodeEscape e))
    → ((flaw : Flaw) (at : ℕ) → HasFlaw bytes flaw at → P (flawed flaw at)) → (fault : LexFault) → IsFault bytes fault → P fault
by_fault bytes e first P text escape flawed' (NotUtf8 at) is = subst P (ap NotUtf8 (sym is.0)) text
by_fault bytes e first P text escape flawed' (UnicodeEscape at) is =
    let same : e ≡ at = IsBeforeEscape-one bytes e at first is.0 in
    subst P (ap UnicodeEscape same) (escape (first.there (omega (arith, same, is.1))))
by_fault bytes e first P text escape flawed' (BadChar at) is = flawed' flaws.BadChar at is
by_fault bytes e first P text escape flawed' (OpenString at) is = flawed' flaws.OpenString at is
by_fault bytes e first P text escape flawed' (OpenComment at) is = flawed' flaws.OpenComment at is
by_fault bytes e first P text escape flawed' (BadEscape at) is = flawed' flaws.BadEscape at is
by_fault bytes e first P text escape flawed' (FloatLiteral at) is = flawed' flaws.FloatLiteral at is
by_fault bytes e first P text escape flawed' (BadNumber at) is = flawed' flaws.BadNumber at is
by_fault bytes e first P text escape flawed' (TextBlock at) is = flawed' flaws.TextBlock at is
by_fault bytes e first P text escape flawed' (NameTooLong at) is = flawed' flaws.NameTooLong at is
by_fault bytes e first P text escape flawed' OutOfMemory is = absurd is

-- a flaw is no fault of a character
not_of_characters : (flaw : Flaw) (at : ℕ) → IsTrue (is_of_characters (flawed flaw at)) → ⊥
not_of_characters flaws.BadChar at is = absurd cc
not_of_characters flaws.OpenString at is = absurd cc
not_of_characters flaws.OpenComment at is = absurd cc
not_of_characters flaws.BadEscape at is = absurd cc
not_of_characters flaws.FloatLiteral at is = absurd cc
not_of_characters flaws.BadNumber at is = absurd cc
not_of_characters flaws.TextBlock at is = absurd cc
not_of_characters flaws.NameTooLong at is = absurd cc

-- a source has one flaw at most, since no tokens go on beyond one
same_flaw : (bytes : List ℕ) (flaw other : Flaw) (at n : ℕ) → HasFlaw bytes flaw at → HasFlaw bytes other n → flawed flaw at ≡ flawed other n
same_flaw bytes flaw other at n has has' =
    let here : front (drop has.at bytes) ≡ Wrong flaw has.offset = HasFlaw-front bytes flaw at has in
    let further : front (drop has'.at bytes) ≡ Wrong other has'.offset = HasFlaw-front bytes other n has' in
    let low : has.at ≤ has'.at = no_flaw_before bytes 0 has.at has'.at has'.offset other has.tokens has'.tokens has.tiles has'.tiles further in
    let high : has'.at ≤ has.at = no_flaw_before bytes 0 has'.at has.at has.offset flaw has'.tokens has.tokens has'.tiles has.tiles here in
    let same : has'.at ≡ has.at = omega arith in
    let there : front (drop has.at bytes) ≡ Wrong other has'.offset = rw same at further in
    let kind : flaw ≡ other = cc in
    let offsets : has.offset ≡ has'.offset = cc in
    let places : at ≡ n = omega (arith, has.found, has'.found) in
    rw (kind, places)

-- two faults at one place are one, where both or neither are of characters
one_fault : (bytes : List ℕ) (a b : LexFault) → IsFault bytes a → IsFault bytes b → place a ≡ place b
    → (IsTrue (is_of_characters a) → IsTrue (is_of_characters b)) → (IsTrue (is_of_characters b) → IsTrue (is_of_characters a)) → a ≡ b
one_fault bytes a b is is' = by_fault bytes e first (λ x. P x b)
    (by_fault bytes e first (P (NotUtf8 v)) (λ _ _ _. refl) (λ escape same _ _. absurd (apart bytes e escape same)) (λ flaw at has _ to _. absurd (not_of_characters flaw at (to refl))) b is')
    (λ escape. by_fault bytes e first (P (UnicodeEscape e)) (λ same _ _. absurd (apart bytes e escape (sym same))) (λ _ _ _ _. refl) (λ flaw at has _ to _. absurd (not_of_characters flaw at (to refl))) b is')
    (λ flaw at has. by_fault bytes e first (P (flawed flaw at)) (λ _ _ from. absurd (not_of_characters flaw at (from refl))) (λ _ _ _ from. absurd (not_of_characters flaw at (from refl)))
    (λ other n has' _ _ _. same_flaw bytes flaw other at n has has') b is')
    a is
  where
    v : ℕ
    v = utf8_valid_len bytes

    e : ℕ
    e = before_unicode_escape false bytes

    first : IsBeforeEscape bytes e
    first = before_unicode_escape-is bytes

    P : LexFault → LexFault → Type 0
    P x y = place x ≡ place y → (IsTrue (is_of_characters x) → IsTrue (is_of_characters y)) → (IsTrue (is_of_characters y) → IsTrue (is_of_characters x)) → x ≡ y

-- at most one fault is the first
pub one_first : (bytes : List ℕ) (a b : LexFault) → IsFirstFault bytes a → IsFirstFault bytes b → a ≡ b
one_first bytes a b first first' =
    let low : place a ≤ place b = first.least b first'.there in
    let high : place b ≤ place a = first'.least a first.there in
    let same : place a ≡ place b = omega arith in
    one_fault bytes a b first.there first'.there same (λ of. first'.first a first.there of same) (λ of. first.first b first'.there of (sym same))
