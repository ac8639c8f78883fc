-- What decoding into room for 32 bytes says of a digest.
use Rattle.std.proofs.Common.{◌≡◌, ℕ, List, true, false, Result, Ok, Err, Some, None, refl, sym, ap, ◌∙◌, subst}
use Rattle.std.specs.Prelude.{if◌then◌else◌, is_err, MatchResult}
use Rattle.std.specs.Str.{bytes_eq}
use Rattle.hex.specs.Hex.{encode_lower, decode_sized}
use Rattle.hex.specs.declared.error.FromHexError.{FromHexError}
use Rattle.mol_log_rows.specs.lines.HeaderReader.{written_so, digest_of}

-- what `decode_to_slice` answers and writes
abbrev Decodes : Result (List ℕ) FromHexError → Result (Unit {0}) FromHexError → List ℕ → Type 0
Decodes decoded result out = MatchResult decoded (λ bytes. (result ≡ Ok tt) × (out ≡ bytes)) (λ fault. result ≡ Err fault)

refused : (text : List ℕ) (decoded : Result (List ℕ) FromHexError) (result : Result (Unit {0}) FromHexError) (out : List ℕ) → Decodes decoded result out → is_err result ≡ true
    → written_so text decoded ≡ None
refused text (Ok bytes) result out decodes err = let clash = sym err ∙ ap is_err decodes.0 in absurd cc
refused text (Err fault) result out decodes err = refl

taken : (text : List ℕ) (decoded : Result (List ℕ) FromHexError) (result : Result (Unit {0}) FromHexError) (out : List ℕ) → Decodes decoded result out → is_err result ≡ false
    → written_so text decoded ≡ (if bytes_eq text (encode_lower out) then Some out else None)
taken text (Ok bytes) result out decodes ok = ap (λ b. if bytes_eq text (encode_lower b) then Some b else None) (sym decodes.1)
taken text (Err fault) result out decodes ok = let clash = sym ok ∙ ap is_err decodes in absurd cc

pub undecoded : (text bytes : List ℕ) (result : Result (Unit {0}) FromHexError) (out : List ℕ) → bytes ≡ text → Decodes (decode_sized bytes 32) result out → is_err result ≡ true
    → digest_of text ≡ None
unfolding digest_of
undecoded text bytes result out same decodes err =
    refused text (decode_sized text 32) result out (subst (λ b. Decodes (decode_sized b 32) result out) same decodes) err

pub decoded_so : (text bytes : List ℕ) (result : Result (Unit {0}) FromHexError) (out : List ℕ) → bytes ≡ text → Decodes (decode_sized bytes 32) result out → is_err result ≡ false
    → digest_of text ≡ (if bytes_eq text (encode_lower out) then Some out else None)
unfolding digest_of
decoded_so text bytes result out same decodes ok =
    taken text (decode_sized text 32) result out (subst (λ b. Decodes (decode_sized b 32) result out) same decodes) ok
