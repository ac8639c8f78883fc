-- What is read as a header is the header of the object, and the header of the object is read.
use Rattle.std.proofs.Common.{◌≡◌, ℕ, List, length, Bool, true, false, Result, Ok, Err, Option, Some, None, option_and_then, refl, sym, ap, ◌∙◌, subst, arith, codes}
use Rattle.std.specs.Prelude.{◌==◌, if◌then◌else◌, IfOk, IfErr}
use Rattle.std.specs.Str.{bytes_eq}
use Rattle.std.specs.Cmp.Lexicographic.{same_text}
use Rattle.std.proofs.lemmas.Bool.{eqb-true}
use Rattle.std.proofs.lemmas.Slice.Eq.{bytes_eq-Decides}
use Rattle.hex.specs.Hex.{encode_lower, decode_sized}
use Rattle.hex.specs.declared.error.FromHexError.{FromHexError}
use Rattle.hex.proofs.HexLemmas.{decode_of-ok, decode_sized-ok, decode_sized-twice, decode_sized-encode_lower}
use Rattle.serde_json.specs.Data.{Data, number, string, object, unsigned, negative, float, no_members}
use Rattle.serde_json.specs.Find.{as_number, as_u64}
use Rattle.mol_log_rows.specs.lines.HeaderReader as reader
use Rattle.mol_log_rows.specs.lines.HeaderReader.{written_so, digest_of, digest_from, format_from, tags_from, header_of, header_from}
use Rattle.mol_log_rows.specs.lines.Headers.{IsDigest, IsHeader, header_data, are_tags}
use Rattle.mol_log_rows.specs.lines.Objects.{texts_data}
use Rattle.mol_log_rows.specs.lines.Reader.{part, and_then, kept, texts_from, Gives}
use Rattle.mol_log_rows.specs.declared.lines.header.Header.{Header}
use Rattle.mol_log_rows.specs.declared.lines.object_fault.ObjectFault.{ObjectFault}
use Rattle.mol_log_rows.specs.declared.lines.object_fault.ObjectFault.TheVariants.{WrongForm}
use Rattle.mol_log_rows.proofs.lines_lemmas.ReaderFound.{step, kept_is, texts_found, whole_found, pure_is, follow}
use Rattle.mol_log_rows.proofs.lines_lemmas.ReaderRead.{texts_read}

-- ---- the digest

same_bytes : (xs : List ℕ) → bytes_eq xs xs ≡ true
same_bytes xs = (bytes_eq-Decides xs xs).1 refl

digest_read : (digest : List ℕ) → IsDigest digest → digest_of (encode_lower digest) ≡ Some digest
unfolding digest_of
digest_read digest is =
    ap (written_so (encode_lower digest)) (decode_sized-encode_lower digest 32 is.size is.bytes)
    ∙ ap (λ b. if b then Some digest else None) (same_bytes (encode_lower digest))

digest_is : (text digest : List ℕ) → digest_of text ≡ Some digest → (text ≡ encode_lower digest) × IsDigest digest
unfolding digest_of
digest_is text digest e = by (decode_sized text 32) refl e where
  so : (bytes : List ℕ) (b : Bool) → bytes_eq text (encode_lower bytes) ≡ b → decode_sized text 32 ≡ Ok bytes → (if b then Some bytes else None) ≡ Some digest
      → (text ≡ encode_lower digest) × IsDigest digest
  so bytes true same found e =
      let is : bytes ≡ digest = cc in
      let long = decode_sized-ok text 32 bytes found in
      let parts = decode_of-ok text bytes (sym (decode_sized-twice text 32 long) ∙ found) in
      let sized : length bytes ≡ 32 = omega (arith, long, parts.2) in
      (same_text text (encode_lower bytes) (sym same) ∙ ap encode_lower is, subst IsDigest is (record { size = sized; bytes = parts.3 }))
  so bytes false same found e = absurd cc

  by : (r : Result (List ℕ) FromHexError) → decode_sized text 32 ≡ r → written_so text r ≡ Some digest → (text ≡ encode_lower digest) × IsDigest digest
  by (Ok bytes) found e = so bytes (bytes_eq text (encode_lower bytes)) refl found e
  by (Err fault) found e = absurd cc

digest_found : (d : Data) (digest : List ℕ) → digest_from d ≡ Some digest → (d ≡ string (encode_lower digest)) × IsDigest digest
digest_found (string text) digest e = let is = digest_is text digest e in (ap string is.0, is.1)
digest_found d digest e = absurd cc

-- ---- the number of the format

format_is : (o : Option ℕ) (n : ℕ) → kept (λ number. number == 1) o ≡ Some n → o ≡ Some 1
format_is o n e = let is = kept_is (λ number. number == 1) o n e in is.0 ∙ ap Some (eqb-true n 1 is.1)

unsigned_is : (d : Data) (n : ℕ) → option_and_then as_u64 (as_number d) ≡ Some n → d ≡ number (unsigned n)
unsigned_is (number (unsigned m)) n e = let is : m ≡ n = cc in ap (λ n. number (unsigned n)) is
unsigned_is (number (negative z)) n e = absurd cc
unsigned_is (number (float x)) n e = absurd cc
unsigned_is d n e = absurd cc

-- ---- the header

pub header_found : (said : Data) (header : Header) → header_from said ≡ Some header → IsHeader said header
header_found said header e =
    let w = whole_found reader.header said header e in
    let base = step (codes "base") digest_from _ w.0 (header, no_members) w.2 in
    let format = step (codes "format") format_from _ base.rest (header, no_members) base.more in
    let tags = step (codes "tags") tags_from _ format.rest (header, no_members) format.more in
    let end = pure_is (header_of base.value tags.value) header tags.rest no_members tags.more in
    let base_is = digest_found base.found base.value base.read in
    let format_is = unsigned_is format.found 1 (format_is (option_and_then as_u64 (as_number format.found)) format.value format.read) in
    let kept = kept_is are_tags (texts_from tags.found) tags.value tags.read in
    let from_tags = follow tags.is (texts_found tags.found tags.value kept.0) end.1 in
    let from_format = follow format.is format_is from_tags in
    let from_base = follow base.is base_is.0 from_format in
    record {
      is = w.1 ∙ ap object from_base ∙ ap header_data end.0;
      digest = subst (λ (h : Header). IsDigest h.base_digest) end.0 base_is.1;
      tags = ap (λ (h : Header). are_tags h.tags) (sym end.0) ∙ kept.1;
    }

tags_read : (tags : List (List ℕ)) → are_tags tags ≡ true → tags_from (texts_data tags) ≡ Some tags
tags_read tags are = ap (kept are_tags) (texts_read tags) ∙ ap (λ b. if b then Some tags else None) are

object_read : (header : Header) → IsDigest header.base_digest → are_tags header.tags ≡ true → header_from (header_data header) ≡ Some header
unfolding part and_then
object_read header digest tags = rw (digest_read header.base_digest digest, texts_read header.tags, tags) refl

pub header_read : (said : Data) (header : Header) → IsHeader said header → header_from said ≡ Some header
header_read said header is = ap header_from is.is ∙ object_read header is.digest is.tags

-- ---- what a call that gives it says

pub header_is : (said : Data) (result : Result Header ObjectFault) → Gives (header_from said) result → IfOk result (λ header. IsHeader said header)
header_is said (Ok header) gives = header_found said header gives
header_is said (Err fault) gives = tt

pub no_header : (said : Data) (result : Result Header ObjectFault) → Gives (header_from said) result
    → IfErr result (λ fault. fault ≡ WrongForm → (header : Header) → IsHeader said header → ⊥)
no_header said (Ok header) gives = tt
no_header said (Err fault) gives = λ wrong header is. let clash = sym (gives wrong) ∙ header_read said header is in cc
