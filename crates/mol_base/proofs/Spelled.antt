-- The functions from bytes to identities and stamps invert the spellings.
use Rattle.std.proofs.Common.{◌≡◌, ℕ, ◌^◌, List, [], ◌∷◌, ◌++◌, length, Bool, true, false, Option, Some, None, IfSome, sym, ◌∙◌, ap, refl, arith, inl, inr}
use Rattle.std.specs.Prelude.{◌&&◌, ◌==◌, not, nat_eq, nat_le, nat_lt, if◌then◌else◌}
use Rattle.std.specs.Fmt.{decimal}
use Rattle.std.specs.List.{list_all}
use Rattle.std.specs.Cmp.Lexicographic.{pointwise, same_text}
use Rattle.std.proofs.lemmas.Bool.Decides.{nat_tests}
use Rattle.std.proofs.lemmas.Option.{none-some, same_Some}
use Rattle.std.proofs.lemmas.Fmt.{decimal_is_IsNumeral}
use Rattle.std.proofs.Math.Seq.{take-append_seam}
use Rattle.mol_base.specs.declared.ident.Id.{Id}
use Rattle.mol_base.specs.declared.ident.Stamp.{Stamp}
use Rattle.mol_base.specs.Identity.{IsId, IsStamp, spelled_id, spelled_stamp}
use Rattle.mol_base.specs.Number.{IsNumber}
use Rattle.mol_base.specs.Tag.{is_tag_byte, IsTag, IsTagOrBase}
use Rattle.mol_base.specs.Spelled.{is_tag_or_base, is_tag, is_number, before, number_after, cut_id, cut_stamp, is_id, is_stamp, id_of, stamp_of}
use Rattle.mol_base.proofs.Identities.{lacks_separator}
use Rattle.mol_base.proofs.Pieces.{position_or_len-front, drop_after}
use Rattle.mol_base.proofs.Tags.{both_true}

-- ---- tests

and_true : (a b : Bool) → a ≡ true → b ≡ true → (a && b) ≡ true
and_true a b p q = rw (p, q) refl

pub is_tag_or_base-to : (bytes : List ℕ) → IsTagOrBase bytes → is_tag_or_base bytes ≡ true
is_tag_or_base-to bytes is = and_true (nat_le (length bytes) 32) _ (grind (arith, nat_tests, is.0)) is.1

pub is_tag_or_base-from : (bytes : List ℕ) → is_tag_or_base bytes ≡ true → IsTagOrBase bytes
is_tag_or_base-from bytes is =
    let parts = both_true (nat_le (length bytes) 32) (list_all is_tag_byte bytes) is in
    (grind (arith, nat_tests, parts.0), parts.1)

pub is_tag-to : (bytes : List ℕ) → IsTag bytes → is_tag bytes ≡ true
is_tag-to bytes is = and_true (nat_lt 0 (length bytes)) _ (grind (arith, nat_tests, is.0)) (is_tag_or_base-to bytes is.1)

pub is_tag-from : (bytes : List ℕ) → is_tag bytes ≡ true → IsTag bytes
is_tag-from bytes is =
    let parts = both_true (nat_lt 0 (length bytes)) (is_tag_or_base bytes) is in
    (grind (arith, nat_tests, parts.0), is_tag_or_base-from bytes parts.1)

is_number-to : (n : ℕ) → IsNumber n → is_number n ≡ true
is_number-to n is = and_true (nat_le 1 n) _ (grind (arith, nat_tests, is.0)) (grind (arith, nat_tests, is.1))

is_number-from : (n : ℕ) → is_number n ≡ true → IsNumber n
is_number-from n is =
    let parts = both_true (nat_le 1 n) (nat_lt n (2 ^ 32)) is in
    (grind (arith, nat_tests, parts.0), grind (arith, nat_tests, parts.1))

-- ---- spellings are cut as they were joined

cut_tag : (separator : ℕ) (tag back : List ℕ) → list_all (λ b. not (b == separator)) tag ≡ true → before separator (tag ++ separator ∷ back) ≡ tag
cut_tag separator tag back lacks = rw (position_or_len-front separator tag back lacks) (take-append_seam tag (separator ∷ back))

cut_number : (separator : ℕ) (tag : List ℕ) (n : ℕ) → list_all (λ b. not (b == separator)) tag ≡ true → IsNumber n → number_after separator (tag ++ separator ∷ decimal n) ≡ n
cut_number separator tag n lacks is =
    rw (position_or_len-front separator tag (decimal n) lacks, drop_after separator tag (decimal n)) (decimal_is_IsNumeral n (omega (arith, is.1))).1

cut-spelled_id : (id : Id) → IsId id → cut_id (spelled_id id) ≡ id
cut-spelled_id id is =
    let lacks = lacks_separator id.tag 58 is.0.1 (inl refl) in
    let tag = cut_tag 58 id.tag (decimal id.num) lacks in
    let num = cut_number 58 id.tag id.num lacks is.1 in
    λ i. record { tag = tag i; num = num i }

cut-spelled_stamp : (stamp : Stamp) → IsStamp stamp → cut_stamp (spelled_stamp stamp) ≡ stamp
cut-spelled_stamp stamp is =
    let lacks = lacks_separator stamp.tag 64 is.0.1.1 (inr refl) in
    let tag = cut_tag 64 stamp.tag (decimal stamp.seq) lacks in
    let seq = cut_number 64 stamp.tag stamp.seq lacks is.1 in
    λ i. record { tag = tag i; seq = seq i }

-- ---- a value that is kept where it passes a test and is spelled by the bytes

same_bytes : (xs : List ℕ) → pointwise nat_eq xs xs ≡ true
same_bytes [] = refl
same_bytes (x ∷ xs) = and_true (nat_eq x x) _ (grind (arith, nat_tests)) (same_bytes xs)

kept : {X : Type 0} (passes same : Bool) (x y : X) → (if passes && same then Some x else None) ≡ Some y → (passes ≡ true) × (same ≡ true) × (x ≡ y)
kept true true x y e = (refl, refl, same_Some x y e)
kept true false x y e = absurd (none-some y e)
kept false same x y e = absurd (none-some y e)

keeps : {X : Type 0} (passes same : Bool) (x y : X) → passes ≡ true → same ≡ true → x ≡ y → (if passes && same then Some x else None) ≡ Some y
keeps passes same x y p s e = rw (p, s) (ap Some e)

pub id_of-spelled : (id : Id) → IsId id → id_of (spelled_id id) ≡ Some id
unfolding id_of
id_of-spelled id is =
    let cut = cut-spelled_id id is in
    keeps _ _ _ id (ap is_id cut ∙ and_true (is_tag_or_base id.tag) _ (is_tag_or_base-to id.tag is.0) (is_number-to id.num is.1)) (ap (λ x. pointwise nat_eq (spelled_id x) (spelled_id id)) cut ∙ same_bytes (spelled_id id)) cut

pub id_of-some : (bytes : List ℕ) (id : Id) → id_of bytes ≡ Some id → IsId id × (spelled_id id ≡ bytes)
unfolding id_of
id_of-some bytes id e =
    let parts = kept (is_id (cut_id bytes)) (pointwise nat_eq (spelled_id (cut_id bytes)) bytes) (cut_id bytes) id e in
    let tests = both_true (is_tag_or_base id.tag) (is_number id.num) (ap is_id (sym parts.2) ∙ parts.0) in
    ((is_tag_or_base-from id.tag tests.0, is_number-from id.num tests.1), ap spelled_id (sym parts.2) ∙ same_text _ _ (sym parts.1))

pub stamp_of-spelled : (stamp : Stamp) → IsStamp stamp → stamp_of (spelled_stamp stamp) ≡ Some stamp
unfolding stamp_of
stamp_of-spelled stamp is =
    let cut = cut-spelled_stamp stamp is in
    keeps _ _ _ stamp (ap is_stamp cut ∙ and_true (is_tag stamp.tag) _ (is_tag-to stamp.tag is.0) (is_number-to stamp.seq is.1)) (ap (λ x. pointwise nat_eq (spelled_stamp x) (spelled_stamp stamp)) cut ∙ same_bytes (spelled_stamp stamp)) cut

pub stamp_of-some : (bytes : List ℕ) (stamp : Stamp) → stamp_of bytes ≡ Some stamp → IsStamp stamp × (spelled_stamp stamp ≡ bytes)
unfolding stamp_of
stamp_of-some bytes stamp e =
    let parts = kept (is_stamp (cut_stamp bytes)) (pointwise nat_eq (spelled_stamp (cut_stamp bytes)) bytes) (cut_stamp bytes) stamp e in
    let tests = both_true (is_tag stamp.tag) (is_number stamp.seq) (ap is_stamp (sym parts.2) ∙ parts.0) in
    ((is_tag-from stamp.tag tests.0, is_number-from stamp.seq tests.1), ap spelled_stamp (sym parts.2) ∙ same_text _ _ (sym parts.1))

-- ---- what is parsed by the clauses of `parse` is this function's value

same_option : {X : Type 0} (a b : Option X) → ((x : X) → a ≡ Some x → b ≡ Some x) → ((x : X) → b ≡ Some x → a ≡ Some x) → a ≡ b
same_option None None to from = refl
same_option None (Some x) to from = from x refl
same_option (Some x) b to from = sym (to x refl)

pub id_of-parse : (bytes : List ℕ) (result : Option Id) → IfSome result (λ id. IsId id × (spelled_id id ≡ bytes)) → ((id : Id) → IsId id → spelled_id id ≡ bytes → result ≡ Some id) → result ≡ id_of bytes
id_of-parse bytes result spells only = same_option result (id_of bytes)
    (λ id e. let is : IsId id × (spelled_id id ≡ bytes) = rw e at spells in ap id_of (sym is.1) ∙ id_of-spelled id is.0)
    (λ id e. let is = id_of-some bytes id e in only id is.0 is.1)

pub stamp_of-parse : (bytes : List ℕ) (result : Option Stamp) → IfSome result (λ stamp. IsStamp stamp × (spelled_stamp stamp ≡ bytes)) → ((stamp : Stamp) → IsStamp stamp → spelled_stamp stamp ≡ bytes → result ≡ Some stamp) → result ≡ stamp_of bytes
stamp_of-parse bytes result spells only = same_option result (stamp_of bytes)
    (λ stamp e. let is : IsStamp stamp × (spelled_stamp stamp ≡ bytes) = rw e at spells in ap stamp_of (sym is.1) ∙ stamp_of-spelled stamp is.0)
    (λ stamp e. let is = stamp_of-some bytes stamp e in only stamp is.0 is.1)
