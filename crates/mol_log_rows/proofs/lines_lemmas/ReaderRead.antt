-- What stands in an object is read as it was written.
use Rattle.std.proofs.Common.{◌≡◌, ℕ, ◌^◌, List, [], ◌∷◌, true, Option, Some, None, ap, refl, arith, option_map}
use Rattle.std.specs.Prelude.{nat_le, nat_lt}
use Rattle.std.proofs.lemmas.Bool.Decides.{nat_tests}
use Rattle.mol_base.specs.Identity.{IsId, IsStamp, spelled_id, spelled_stamp}
use Rattle.mol_base.specs.Spelled.{is_tag_or_base, is_tag, is_number, is_id, is_stamp, id_of, stamp_of}
use Rattle.mol_base.specs.declared.ident.Id.{Id}
use Rattle.mol_base.specs.declared.ident.Stamp.{Stamp}
use Rattle.mol_base.proofs.Spelled.{is_tag_or_base-from, is_tag-from, id_of-spelled, stamp_of-spelled}
use Rattle.mol_base.proofs.Tags.{both_true}
use Rattle.mol_log_rows.specs.lines.Objects.{text_items, maybe_texts}
use Rattle.mol_log_rows.specs.lines.Reader.{texts_in, text_before, maybe_from}

-- ---- identities and stamps

pub is_id-from : (id : Id) → is_id id ≡ true → IsId id
is_id-from id is =
    let tests = both_true (is_tag_or_base id.tag) (is_number id.num) is in
    let number = both_true (nat_le 1 id.num) (nat_lt id.num (2 ^ 32)) tests.1 in
    (is_tag_or_base-from id.tag tests.0, (grind (arith, nat_tests, number.0), grind (arith, nat_tests, number.1)))

pub is_stamp-from : (stamp : Stamp) → is_stamp stamp ≡ true → IsStamp stamp
is_stamp-from stamp is =
    let tests = both_true (is_tag stamp.tag) (is_number stamp.seq) is in
    let number = both_true (nat_le 1 stamp.seq) (nat_lt stamp.seq (2 ^ 32)) tests.1 in
    (is_tag-from stamp.tag tests.0, (grind (arith, nat_tests, number.0), grind (arith, nat_tests, number.1)))

pub id_read : (id : Id) → is_id id ≡ true → id_of (spelled_id id) ≡ Some id
id_read id is = id_of-spelled id (is_id-from id is)

pub stamp_read : (stamp : Stamp) → is_stamp stamp ≡ true → stamp_of (spelled_stamp stamp) ≡ Some stamp
stamp_read stamp is = stamp_of-spelled stamp (is_stamp-from stamp is)

-- ---- lists of texts

pub texts_read : (texts : List (List ℕ)) → texts_in (text_items texts) ≡ Some texts
unfolding texts_in
texts_read [] = refl
texts_read (text ∷ texts) = ap (text_before text) (texts_read texts)

pub maybe_read : (texts : Option (List (List ℕ))) → maybe_from (maybe_texts texts) ≡ Some texts
maybe_read None = refl
maybe_read (Some texts) = ap (option_map Some) (texts_read texts)
