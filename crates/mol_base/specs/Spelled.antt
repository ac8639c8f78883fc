-- Identities and stamps as functions of the bytes that spell them.
use Rattle.std.specs.Prelude.{ℕ, ◌+◌, ◌^◌, Bool, ◌&&◌, ◌==◌, nat_eq, nat_le, nat_lt, if◌then◌else◌, List, length, take, drop, Option, Some, None}
use Rattle.std.specs.List.{list_all, position_or_len}
use Rattle.std.specs.Str.Parse.{digits_value}
use Rattle.std.specs.Cmp.Lexicographic.{pointwise}
use Rattle.mol_base.specs.declared.ident.Id.{Id}
use Rattle.mol_base.specs.declared.ident.Stamp.{Stamp}
use Rattle.mol_base.specs.Identity.{spelled_id, spelled_stamp}
use Rattle.mol_base.specs.Tag.{is_tag_byte}

-- `IsTagOrBase`, `IsTag` and `IsNumber` as tests
abbrev pub is_tag_or_base : List ℕ → Bool
is_tag_or_base bytes = nat_le (length bytes) 32 && list_all is_tag_byte bytes

abbrev pub is_tag : List ℕ → Bool
is_tag bytes = nat_lt 0 (length bytes) && is_tag_or_base bytes

abbrev pub is_number : ℕ → Bool
is_number n = nat_le 1 n && nat_lt n (2 ^ 32)

-- the bytes, where they are a tag
abbrev pub tag_of : List ℕ → Option (List ℕ)
tag_of bytes = if is_tag bytes then Some bytes else None

-- the bytes before the first separator, and the number after it
abbrev pub before : ℕ → List ℕ → List ℕ
before separator bytes = take (position_or_len (λ b. b == separator) bytes) bytes

abbrev pub number_after : ℕ → List ℕ → ℕ
number_after separator bytes = digits_value 10 (drop (position_or_len (λ b. b == separator) bytes + 1) bytes)

abbrev pub cut_id : List ℕ → Id
cut_id bytes = record { tag = before 58 bytes; num = number_after 58 bytes }

abbrev pub cut_stamp : List ℕ → Stamp
cut_stamp bytes = record { tag = before 64 bytes; seq = number_after 64 bytes }

abbrev pub is_id : Id → Bool
is_id id = is_tag_or_base id.tag && is_number id.num

abbrev pub is_stamp : Stamp → Bool
is_stamp stamp = is_tag stamp.tag && is_number stamp.seq

-- the identity that bytes spell: what they are cut into, where that is one and is spelled by these bytes
unfoldable pub id_of : List ℕ → Option Id
id_of bytes = if is_id (cut_id bytes) && pointwise nat_eq (spelled_id (cut_id bytes)) bytes then Some (cut_id bytes) else None

-- the stamp that bytes spell, likewise
unfoldable pub stamp_of : List ℕ → Option Stamp
stamp_of bytes = if is_stamp (cut_stamp bytes) && pointwise nat_eq (spelled_stamp (cut_stamp bytes)) bytes then Some (cut_stamp bytes) else None
