-- Worked lines, a header and stamps.
use Rattle.std.proofs.Common.{◌≡◌, ℕ, List, [], ◌∷◌, ◌++◌, true, false, Err, Some, codes, refl}
use Rattle.hex.specs.Hex.{encode_with}
use Rattle.serde_json.specs.Read.{read}
use Rattle.serde_json.proofs.OnLiterals.{serde_json_on_literals}
use Rattle.mol_base.specs.declared.ident.Stamp.{Stamp}
use Rattle.mol_log_rows.specs.lines.Headers.{header_data, are_tags}
use Rattle.mol_log_rows.specs.lines.Lines.{ended, torn, lines_of, counted_entries, line_data}
use Rattle.mol_log_rows.specs.lines.Stamps.{may_follow}
use Rattle.mol_log_rows.specs.declared.lines.fault.LogFault.TheVariants.{Torn}
use Rattle.mol_log_rows.specs.declared.lines.header.Header.{Header}

-- ---- lines

no_bytes : lines_of [] ≡ []
no_bytes = refl

-- nothing stands after the last LF
two_lines : lines_of (codes "ab" ++ 10 ∷ codes "c" ++ 10 ∷ []) ≡ ended (codes "ab") ∷ ended (codes "c") ∷ []
two_lines = refl

torn_line : lines_of (codes "ab" ++ 10 ∷ codes "c") ≡ ended (codes "ab") ∷ torn (codes "c") ∷ []
torn_line = refl

-- the first line is no entry
one_entry : counted_entries (codes "ab" ++ 10 ∷ codes "c" ++ 10 ∷ []) ≡ 1
one_entry = refl

torn_first : line_data 2 (torn (codes "c")) ≡ Err (Torn 2)
torn_first = refl

-- ---- a header

-- SHA-256 of `abc` (FIPS 180-4), in place of that of a base
digest : List ℕ
digest =
    0xba ∷ 0x78 ∷ 0x16 ∷ 0xbf ∷ 0x8f ∷ 0x01 ∷ 0xcf ∷ 0xea ∷ 0x41 ∷ 0x41 ∷ 0x40 ∷ 0xde ∷ 0x5d ∷ 0xae ∷ 0x22 ∷ 0x23
    ∷ 0xb0 ∷ 0x03 ∷ 0x61 ∷ 0xa3 ∷ 0x96 ∷ 0x17 ∷ 0x7a ∷ 0x9c ∷ 0xb4 ∷ 0x10 ∷ 0xff ∷ 0x61 ∷ 0xf2 ∷ 0x00 ∷ 0x15 ∷ 0xad ∷ []

header : Header
header = record { base_digest = digest; tags = codes "ann" ∷ codes "bob" ∷ [] }

header_read : read (codes "{\"tags\":[\"ann\", \"bob\"],\"format\":1,\"base\":\"ba7816bf8f01cfea414140de5dae2223b00361a396177a9cb410ff61f20015ad\"}") ≡ Some (header_data header)
unfolding header digest serde_json_on_literals encode_with
header_read = refl

tags_ascend : are_tags (codes "ann" ∷ codes "bob" ∷ []) ≡ true
tags_ascend = refl

tags_twice : are_tags (codes "ann" ∷ codes "ann" ∷ []) ≡ false
tags_twice = refl

no_tags : are_tags [] ≡ false
no_tags = refl

-- ---- stamps

ann : ℕ → Stamp
ann seq = record { tag = codes "ann"; seq = seq }

follows : may_follow (codes "ann" ∷ codes "bob" ∷ []) (ann 2 ∷ []) (ann 3) ≡ true
unfolding ann
follows = refl

-- no greater than the last one of its tag
repeats : may_follow (codes "ann" ∷ []) (ann 3 ∷ ann 1 ∷ []) (ann 3) ≡ false
unfolding ann
repeats = refl

foreign : may_follow (codes "bob" ∷ []) [] (ann 1) ≡ false
unfolding ann
foreign = refl
