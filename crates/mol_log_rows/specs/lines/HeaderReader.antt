-- How a header is read.
use Rattle.std.specs.Prelude.{ℕ, ◌==◌, if◌then◌else◌, List, codes, Option, None, Some, Result, Ok, Err, option_and_then}
use Rattle.std.specs.Str.{bytes_eq}
use Rattle.hex.specs.Hex.{encode_lower, decode_sized}
use Rattle.hex.specs.declared.error.FromHexError.{FromHexError}
use Rattle.serde_json.specs.Data.{Data}
use Rattle.serde_json.specs.Find.{as_str, as_number, as_u64}
use Rattle.mol_log_rows.specs.lines.Headers.{are_tags}
use Rattle.mol_log_rows.specs.lines.Reader.{Reader, ◌>>=◌, pure, part, kept, object_from, texts_from}
use Rattle.mol_log_rows.specs.declared.lines.header.Header.{Header}

-- the bytes, where these are their lower-case digits
abbrev pub written_so : List ℕ → Result (List ℕ) FromHexError → Option (List ℕ)
written_so text (Ok bytes) = if bytes_eq text (encode_lower bytes) then Some bytes else None
written_so text (Err fault) = None

unfoldable pub digest_of : List ℕ → Option (List ℕ)
digest_of text = written_so text (decode_sized text 32)

abbrev pub digest_from : Data → Option (List ℕ)
digest_from d = option_and_then digest_of (as_str d)

-- the number of the format
abbrev pub format_from : Data → Option ℕ
format_from d = kept (λ number. number == 1) (option_and_then as_u64 (as_number d))

abbrev pub tags_from : Data → Option (List (List ℕ))
tags_from d = kept are_tags (texts_from d)

abbrev pub header_of : List ℕ → List (List ℕ) → Header
header_of digest tags = record { base_digest = digest; tags = tags }

abbrev pub header : Reader Header
header = do
  digest ← part (codes "base") digest_from
  format ← part (codes "format") format_from
  tags ← part (codes "tags") tags_from
  pure (header_of digest tags)

-- the header that the data is the object of
abbrev pub header_from : Data → Option Header
header_from d = object_from header d
