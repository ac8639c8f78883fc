-- The header: the object of a log's first line.
use Rattle.std.specs.Prelude.{◌≡◌, ℕ, Bool, true, false, ◌&&◌, List, [], ◌∷◌, length}
use Rattle.std.specs.List.{list_all}
use Rattle.std.specs.Ordering.{is_lt}
use Rattle.hex.specs.Hex.{encode_lower, IsBytes}
use Rattle.serde_json.specs.Data.{Data, string, number, unsigned}
use Rattle.mol_base.specs.Order.{tag_cmp}
use Rattle.mol_base.specs.Spelled.{is_tag}
use Rattle.mol_log_rows.specs.lines.Objects.{object_of, texts_data}
use Rattle.mol_log_rows.specs.declared.lines.header.Header.{Header}

-- the digest in 64 lower-case hexadecimal digits, the number of the format, and the tags
abbrev pub header_data : Header → Data
header_data header =
    object_of (("base", string (encode_lower header.base_digest)) ∷ ("format", number (unsigned 1)) ∷ ("tags", texts_data header.tags) ∷ [])

-- each tag is less than the next one, by bytes
abbrev pub ascend : List (List ℕ) → Bool
ascend [] = true
ascend (tag ∷ []) = true
ascend (tag ∷ next ∷ more) = is_lt (tag_cmp tag next) && ascend (next ∷ more)

abbrev pub some_tags : List (List ℕ) → Bool
some_tags [] = false
some_tags (tag ∷ more) = true

-- the tags of a header: at least one, strictly ascending
abbrev pub are_tags : List (List ℕ) → Bool
are_tags tags = some_tags tags && list_all is_tag tags && ascend tags

-- a digest has 32 bytes
pub record IsDigest (digest : List ℕ) : Type 0 where
  pub size : length digest ≡ 32
  pub bytes : IsBytes digest

-- the data is that of this header
pub record IsHeader («data» : Data) (header : Header) : Type 0 where
  pub is : «data» ≡ header_data header
  pub digest : IsDigest header.base_digest
  pub tags : are_tags header.tags ≡ true
