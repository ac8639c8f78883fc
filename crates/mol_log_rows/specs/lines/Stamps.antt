-- Stamps, one after the other: those of one tag have ascending numbers.
use Rattle.std.specs.Prelude.{◌≡◌, ℕ, ◌<◌, Bool, ◌&&◌, nat_lt, if◌then◌else◌, List, [], ◌∷◌, length, slice_index, slice_index_or}
use Rattle.std.specs.List.{list_any}
use Rattle.std.specs.Str.{bytes_eq}
use Rattle.mol_base.specs.declared.ident.Stamp.{Stamp}
use Rattle.mol_log_rows.specs.declared.lines.stamps.LastNumbers.{LastNumbers}

-- the last number of a tag among stamps, the latest one first; 0 where it has none
abbrev pub last_number : List ℕ → List Stamp → ℕ
last_number tag [] = 0
last_number tag (stamp ∷ earlier) = if bytes_eq tag stamp.tag then stamp.seq else last_number tag earlier

-- a stamp may follow these: its tag is one of the tags, and its number is greater than the last one of its tag
abbrev pub may_follow : List (List ℕ) → List Stamp → Stamp → Bool
may_follow tags earlier stamp = list_any (bytes_eq stamp.tag) tags && nat_lt (last_number stamp.tag earlier) stamp.seq

-- what the code keeps are the last numbers of these tags among earlier stamps, each at the place of its tag
pub record Knows (kept : LastNumbers) (tags : List (List ℕ)) (earlier : List Stamp) : Type 0 where
  pub listed : kept.tags.now ≡ tags
  pub last : (k : ℕ) → k < length kept.tags.now → slice_index kept.numbers.items k ≡ last_number (slice_index_or kept.tags.now k []) earlier
