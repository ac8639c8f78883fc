-- Two logs: which goes first, whether they share a tag, and the log of both.
use Rattle.std.specs.List.{AllByRecursion, find, list_any}
use Rattle.std.specs.Ordering.{is_lt}
use Rattle.std.specs.Prelude.{◌≡◌, ◌≢◌, ℕ, Bool, List, [], ◌∷◌, ◌++◌, Option, Contains, if◌then◌else◌}
use Rattle.std.specs.Str.{bytes_eq}
use Rattle.mol_base.specs.Order.{tag_cmp}
use Rattle.mol_log.specs.declared.log.Log.{Log}
use Rattle.mol_log_rules.specs.Histories.{Stamped, History}
use Rattle.mol_spell_rules.specs.Sets.{as_set}

-- the first tag of a log: each has at least one
abbrev pub first_tag : Log → List ℕ
first_tag log = first_of log.tags where
  first_of : List (List ℕ) → List ℕ
  first_of [] = []
  first_of (tag ∷ tags) = tag

-- the first tag of one log is less than that of the other
abbrev pub comes_first : Log → Log → Bool
comes_first one other = is_lt (tag_cmp (first_tag one) (first_tag other))

-- The log of the lesser first tag, and the other. Where the two share no tag, these are the same two in whichever order the logs are given.
abbrev pub lesser : Log → Log → Log
lesser one other = if comes_first one other then one else other

abbrev pub greater : Log → Log → Log
greater one other = if comes_first one other then other else one

-- ---- shared tags

-- no tag is in the headers of both, though it may have no entry
abbrev pub ShareNoTag : Log → Log → Type 0
ShareNoTag one other = (tag : List ℕ) → Contains one.tags tag → ¬ (Contains other.tags tag)

-- the least tag that is in both, as tags of a log ascend
abbrev pub least_shared : Log → Log → Option (List ℕ)
least_shared one other = find (λ tag. list_any (bytes_eq tag) other.tags) one.tags

-- no two entries, one of each history, have one tag
abbrev pub TagsDiffer : History → History → Type 0
TagsDiffer one other =
    AllByRecursion (λ (first : Stamped). AllByRecursion (λ (second : Stamped). first.stamp.tag ≢ second.stamp.tag) other) one

-- ---- the merged log

-- The log of two: the digest of the one, which is the other's too where both are logs of one base, all tags in order, and the entries of
-- the one before those of the other.
pub record IsMergedLog (one other merged : Log) : Type 0 where
  pub digest : merged.base_digest ≡ one.base_digest
  pub tags : merged.tags ≡ as_set tag_cmp (one.tags ++ other.tags)
  pub entries : merged.entries ≡ one.entries ++ other.entries
