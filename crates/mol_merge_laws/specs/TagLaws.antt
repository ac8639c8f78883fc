-- Two logs that share no tag.
use Rattle.std.specs.Prelude.{◌≡◌, ◌↔◌, ℕ, ◌+◌, ◌≤◌, List, ◌++◌, length, Contains, None, Some}
use Rattle.jav_names.specs.Choices.{IsLeast}
use Rattle.mol_base.specs.Limits.{most}
use Rattle.mol_base.specs.Order.{tag_cmp}
use Rattle.mol_base.specs.declared.limit.Which.TheVariants.{Operations}
use Rattle.mol_log.specs.LogForms.{IsLog}
use Rattle.mol_log.specs.declared.log.Log.{Log}
use Rattle.mol_log_rules.specs.Logs.{history}
use Rattle.mol_merge_rules.specs.TwoLogs.{lesser, greater, ShareNoTag, TagsDiffer, least_shared, IsMergedLog}
use Rattle.mol_spell_rules.specs.Sets.{as_set}

pub record LogsApart : Type 0 where
  -- no tag is shared where none is found, and one that is found is the least
  pub none : (one other : Log) → (least_shared one other ≡ None) ↔ ShareNoTag one other
  pub least : (one other : Log) (tag : List ℕ) → least_shared one other ≡ Some tag
      → IsLeast tag_cmp (λ tag. tag) (Contains other.tags) one.tags tag
  -- the one of two logs that goes first does not go by the order in which they are given
  pub lesser_turned : (one other : Log) → ShareNoTag one other → lesser other one ≡ lesser one other
  pub greater_turned : (one other : Log) → ShareNoTag one other → greater other one ≡ greater one other
  -- and their entries have different tags
  pub entries : (one other : Log) → ShareNoTag one other → TagsDiffer (history one) (history other)

pub record LogsMerge : Type 0 where
  -- two logs have a merged one, unless that has too many entries
  pub formed : (one other : Log) → ShareNoTag one other → length one.entries + length other.entries ≤ most Operations
      → ∥ IsLog (as_set tag_cmp (one.tags ++ other.tags)) (one.entries ++ other.entries) ∥₁
  -- which is one entry after another of both
  pub history : (one other merged : Log) → IsMergedLog one other merged → history merged ≡ history one ++ history other
