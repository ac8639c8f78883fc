-- The parts of the log of two.
use Rattle.std.proofs.Common.{◌≡◌, ◌≤◌, sym, subst, ℕ, List, ◌++◌, length, Contains}
use Rattle.std.proofs.lemmas.List.{length-append}
use Rattle.std.specs.List.Sorted.{IsStrictlySortedBy}
use Rattle.std.specs.Prelude.{◌↔◌}
use Rattle.mol_base.specs.Limits.{most}
use Rattle.mol_base.specs.Order.{tag_cmp}
use Rattle.mol_base.specs.declared.limit.Which.TheVariants.{Operations}
use Rattle.mol_log.specs.LogForms.{IsLog}
use Rattle.mol_log.specs.declared.entries.entry.Entry.{Entry}
use Rattle.mol_log.specs.declared.log.Log.{Log}
use Rattle.mol_merge_laws.proofs.Laws.{logs_merge}
use Rattle.mol_merge_laws.proofs.Tags.{tag_order}
use Rattle.mol_merge_rules.specs.TwoLogs.{ShareNoTag}
use Rattle.mol_spell_rules.proofs.SetItems.{set-is}
use Rattle.mol_spell_rules.specs.Sets.{as_set}

-- what has all tags, and ascends, is all tags in order
pub tags-are : (tags all ordered : List (List ℕ)) → all ≡ tags → IsStrictlySortedBy tag_cmp ordered
    → ((tag : List ℕ) → Contains ordered tag ↔ Contains all tag) → ordered ≡ as_set tag_cmp tags
tags-are tags all ordered is up alike =
    subst (λ (items : List (List ℕ)). ordered ≡ as_set tag_cmp items) is
    (sym (set-is tag_cmp tag_order all ordered up (λ tag. ((alike tag).1, (alike tag).0))))

-- with the entries of the one and then the other they are a log
pub log-formed : (one other : Log) (tags : List (List ℕ)) (entries : List Entry) → ShareNoTag one other
    → length (one.entries ++ other.entries) ≤ most Operations → tags ≡ as_set tag_cmp (one.tags ++ other.tags)
    → entries ≡ one.entries ++ other.entries → ∥ IsLog tags entries ∥₁
log-formed one other tags entries apart few tags_are entries_are =
    subst (λ (ts : List (List ℕ)). ∥ IsLog ts entries ∥₁) (sym tags_are)
    (subst (λ (es : List Entry). ∥ IsLog (as_set tag_cmp (one.tags ++ other.tags)) es ∥₁) (sym entries_are)
    (logs_merge.formed one other apart (subst (λ (n : ℕ). n ≤ most Operations) (length-append one.entries other.entries) few)))
