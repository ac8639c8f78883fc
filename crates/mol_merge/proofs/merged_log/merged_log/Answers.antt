use Rattle.std.proofs.Common.{◌∙◌, ◌++◌}
use Rattle.mol_base.specs.Order.{tag_cmp}
use Rattle.mol_merge.proofs.MergedParts.{log-formed}
use Rattle.mol_merge.proofs.merged_log.merged_log.Goals as goal
use Rattle.mol_spell_rules.specs.Sets.{as_set}

pub invariant_of-result : goal.invariant_of-result
invariant_of-result c =
    let tags = c.in_ok-tags.ensures ∙ (λ i. as_set tag_cmp (c.items.ensures i ++ c.items-2.ensures i)) in
    let entries = c.in_ok-entries.ensures ∙ (λ i. c.items-3.ensures i ++ c.items-4.ensures i) in
    record {
      formed = log-formed c.args.one.now c.args.other.now c.in_ok-tags.tags c.in_ok-entries.entries c.requires.apart c.requires.few tags
          entries;
    }
