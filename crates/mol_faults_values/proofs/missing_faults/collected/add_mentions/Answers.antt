use Rattle.std.proofs.Common.{List, map, refl}
use Rattle.mol_faults_mentions.specs.mentions.Kept.{kept_mention}
use Rattle.mol_faults_mentions.specs.declared.mentions.mention.Mention.{Mention}
use Rattle.mol_faults_values.proofs.missing_faults.collected.add_mentions.Goals as goal
use Rattle.mol_faults_values.specs.missing_faults.Gone.{gone_among, gone_by}
use Rattle.mol_base.proofs.Added.{adds-more, adds-whole}

pub loop-mention-preserved : goal.loop-mention-preserved
loop-mention-preserved c =
    adds-more (λ (mentions : List Mention). gone_among c.args.table.now c.args.at.now (map kept_mention mentions))
    (λ mention. gone_by c.args.table.now c.args.at.now (kept_mention mention)) refl (λ x rest. refl) c.args.mentions.now
    c.loop-mention.mention-index c.mention-item.result _ _ _ c.loop-mention-test.true c.mention-item.is c.loop-mention.invariant
    c.in_ok-add_mention.ensures

pub returns : goal.returns
returns c =
    adds-whole (λ (mentions : List Mention). gone_among c.args.table.now c.args.at.now (map kept_mention mentions))
    (λ mention. gone_by c.args.table.now c.args.at.now (kept_mention mention)) refl (λ x rest. refl) c.args.mentions.now
    c.loop-mention.mention-index _ _ c.loop-mention-test.false c.loop-mention.invariant
