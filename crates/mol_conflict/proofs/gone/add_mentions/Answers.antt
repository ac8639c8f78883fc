use Rattle.std.proofs.Common.{List, map, refl}
use Rattle.mol_base.proofs.Added.{adds-more, adds-whole}
use Rattle.mol_conflict.proofs.gone.add_mentions.Goals as goal
use Rattle.mol_conflict.specs.Found.{used_among, used_by}
use Rattle.mol_faults_mentions.specs.declared.mentions.mention.Mention.{Mention}
use Rattle.mol_faults_mentions.specs.mentions.Kept.{kept_mention}

pub loop-mention-preserved : goal.loop-mention-preserved
loop-mention-preserved c =
    let base = c.args.programs.now.base.now in
    let gone = c.args.programs.now.gone.now in
    let other = c.args.programs.now.other.now in
    adds-more
    (λ (mentions : List Mention). used_among base gone other c.args.at.now (map kept_mention mentions))
    (λ mention. used_by base gone other c.args.at.now (kept_mention mention))
    refl (λ x rest. refl) c.args.mentions.now c.loop-mention.mention-index c.mention-item.result _ _ _ c.loop-mention-test.true
    c.mention-item.is c.loop-mention.invariant c.in_ok-add_mention.ensures

pub returns : goal.returns
returns c =
    let base = c.args.programs.now.base.now in
    let gone = c.args.programs.now.gone.now in
    let other = c.args.programs.now.other.now in
    adds-whole
    (λ (mentions : List Mention). used_among base gone other c.args.at.now (map kept_mention mentions))
    (λ mention. used_by base gone other c.args.at.now (kept_mention mention))
    refl (λ x rest. refl) c.args.mentions.now c.loop-mention.mention-index _ _ c.loop-mention-test.false c.loop-mention.invariant
