use Rattle.std.proofs.Common.{◌∙◌, ◌++◌, sym, ap, filter_map}
use Rattle.std.specs.Option.{option_to_list}
use Rattle.std.proofs.lemmas.List.{take_all}
use Rattle.mol_scope_classes.proofs.classes_lemmas.KnownIds.{made-more}
use Rattle.mol_faults_mentions.specs.mentions.Kept.{kept_mention}
use Rattle.mol_faults_support.specs.Calls.{called_by}
use Rattle.mol_faults_support.proofs.calls.called_among.Goals as goal

pub loop-mention-preserved : goal.loop-mention-preserved
loop-mention-preserved c =
    c.in_ok-add_some.ensures
    ∙ (λ k. c.loop-mention.invariant k ++ ap option_to_list c.called_by.ensures k)
    ∙ sym (made-more (λ mention. called_by (kept_mention mention)) c.args.mentions.now c.loop-mention.mention-index c.mention-item.result
    c.loop-mention-test.true c.mention-item.is)

pub returns : goal.returns
returns c =
    c.loop-mention.invariant ∙ ap (filter_map (λ mention. called_by (kept_mention mention)))
    (take_all c.loop-mention.mention-index c.args.mentions.now c.loop-mention-test.false)
