use Rattle.std.proofs.Common.{◌∙◌, ◌++◌, sym, ap, filter_map}
use Rattle.std.specs.Option.{option_to_list}
use Rattle.std.proofs.lemmas.List.{take_all}
use Rattle.mol_scope_classes.proofs.classes_lemmas.KnownIds.{made-more}
use Rattle.mol_faults_rules.specs.Met.{kept_met}
use Rattle.mol_faults_support.specs.Met.{entity_of}
use Rattle.mol_faults_support.proofs.misread.entities_of.Goals as goal

pub loop-target-preserved : goal.loop-target-preserved
loop-target-preserved c =
    c.in_ok-add_some.ensures
    ∙ (λ k. c.loop-target.invariant k ++ ap option_to_list c.entity_of.ensures k)
    ∙ sym (made-more (λ target. entity_of c.args.table.now (kept_met target)) c.args.met.now c.loop-target.target-index c.target-item.result
    c.loop-target-test.true c.target-item.is)

pub returns : goal.returns
returns c =
    c.loop-target.invariant ∙ ap (filter_map (λ target. entity_of c.args.table.now (kept_met target)))
    (take_all c.loop-target.target-index c.args.met.now c.loop-target-test.false)
