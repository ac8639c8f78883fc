use Rattle.std.proofs.Common.{◌∙◌, refl, ap}
use Rattle.mol_faults_values.proofs.local_faults_lemmas.InTurn.{turn-more, turn-done}
use Rattle.mol_faults_values.proofs.local_faults.body.declare_params.Goals as goal
use Rattle.mol_spell_rules.specs.LocalClashes.{declaring, then_next}
use Rattle.mol_values_types.specs.declared.param.Param.{Param}

pub loop-param-init : goal.loop-param-init
loop-param-init c = refl

pub loop-param-preserved : goal.loop-param-preserved
loop-param-preserved c =
    turn-more (λ (param : Param). declaring param.name) c.args.params.now c.loop-param.param-index c.param-item.result _
    c.loop-param.scope _
    c.loop-param-test.true c.param-item.is c.loop-param.invariant
    (c.in_ok-declare.ensures ∙ ap (λ name. then_next c.loop-param.scope (declaring name)) c.as_str.ensures)

pub returns : goal.returns
returns c =
    turn-done (λ (param : Param). declaring param.name) c.args.params.now c.loop-param.param-index _ c.loop-param.scope
    c.loop-param-test.false c.loop-param.invariant
