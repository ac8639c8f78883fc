use Rattle.std.proofs.Common.{refl}
use Rattle.std.specs.List.{flat_map}
use Rattle.mol_base.proofs.Added.{adds-more, adds-whole}
use Rattle.mol_faults_mentions.proofs.mentions.value.add_params.Goals as goal
use Rattle.mol_table_rules.specs.Mentions.{param_mentions}

pub loop-param-preserved : goal.loop-param-preserved
loop-param-preserved c =
    adds-more (flat_map param_mentions) param_mentions refl (λ x rest. refl)
    c.args.params.now c.loop-param.param-index c.param-item.result _ _ _ c.loop-param-test.true c.param-item.is c.loop-param.invariant
    c.in_ok-add_param.ensures

pub returns : goal.returns
returns c =
    adds-whole (flat_map param_mentions) param_mentions refl (λ x rest. refl)
    c.args.params.now c.loop-param.param-index _ _ c.loop-param-test.false c.loop-param.invariant
