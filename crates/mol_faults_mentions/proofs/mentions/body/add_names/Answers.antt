use Rattle.std.proofs.Common.{refl}
use Rattle.mol_base.proofs.Added.{adds-more, adds-whole}
use Rattle.mol_faults_mentions.proofs.mentions.body.add_names.Goals as goal
use Rattle.mol_faults_mentions.specs.mentions.Parts.{names_mentions}
use Rattle.mol_table_rules.specs.Mentions.{maybe_mentions}
use Rattle.mol_values_types.specs.declared.iblock.IDeclarator.{IDeclarator}

pub loop-name-preserved : goal.loop-name-preserved
loop-name-preserved c =
    adds-more names_mentions (λ (declarator : IDeclarator). maybe_mentions declarator.init) refl (λ x rest. refl)
    c.args.names.now c.loop-name.name-index c.name-item.result _ _ _ c.loop-name-test.true c.name-item.is c.loop-name.invariant
    c.in_ok-add_maybe.ensures

pub returns : goal.returns
returns c =
    adds-whole names_mentions (λ (declarator : IDeclarator). maybe_mentions declarator.init) refl (λ x rest. refl)
    c.args.names.now c.loop-name.name-index _ _ c.loop-name-test.false c.loop-name.invariant
