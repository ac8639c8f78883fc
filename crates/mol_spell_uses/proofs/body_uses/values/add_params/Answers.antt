use Rattle.std.proofs.Common.{refl}
use Rattle.mol_spell_uses.proofs.body_uses.values.add_params.Goals as goal
use Rattle.mol_spell_uses.specs.body_uses.PartUses.{declared_uses}
use Rattle.mol_resolve_rules.specs.Locals.{no_locals}
use Rattle.mol_spell_uses.proofs.uses_lemmas.Added.{adds-more, adds-none, adds-whole}
use Rattle.mol_values_types.specs.declared.param.Param.{Param}

pub loop-param-init : goal.loop-param-init
loop-param-init c = λ writer. adds-none c.args.uses.now _ refl

pub loop-param-preserved : goal.loop-param-preserved
loop-param-preserved c = λ writer.
    adds-more (λ (param : Param). declared_uses writer no_locals param.ty) c.args.params.now c.loop-param.param-index c.param-item.result
    _ _ _ c.loop-param-test.true c.param-item.is (c.loop-param.invariant writer)
    (c.in_ok-add_declared_type.ensures writer no_locals)

pub returns : goal.returns
returns c = λ writer.
    adds-whole (λ (param : Param). declared_uses writer no_locals param.ty) c.args.params.now c.loop-param.param-index _ _
    c.loop-param-test.false (c.loop-param.invariant writer)
