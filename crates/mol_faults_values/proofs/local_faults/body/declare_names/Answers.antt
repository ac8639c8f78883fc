use Rattle.std.proofs.Common.{◌∙◌, refl, ap}
use Rattle.mol_faults_values.proofs.local_faults_lemmas.InTurn.{turn-more, turn-done, kept-own, kept-declared, kept-further}
use Rattle.mol_faults_values.proofs.local_faults.body.declare_names.Goals as goal
use Rattle.mol_spell_rules.specs.LocalClashes.{declaring, then_next}
use Rattle.mol_values_types.specs.declared.iblock.IDeclarator.{IDeclarator}

pub loop-declarator-init : goal.loop-declarator-init
loop-declarator-init c = record { scope = refl; kept = kept-own c.args.scope.now.in_scope }

pub loop-declarator-preserved : goal.loop-declarator-preserved
loop-declarator-preserved c =
    let before = c.loop-declarator.scope in
    let next = c.in_ok-declare.ensures ∙ ap (λ name. then_next before (declaring name)) c.as_str.ensures in
    record {
      scope = turn-more (λ (declarator : IDeclarator). declaring declarator.name) c.args.names.now c.loop-declarator.declarator-index
          c.declarator-item.result _ before _ c.loop-declarator-test.true c.declarator-item.is c.loop-declarator.invariant.scope next;
      kept = kept-further c.args.scope.now.in_scope before.in_scope _ c.loop-declarator.invariant.kept (kept-declared before _ _ next);
    }

pub returns-clause-scope : goal.returns-clause-scope
returns-clause-scope c =
    turn-done (λ (declarator : IDeclarator). declaring declarator.name) c.args.names.now c.loop-declarator.declarator-index _
    c.loop-declarator.scope c.loop-declarator-test.false c.loop-declarator.invariant.scope

pub returns-clause-kept : goal.returns-clause-kept
returns-clause-kept c = c.loop-declarator.invariant.kept
