use Rattle.std.proofs.Common.{◌∙◌, sym, ap}
use Rattle.std.proofs.lemmas.Result.{on_ok_weaker}
use Rattle.mol_faults_values.proofs.local_faults_lemmas.InTurn.{stays, goes, kept-own}
use Rattle.mol_faults_values.proofs.local_faults.body.declare_start.Goals as goal
use Rattle.mol_faults_values.specs.local_faults.PartScopes.{names_scopes}
use Rattle.mol_spell_rules.specs.LocalClashes.{start_scopes}

pub returns-in-None-clause-scope : goal.returns-in-None-clause-scope
returns-in-None-clause-scope c = stays c.args.scope.now (start_scopes c.args.start.now) (ap start_scopes c.in-None.is)

pub returns-in-None-clause-kept : goal.returns-in-None-clause-kept
returns-in-None-clause-kept c = kept-own c.args.scope.now.in_scope

pub returns-in-Let-clause-scope : goal.returns-in-Let-clause-scope
returns-in-Let-clause-scope c =
    on_ok_weaker c.declare_names.result (goes c.args.scope.now _ _ (start_scopes c.args.start.now)
    (ap start_scopes c.in-Let.is ∙ ap names_scopes (sym c.items.ensures))) c.declare_names.ensures.scope

pub returns-in-Let-clause-kept : goal.returns-in-Let-clause-kept
returns-in-Let-clause-kept c = c.declare_names.ensures.kept

pub returns-in-Do-clause-scope : goal.returns-in-Do-clause-scope
returns-in-Do-clause-scope c = stays c.args.scope.now (start_scopes c.args.start.now) (ap start_scopes c.in-Do.is)

pub returns-in-Do-clause-kept : goal.returns-in-Do-clause-kept
returns-in-Do-clause-kept c = kept-own c.args.scope.now.in_scope
