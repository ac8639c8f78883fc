use Rattle.std.proofs.Common.{◌∙◌, ap}
use Rattle.std.specs.Prelude.{option_copied}
use Rattle.mol_faults_values.proofs.local_faults.clashing.clashes_of.Goals as goal
use Rattle.mol_faults_values.specs.local_faults.Clashing.{body_scopes}
use Rattle.mol_faults_values.specs.local_faults.PartScopes.{params_scopes}
use Rattle.mol_spell_rules.specs.LocalClashes.{Scoped, then_next}

pub returns : goal.returns
returns c =
    c.into_clashes.ensures
    ∙ ap (λ (scope : Scoped). scope.clashes)
    (c.in_ok-declare_body.ensures
    ∙ ap (λ (scope : Scoped). then_next scope (body_scopes (option_copied c.args.body)))
    (c.in_ok-declare_params.ensures
    ∙ ap (λ (scope : Scoped). then_next scope (params_scopes c.args.params.now)) c.new-scope.ensures))
