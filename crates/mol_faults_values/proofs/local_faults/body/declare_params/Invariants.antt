use Rattle.std.proofs.Common.{◌≡◌, drop}
use Rattle.mol_faults_values.specs.local_faults.PartScopes.{params_scopes}
use Rattle.mol_faults_values.proofs.local_faults.body.declare_params.Given as goal
use Rattle.mol_spell_rules.specs.LocalClashes.{then_next}

abbrev pub invariant-loop-param : goal.invariant-loop-param
invariant-loop-param l =
    then_next l.scope (params_scopes (drop l.param-index l.params)) ≡ then_next l.initial.scope (params_scopes l.params)
