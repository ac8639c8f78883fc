use Rattle.std.proofs.Common.{◌≡◌, drop, take, length}
use Rattle.mol_faults_values.specs.local_faults.PartScopes.{names_scopes}
use Rattle.mol_faults_values.proofs.local_faults.body.declare_names.Given as goal
use Rattle.mol_spell_rules.specs.LocalClashes.{then_next}

abbrev pub invariant-loop-declarator : goal.invariant-loop-declarator
invariant-loop-declarator l = record {
  scope : then_next l.scope (names_scopes (drop l.declarator-index l.names)) ≡ then_next l.initial.scope (names_scopes l.names);
  kept : take (length l.initial.scope.in_scope) l.scope.in_scope ≡ l.initial.scope.in_scope;
}
