use Rattle.std.proofs.Common.{◌≡◌}
use Rattle.mol_resolve_rules.specs.ReadTrees.{with_params}
use Rattle.mol_resolve_names.proofs.accesses.arguments.with_params.Given as goal

abbrev pub invariant-loop-value : goal.invariant-loop-value
invariant-loop-value l = l.args ≡ with_params l.params l.yielded
