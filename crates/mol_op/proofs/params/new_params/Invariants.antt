use Rattle.std.proofs.Common.{◌≡◌, drop}
use Rattle.mol_values_types.specs.declared.known.Known.TheVariants as knowns
use Rattle.mol_op.specs.Rows.{param_tests}
use Rattle.mol_op.specs.Tests.{makes, tests_fault}
use Rattle.mol_op.specs.Parts.{own-at}
use Rattle.mol_op.proofs.params.new_params.Given as goal

abbrev pub invariant-loop-at : goal.invariant-loop-at
invariant-loop-at l =
    tests_fault l.tag (own-at l.method l.entities l.params l.at) l.table.known (param_tests (makes (knowns.Param l.method)) (drop l.at l.params))
    ≡ tests_fault l.tag l.entities l.table.known (param_tests (makes (knowns.Param l.method)) l.params)
