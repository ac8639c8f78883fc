use Rattle.std.proofs.Common.{◌≡◌, drop, []}
use Rattle.mol_op.specs.Rows.{param_tests}
use Rattle.mol_op.specs.Tests.{lists, tests_fault}
use Rattle.mol_op.specs.Parts.{own-at}
use Rattle.mol_op.proofs.params.known_params.Given as goal

abbrev pub invariant-loop-at : goal.invariant-loop-at
invariant-loop-at l =
    tests_fault l.tag (own-at l.method [] l.params l.at) l.table.known (param_tests (lists l.method) (drop l.at l.params))
    ≡ tests_fault l.tag [] l.table.known (param_tests (lists l.method) l.params)
