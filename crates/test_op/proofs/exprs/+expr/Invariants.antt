use Rattle.std.proofs.Common.{◌≡◌, ◌+◌, ◌*◌, true}
use Rattle.std.specs.List.{list_all}
use Rattle.test_op.specs.Given.{is_argument}
use Rattle.test_op.proofs.exprs.+expr.Given as goal

abbrev pub decreases-expr_of : goal.decreases-expr_of
decreases-expr_of l = 3 * l.top

abbrev pub decreases-call_of : goal.decreases-call_of
decreases-call_of l = 3 * l.top + 2

abbrev pub decreases-call_on_of : goal.decreases-call_on_of
decreases-call_on_of l = 3 * l.top + 2

abbrev pub decreases-binary_of : goal.decreases-binary_of
decreases-binary_of l = 3 * l.top + 2

abbrev pub decreases-read_operand : goal.decreases-read_operand
decreases-read_operand l = 3 * l.top + 1

abbrev pub decreases-arguments_of : goal.decreases-arguments_of
decreases-arguments_of l = 3 * l.top + 1

abbrev pub invariant-arguments_of-loop-argument : goal.invariant-arguments_of-loop-argument
invariant-arguments_of-loop-argument l = list_all is_argument l.arguments ≡ true
