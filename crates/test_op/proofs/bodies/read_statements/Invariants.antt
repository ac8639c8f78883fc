use Rattle.std.proofs.Common.{◌≡◌, true}
use Rattle.test_op.specs.Given.{are_a_body}
use Rattle.test_op.proofs.bodies.read_statements.Given as goal

abbrev pub invariant-loop-statement : goal.invariant-loop-statement
invariant-loop-statement l = are_a_body l.items ≡ true
