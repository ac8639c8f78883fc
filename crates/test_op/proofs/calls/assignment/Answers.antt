use Rattle.std.specs.Prelude.{codes}
use Rattle.std.proofs.Common.{refl}
use Rattle.test_op.proofs.Shapes.{assign_statement}
use Rattle.test_op.proofs.calls.assignment.Goals as goal

pub returns : goal.returns
returns c =
    rw (c.in_ok-operator.ensures, c.in_ok-target.ensures)
    (assign_statement (codes "=") c.args.field c.args.value refl c.requires)
