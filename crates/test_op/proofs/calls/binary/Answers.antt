use Rattle.test_op.proofs.Shapes.{binary_formed}
use Rattle.test_op.proofs.calls.binary.Goals as goal

pub returns : goal.returns
returns c = binary_formed c.args.operator c.args.left c.args.right c.requires.operator c.requires.left c.requires.right
