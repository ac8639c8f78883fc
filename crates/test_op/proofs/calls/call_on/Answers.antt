use Rattle.test_op.proofs.Shapes.{call_on_formed, call_on_statement}
use Rattle.test_op.proofs.calls.call_on.Goals as goal

pub returns-clause-value : goal.returns-clause-value
returns-clause-value c = call_on_formed c.args.method c.args.receiver c.args.arguments c.requires.receiver c.requires.arguments

pub returns-clause-statement : goal.returns-clause-statement
returns-clause-statement c = call_on_statement c.args.method c.args.receiver c.args.arguments c.requires.receiver c.requires.arguments
