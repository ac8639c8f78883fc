use Rattle.test_op.proofs.Shapes.{call_formed, static_call_formed, super_call_formed, new_formed}
use Rattle.test_op.proofs.calls.call.Goals as goal

pub returns-in-Method : goal.returns-in-Method
returns-in-Method c = call_formed c.args.id c.args.arguments c.requires

pub returns-in-StaticMethod : goal.returns-in-StaticMethod
returns-in-StaticMethod c = static_call_formed c.args.id c.args.arguments c.requires

pub returns-in-SuperMethod : goal.returns-in-SuperMethod
returns-in-SuperMethod c = super_call_formed c.args.id c.args.arguments c.requires

pub returns-in-Constructor : goal.returns-in-Constructor
returns-in-Constructor c = new_formed c.args.id c.args.arguments c.requires
