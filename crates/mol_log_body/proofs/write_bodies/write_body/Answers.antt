use Rattle.std.proofs.Common.{arith, rules}
use Rattle.std.proofs.lemmas.Grind.{common_steps}
use Rattle.mol_log_body.proofs.WrittenBodies.{form_of}
use Rattle.mol_log_body.proofs.write_bodies.write_body.Goals as goal

pub returns-clause-form : goal.returns-clause-form
returns-clause-form c = form_of c.args.body.now _ (first_of (search rules, grind (arith, common_steps)))
