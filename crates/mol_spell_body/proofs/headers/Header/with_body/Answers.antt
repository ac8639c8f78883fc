use Rattle.std.proofs.Common.{sym, ap}
use Rattle.mol_spell_body.proofs.headers.Header.with_body.Goals as goal
use Rattle.mol_spell_body.specs.Loops.{loop_node}

pub returns-in-While : goal.returns-in-While
returns-in-While c = sym (ap (λ header. loop_node (header, c.args.body)) c.in-While.is)

pub returns-in-For : goal.returns-in-For
returns-in-For c = sym (ap (λ header. loop_node (header, c.args.body)) c.in-For.is)

pub returns-in-Each : goal.returns-in-Each
returns-in-Each c = sym (ap (λ header. loop_node (header, c.args.body)) c.in-Each.is)
