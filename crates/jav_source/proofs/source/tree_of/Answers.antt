use Rattle.std.proofs.Common.{refl}
use Rattle.jav_lex.specs.Token.{all_seen}
use Rattle.jav_source.proofs.Reading.{tree_found, tree_missing, tree_refused}
use Rattle.jav_source.proofs.source.tree_of.Goals as goal

pub returns-in-Ok-clause-only : goal.returns-in-Ok-clause-only
returns-in-Ok-clause-only c = tree_found (all_seen c.args.tokens.now) c.in-Ok.unit c.in-Ok.ensures.only

pub returns-in-Err-clause-only : goal.returns-in-Err-clause-only
returns-in-Err-clause-only c = rw c.of_syntax.ensures (tree_missing (all_seen c.args.tokens.now) c.in-Err.fault c.in-Err.ensures.only)

pub returns-in-Err-clause-fault : goal.returns-in-Err-clause-fault
returns-in-Err-clause-fault c = rw c.of_syntax.ensures (tree_refused (all_seen c.args.tokens.now) c.in-Err.fault (c.in-Err.ensures.bad c.in-Err.fault refl))
