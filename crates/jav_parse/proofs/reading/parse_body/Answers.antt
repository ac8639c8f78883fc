use Rattle.jav_lex.specs.Token.{all_seen}
use Rattle.jav_tree.specs.Trees.{IsBody}
use Rattle.jav_parse_unit.specs.WholeRules.{body}
use Rattle.jav_parse.proofs.CompleteWhole.{whole_body}
use Rattle.jav_parse.proofs.TreeLanguages.{reads_bodies}
use Rattle.jav_parse_unit.specs.declared.reading.Language.TheVariants as asked
use Rattle.jav_parse.proofs.Calls.{tree_clause, only_clause, bad_clause}
use Rattle.jav_parse.proofs.reading.parse_body.Goals as goal

pub returns-clause-tree : goal.returns-clause-tree
returns-clause-tree c = tree_clause IsBody asked.Body body (reads_bodies whole_body) c.args.alloc (all_seen c.args.tokens.now) c.read_body.result c.read_body.ensures.read

pub returns-clause-only : goal.returns-clause-only
returns-clause-only c = only_clause IsBody asked.Body body (reads_bodies whole_body) c.args.alloc (all_seen c.args.tokens.now) c.read_body.result c.read_body.ensures.read

pub returns-clause-bad : goal.returns-clause-bad
returns-clause-bad c = bad_clause IsBody asked.Body body (reads_bodies whole_body) c.args.alloc (all_seen c.args.tokens.now) c.read_body.result c.read_body.ensures.read
