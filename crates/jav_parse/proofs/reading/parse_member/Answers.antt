use Rattle.jav_lex.specs.Token.{all_seen}
use Rattle.jav_tree.specs.Trees.{IsMember}
use Rattle.jav_parse_unit.specs.WholeRules.{declaration}
use Rattle.jav_parse.proofs.CompleteWhole.{whole_member}
use Rattle.jav_parse.proofs.TreeLanguages.{reads_members}
use Rattle.jav_parse_unit.specs.declared.reading.Language.TheVariants as asked
use Rattle.jav_parse.proofs.Calls.{tree_clause, only_clause, bad_clause}
use Rattle.jav_parse.proofs.reading.parse_member.Goals as goal

pub returns-clause-tree : goal.returns-clause-tree
returns-clause-tree c = tree_clause IsMember asked.Member declaration (reads_members whole_member) c.args.alloc (all_seen c.args.tokens.now) c.read_member.result c.read_member.ensures.read

pub returns-clause-only : goal.returns-clause-only
returns-clause-only c = only_clause IsMember asked.Member declaration (reads_members whole_member) c.args.alloc (all_seen c.args.tokens.now) c.read_member.result c.read_member.ensures.read

pub returns-clause-bad : goal.returns-clause-bad
returns-clause-bad c = bad_clause IsMember asked.Member declaration (reads_members whole_member) c.args.alloc (all_seen c.args.tokens.now) c.read_member.result c.read_member.ensures.read
