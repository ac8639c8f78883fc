use Rattle.jav_lex.specs.Token.{all_seen}
use Rattle.jav_parse_cursor.specs.TypeRules.{whole_type}
use Rattle.jav_parse.proofs.TypeLanguage.{TypeWithin, reads_types}
use Rattle.jav_parse_unit.specs.declared.reading.Language.TheVariants as asked
use Rattle.jav_parse.proofs.Calls.{tree_clause, only_clause, bad_clause}
use Rattle.jav_parse.proofs.reading.parse_type.Goals as goal

pub returns-clause-tree : goal.returns-clause-tree
returns-clause-tree c = tree_clause TypeWithin asked.WholeType (λ l d. whole_type l) reads_types c.args.alloc (all_seen c.args.tokens.now) c.read_type.result c.read_type.ensures.read

pub returns-clause-only : goal.returns-clause-only
returns-clause-only c = only_clause TypeWithin asked.WholeType (λ l d. whole_type l) reads_types c.args.alloc (all_seen c.args.tokens.now) c.read_type.result c.read_type.ensures.read

pub returns-clause-bad : goal.returns-clause-bad
returns-clause-bad c = bad_clause TypeWithin asked.WholeType (λ l d. whole_type l) reads_types c.args.alloc (all_seen c.args.tokens.now) c.read_type.result c.read_type.ensures.read
