use Rattle.jav_lex.specs.Token.{all_seen}
use Rattle.jav_parse.proofs.CompleteWhole.{whole_source}
use Rattle.jav_parse.proofs.UnitLanguage.{unit_tree, unit_only, unit_bad}
use Rattle.jav_parse.proofs.reading.parse.Goals as goal

pub returns-clause-tree : goal.returns-clause-tree
returns-clause-tree c = unit_tree whole_source c.args.alloc (all_seen c.args.tokens.now) c.read_unit.result c.read_unit.ensures.read

pub returns-clause-only : goal.returns-clause-only
returns-clause-only c = λ u t. unit_only whole_source c.args.alloc (all_seen c.args.tokens.now) u t c.read_unit.result c.read_unit.ensures.read

pub returns-clause-bad : goal.returns-clause-bad
returns-clause-bad c = unit_bad whole_source c.args.alloc (all_seen c.args.tokens.now) c.read_unit.result c.read_unit.ensures.read
