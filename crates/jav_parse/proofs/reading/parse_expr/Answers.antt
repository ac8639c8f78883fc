use Rattle.jav_lex.specs.Token.{all_seen}
use Rattle.jav_tree.specs.Trees.{IsExpr}
use Rattle.jav_parse_unit.specs.WholeRules.{expression}
use Rattle.jav_parse.proofs.CompleteTrees.{whole_expression}
use Rattle.jav_parse.proofs.TreeLanguages.{reads_expressions}
use Rattle.jav_parse_unit.specs.declared.reading.Language.TheVariants as asked
use Rattle.jav_parse.proofs.Calls.{tree_clause, only_clause, bad_clause}
use Rattle.jav_parse.proofs.reading.parse_expr.Goals as goal

pub returns-clause-tree : goal.returns-clause-tree
returns-clause-tree c = tree_clause IsExpr asked.Expr expression (reads_expressions whole_expression) c.args.alloc (all_seen c.args.tokens.now) c.read_expr.result c.read_expr.ensures.read

pub returns-clause-only : goal.returns-clause-only
returns-clause-only c = only_clause IsExpr asked.Expr expression (reads_expressions whole_expression) c.args.alloc (all_seen c.args.tokens.now) c.read_expr.result c.read_expr.ensures.read

pub returns-clause-bad : goal.returns-clause-bad
returns-clause-bad c = bad_clause IsExpr asked.Expr expression (reads_expressions whole_expression) c.args.alloc (all_seen c.args.tokens.now) c.read_expr.result c.read_expr.ensures.read
