use Rattle.jav_tree.proofs.HeightsStatements.{counted_body}
use Rattle.jav_tree.proofs.+height_stmt.Goals as goal

pub stmt::Block::height-returns-clause-grammar : goal.stmt::Block::height-returns-clause-grammar
stmt::Block::height-returns-clause-grammar t c = λ limit h items tail ts p e. counted_body c.args.self.now p e c.items.ensures c.tallest_stmts.ensures c.above.ensures
