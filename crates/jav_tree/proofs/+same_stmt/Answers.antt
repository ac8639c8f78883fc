use Rattle.std.proofs.Common.{rules}
use Rattle.jav_tree.proofs.PartsStmt.{decided_block, decided_else, same-Else-If}
use Rattle.jav_tree.proofs.+same_stmt.Goals as goal

pub stmt::Block::same-returns : goal.stmt::Block::same-returns
stmt::Block::same-returns t c = decided_block c.args.self.now c.args.other.now (search rules)

pub stmt::Else::same-returns-in-If-If : goal.stmt::Else::same-returns-in-If-If
stmt::Else::same-returns-in-If-If t c = decided_else c.in-If-If.is-0 c.in-If-If.is-1 (same-Else-If _ _) (search rules)
