-- What follows a branch of an `if`, and statements one after the other.
use Rattle.std.specs.Prelude.{ℕ, List, map}
use Rattle.jav_tree.specs.declared.stmt.Else.{Else, fold-Else}
use Rattle.jav_tree.specs.declared.stmt.Stmt.{Stmt}
use Rattle.jav_tree.specs.Lines.{all_of}
use Rattle.jav_tree.specs.StatementText.{Deep, StmtText, at_depth, stmt_text, else_text_step, stmt_node_text_step, block_text_step, stmt_text_step}

abbrev pub else_text : Else → Deep
else_text = fold-Else Deep Deep Deep StmtText else_text_step stmt_node_text_step block_text_step stmt_text_step

abbrev pub stmts_text : List Stmt → Deep
stmts_text items n = all_of (at_depth n (map stmt_text items))
