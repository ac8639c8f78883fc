-- What the parts of a block are written as, each from the locals before it (JLS 14).
use Rattle.std.specs.Prelude.{List, map}
use Rattle.jav_tree.specs.declared.stmt.Block.{Block}
use Rattle.jav_tree.specs.declared.stmt.Else.{Else}
use Rattle.jav_tree.specs.declared.stmt.Stmt.{Stmt}
use Rattle.jav_tree.specs.declared.stmt.StmtNode.{StmtNode}
use Rattle.mol_spell_expr.specs.SpelledStatements.{Spells, each, else_step, node_step, block_step, if_step, stmt_step}
use Rattle.mol_spell_expr.specs.Writers.{Writer}
use Rattle.mol_values_types.specs.declared.iblock.IElse.{IElse, fold-IElse}
use Rattle.mol_values_types.specs.declared.iblock.IIf.{IIf, fold-IIf}
use Rattle.mol_values_types.specs.declared.iblock.IStmt.{IStmt, fold-IStmt}
use Rattle.mol_values_types.specs.declared.iblock.IStmtNode.{IStmtNode, fold-IStmtNode}

module _ (writer : Writer) where
  abbrev pub else_spelling : IElse → Spells Else
  else_spelling = fold-IElse (Spells Else) (Spells StmtNode) (Spells Block) (Spells StmtNode) (Spells Stmt)
      (else_step writer) (node_step writer) (block_step writer) (if_step writer) (stmt_step writer)

  abbrev pub node_spelling : IStmtNode → Spells StmtNode
  node_spelling = fold-IStmtNode (Spells Else) (Spells StmtNode) (Spells Block) (Spells StmtNode) (Spells Stmt)
      (else_step writer) (node_step writer) (block_step writer) (if_step writer) (stmt_step writer)

  abbrev pub if_spelling : IIf → Spells StmtNode
  if_spelling = fold-IIf (Spells Else) (Spells StmtNode) (Spells Block) (Spells StmtNode) (Spells Stmt)
      (else_step writer) (node_step writer) (block_step writer) (if_step writer) (stmt_step writer)

  abbrev pub stmt_spelling : IStmt → Spells Stmt
  stmt_spelling = fold-IStmt (Spells Else) (Spells StmtNode) (Spells Block) (Spells StmtNode) (Spells Stmt)
      (else_step writer) (node_step writer) (block_step writer) (if_step writer) (stmt_step writer)

  -- one after the other
  abbrev pub statements_spelling : List IStmt → Spells (List Stmt)
  statements_spelling items = each (map stmt_spelling items)
