-- What the parts of a block read as, each from the locals before it (JLS 14).
use Rattle.std.specs.Prelude.{ℕ, List, map}
use Rattle.jav_tree.specs.declared.expr.Expr.{Expr}
use Rattle.jav_tree.specs.declared.stmt.Block.{Block}
use Rattle.jav_tree.specs.declared.stmt.Else.{Else, fold-Else}
use Rattle.jav_tree.specs.declared.stmt.Stmt.{Stmt, fold-Stmt}
use Rattle.jav_tree.specs.declared.stmt.StmtNode.{StmtNode, fold-StmtNode}
use Rattle.jav_names.specs.UnitViews.{MemberKey}
use Rattle.mol_resolve_rules.specs.Readers.{Reader}
use Rattle.mol_resolve_rules.specs.ReadStatements.{ReadsTo, ReadNode, ReadStatement, mapped_on, then_next, declaring_none, each, else_of, else_step, node_step, block_step, stmt_step, block_reading}
use Rattle.mol_resolve_rules.specs.ReadTrees.{read_expr}
use Rattle.mol_resolve_stmt.specs.Made.{branches}
use Rattle.mol_values_types.specs.declared.iblock.IBlock.{IBlock}
use Rattle.mol_values_types.specs.declared.iblock.IElse.{IElse}
use Rattle.mol_values_types.specs.declared.iblock.IIf.{IIf}
use Rattle.mol_values_types.specs.declared.iblock.IStmt.{IStmt}
use Rattle.mol_values_types.specs.declared.iblock.IStmtNode.{IStmtNode}

module _ (reader : Reader ℕ MemberKey) where
  abbrev pub stmt_reading : Stmt → ReadsTo ℕ ReadStatement
  stmt_reading = fold-Stmt (ReadsTo ℕ IElse) (ℕ → ReadsTo ℕ ReadNode) (ReadsTo ℕ IBlock) (ReadsTo ℕ ReadStatement)
      (else_step reader) (node_step reader) (block_step reader) (stmt_step reader)

  abbrev pub node_reading : StmtNode → ℕ → ReadsTo ℕ ReadNode
  node_reading = fold-StmtNode (ReadsTo ℕ IElse) (ℕ → ReadsTo ℕ ReadNode) (ReadsTo ℕ IBlock) (ReadsTo ℕ ReadStatement)
      (else_step reader) (node_step reader) (block_step reader) (stmt_step reader)

  abbrev pub else_reading : Else → ReadsTo ℕ IElse
  else_reading = fold-Else (ReadsTo ℕ IElse) (ℕ → ReadsTo ℕ ReadNode) (ReadsTo ℕ IBlock) (ReadsTo ℕ ReadStatement)
      (else_step reader) (node_step reader) (block_step reader) (stmt_step reader)

  -- without its branches
  abbrev pub statement_of : Stmt → ReadsTo ℕ IStmt
  statement_of statement locals = mapped_on (λ (read : ReadStatement). read.statement) (stmt_reading statement locals)

  abbrev pub node_of : StmtNode → ℕ → ReadsTo ℕ IStmtNode
  node_of node at locals = mapped_on (λ (read : ReadNode). read.node) (node_reading node at locals)

  abbrev pub statements_of : List Stmt → ReadsTo ℕ (List IStmt)
  statements_of statements = each (map statement_of statements)

  -- the branches of an `if`
  abbrev pub branches_of : Expr → Block → Else → ReadsTo ℕ IIf
  branches_of test block otherwise locals = mapped_on branches
      (then_next (then_next (declaring_none locals (read_expr reader locals test)) (block_reading reader block)) (else_reading otherwise))

  -- an `if` after `else`, or any other statement
  abbrev pub else_if_of : Stmt → ReadsTo ℕ IElse
  else_if_of statement locals = mapped_on (else_of reader) (stmt_reading statement locals)
