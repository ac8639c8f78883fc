-- What statements of a program are written as, which shapes they have and what they mention, each from its parts.
use Rattle.std.proofs.Common.{◌≡◌, Bool, List}
use Rattle.jav_tree.specs.declared.stmt.Block.{Block}
use Rattle.jav_tree.specs.declared.stmt.Else.{Else}
use Rattle.jav_tree.specs.declared.stmt.Stmt.{Stmt}
use Rattle.jav_tree.specs.declared.stmt.StmtNode.{StmtNode}
use Rattle.mol_spell_rules.specs.SpelledStatements.{Spells, else_step, node_step, if_step, stmt_step, block_step, spelled_block}
use Rattle.mol_spell_rules.specs.Writers.{Writer}
use Rattle.mol_table_rules.specs.Mentions as mention
use Rattle.mol_table_rules.specs.Mentions.{Mention, block_mentions}
use Rattle.mol_table_rules.specs.StatementForms as forms
use Rattle.mol_table_rules.specs.StatementForms.{StatementShape, BlockShape, block_shape}
use Rattle.mol_values_types.specs.declared.iblock.IBlock.{IBlock}
use Rattle.mol_values_types.specs.declared.iblock.IElse.{IElse, fold-IElse}
use Rattle.mol_values_types.specs.declared.iblock.IElse.TheFolds.{fold-roll-IElse, fold-roll-IStmtNode, fold-roll-IBlock, fold-roll-IIf, fold-roll-IStmt, map-IElse, map-IStmtNode, map-IBlock, map-IIf, map-IStmt}
use Rattle.mol_values_types.specs.declared.iblock.IElse.TheOpen.{IElse-F, IStmtNode-F, IBlock-F, IIf-F, IStmt-F}
use Rattle.mol_values_types.specs.declared.iblock.IElse.TheViews.{roll-IElse, roll-IStmtNode, roll-IBlock, roll-IIf, roll-IStmt}
use Rattle.mol_values_types.specs.declared.iblock.IIf.{IIf, fold-IIf}
use Rattle.mol_values_types.specs.declared.iblock.IStmt.{IStmt, fold-IStmt}
use Rattle.mol_values_types.specs.declared.iblock.IStmtNode.{IStmtNode, fold-IStmtNode}

-- ---- shapes

abbrev pub else_shape : IElse → Bool
else_shape = fold-IElse Bool StatementShape BlockShape Bool StatementShape forms.else_step forms.node_step forms.block_step
    forms.if_step forms.statement_step

abbrev pub node_shape : IStmtNode → StatementShape
node_shape = fold-IStmtNode Bool StatementShape BlockShape Bool StatementShape forms.else_step forms.node_step forms.block_step
    forms.if_step forms.statement_step

abbrev pub if_shape : IIf → Bool
if_shape = fold-IIf Bool StatementShape BlockShape Bool StatementShape forms.else_step forms.node_step forms.block_step
    forms.if_step forms.statement_step

abbrev pub stmt_shape : IStmt → StatementShape
stmt_shape = fold-IStmt Bool StatementShape BlockShape Bool StatementShape forms.else_step forms.node_step forms.block_step
    forms.if_step forms.statement_step

pub else-shape-is : (x : IElse-F IElse IStmtNode IBlock IIf IStmt)
    → else_shape (roll-IElse x)
    ≡ forms.else_step (map-IElse _ _ _ _ _ _ _ _ _ _ else_shape node_shape block_shape if_shape stmt_shape x)
else-shape-is x = fold-roll-IElse Bool StatementShape BlockShape Bool StatementShape forms.else_step forms.node_step forms.block_step
    forms.if_step forms.statement_step x

pub node-shape-is : (x : IStmtNode-F IElse IStmtNode IBlock IIf IStmt)
    → node_shape (roll-IStmtNode x)
    ≡ forms.node_step (map-IStmtNode _ _ _ _ _ _ _ _ _ _ else_shape node_shape block_shape if_shape stmt_shape x)
node-shape-is x = fold-roll-IStmtNode Bool StatementShape BlockShape Bool StatementShape forms.else_step forms.node_step forms.block_step
    forms.if_step forms.statement_step x

pub block-shape-is : (x : IBlock-F IElse IStmtNode IBlock IIf IStmt)
    → block_shape (roll-IBlock x)
    ≡ forms.block_step (map-IBlock _ _ _ _ _ _ _ _ _ _ else_shape node_shape block_shape if_shape stmt_shape x)
block-shape-is x = fold-roll-IBlock Bool StatementShape BlockShape Bool StatementShape forms.else_step forms.node_step forms.block_step
    forms.if_step forms.statement_step x

pub if-shape-is : (x : IIf-F IElse IStmtNode IBlock IIf IStmt)
    → if_shape (roll-IIf x)
    ≡ forms.if_step (map-IIf _ _ _ _ _ _ _ _ _ _ else_shape node_shape block_shape if_shape stmt_shape x)
if-shape-is x = fold-roll-IIf Bool StatementShape BlockShape Bool StatementShape forms.else_step forms.node_step forms.block_step
    forms.if_step forms.statement_step x

pub stmt-shape-is : (x : IStmt-F IElse IStmtNode IBlock IIf IStmt)
    → stmt_shape (roll-IStmt x)
    ≡ forms.statement_step (map-IStmt _ _ _ _ _ _ _ _ _ _ else_shape node_shape block_shape if_shape stmt_shape x)
stmt-shape-is x = fold-roll-IStmt Bool StatementShape BlockShape Bool StatementShape forms.else_step forms.node_step forms.block_step
    forms.if_step forms.statement_step x

-- ---- mentions

abbrev pub Mentions : Type 0
Mentions = List Mention

abbrev pub else_mentions : IElse → Mentions
else_mentions = fold-IElse Mentions Mentions Mentions Mentions Mentions mention.else_step mention.node_step
    mention.block_step mention.if_step mention.statement_step

abbrev pub node_mentions : IStmtNode → Mentions
node_mentions = fold-IStmtNode Mentions Mentions Mentions Mentions Mentions mention.else_step mention.node_step
    mention.block_step mention.if_step mention.statement_step

abbrev pub if_mentions : IIf → Mentions
if_mentions = fold-IIf Mentions Mentions Mentions Mentions Mentions mention.else_step mention.node_step
    mention.block_step mention.if_step mention.statement_step

abbrev pub stmt_mentions : IStmt → Mentions
stmt_mentions = fold-IStmt Mentions Mentions Mentions Mentions Mentions mention.else_step mention.node_step
    mention.block_step mention.if_step mention.statement_step

pub else-mentions-are : (x : IElse-F IElse IStmtNode IBlock IIf IStmt)
    → else_mentions (roll-IElse x)
    ≡ mention.else_step (map-IElse _ _ _ _ _ _ _ _ _ _ else_mentions node_mentions block_mentions if_mentions
    stmt_mentions x)
else-mentions-are x = fold-roll-IElse Mentions Mentions Mentions Mentions Mentions mention.else_step mention.node_step
    mention.block_step mention.if_step mention.statement_step x

pub node-mentions-are : (x : IStmtNode-F IElse IStmtNode IBlock IIf IStmt)
    → node_mentions (roll-IStmtNode x)
    ≡ mention.node_step (map-IStmtNode _ _ _ _ _ _ _ _ _ _ else_mentions node_mentions block_mentions if_mentions
    stmt_mentions x)
node-mentions-are x = fold-roll-IStmtNode Mentions Mentions Mentions Mentions Mentions mention.else_step mention.node_step
    mention.block_step mention.if_step mention.statement_step x

pub block-mentions-are : (x : IBlock-F IElse IStmtNode IBlock IIf IStmt)
    → block_mentions (roll-IBlock x)
    ≡ mention.block_step (map-IBlock _ _ _ _ _ _ _ _ _ _ else_mentions node_mentions block_mentions if_mentions
    stmt_mentions x)
block-mentions-are x = fold-roll-IBlock Mentions Mentions Mentions Mentions Mentions mention.else_step mention.node_step
    mention.block_step mention.if_step mention.statement_step x

pub if-mentions-are : (x : IIf-F IElse IStmtNode IBlock IIf IStmt)
    → if_mentions (roll-IIf x)
    ≡ mention.if_step (map-IIf _ _ _ _ _ _ _ _ _ _ else_mentions node_mentions block_mentions if_mentions
    stmt_mentions x)
if-mentions-are x = fold-roll-IIf Mentions Mentions Mentions Mentions Mentions mention.else_step mention.node_step
    mention.block_step mention.if_step mention.statement_step x

pub stmt-mentions-are : (x : IStmt-F IElse IStmtNode IBlock IIf IStmt)
    → stmt_mentions (roll-IStmt x)
    ≡ mention.statement_step (map-IStmt _ _ _ _ _ _ _ _ _ _ else_mentions node_mentions block_mentions if_mentions
    stmt_mentions x)
stmt-mentions-are x = fold-roll-IStmt Mentions Mentions Mentions Mentions Mentions mention.else_step mention.node_step
    mention.block_step mention.if_step mention.statement_step x

-- ---- trees

abbrev pub SElse : Type 0
SElse = Spells Else

abbrev pub SNode : Type 0
SNode = Spells StmtNode

abbrev pub SBlock : Type 0
SBlock = Spells Block

abbrev pub SStmt : Type 0
SStmt = Spells Stmt

module _ (writer : Writer) where
  abbrev pub of_else : IElse → SElse
  of_else = fold-IElse SElse SNode SBlock SNode SStmt (else_step writer) (node_step writer) (block_step writer)
      (if_step writer) (stmt_step writer)

  abbrev pub of_node : IStmtNode → SNode
  of_node = fold-IStmtNode SElse SNode SBlock SNode SStmt (else_step writer) (node_step writer) (block_step writer)
      (if_step writer) (stmt_step writer)

  abbrev pub of_block : IBlock → SBlock
  of_block = spelled_block writer

  abbrev pub of_if : IIf → SNode
  of_if = fold-IIf SElse SNode SBlock SNode SStmt (else_step writer) (node_step writer) (block_step writer)
      (if_step writer) (stmt_step writer)

  abbrev pub of_stmt : IStmt → SStmt
  of_stmt = fold-IStmt SElse SNode SBlock SNode SStmt (else_step writer) (node_step writer) (block_step writer)
      (if_step writer) (stmt_step writer)

  pub else-written : (x : IElse-F IElse IStmtNode IBlock IIf IStmt)
      → of_else (roll-IElse x) ≡ else_step writer (map-IElse _ _ _ _ _ _ _ _ _ _ of_else of_node of_block of_if of_stmt x)
  else-written x = fold-roll-IElse SElse SNode SBlock SNode SStmt (else_step writer) (node_step writer) (block_step writer)
      (if_step writer) (stmt_step writer) x

  pub node-written : (x : IStmtNode-F IElse IStmtNode IBlock IIf IStmt)
      → of_node (roll-IStmtNode x) ≡ node_step writer (map-IStmtNode _ _ _ _ _ _ _ _ _ _ of_else of_node of_block of_if of_stmt x)
  node-written x = fold-roll-IStmtNode SElse SNode SBlock SNode SStmt (else_step writer) (node_step writer) (block_step writer)
      (if_step writer) (stmt_step writer) x

  pub block-written : (x : IBlock-F IElse IStmtNode IBlock IIf IStmt)
      → of_block (roll-IBlock x) ≡ block_step writer (map-IBlock _ _ _ _ _ _ _ _ _ _ of_else of_node of_block of_if of_stmt x)
  block-written x = fold-roll-IBlock SElse SNode SBlock SNode SStmt (else_step writer) (node_step writer) (block_step writer)
      (if_step writer) (stmt_step writer) x

  pub if-written : (x : IIf-F IElse IStmtNode IBlock IIf IStmt)
      → of_if (roll-IIf x) ≡ if_step writer (map-IIf _ _ _ _ _ _ _ _ _ _ of_else of_node of_block of_if of_stmt x)
  if-written x = fold-roll-IIf SElse SNode SBlock SNode SStmt (else_step writer) (node_step writer) (block_step writer)
      (if_step writer) (stmt_step writer) x

  pub stmt-written : (x : IStmt-F IElse IStmtNode IBlock IIf IStmt)
      → of_stmt (roll-IStmt x) ≡ stmt_step writer (map-IStmt _ _ _ _ _ _ _ _ _ _ of_else of_node of_block of_if of_stmt x)
  stmt-written x = fold-roll-IStmt SElse SNode SBlock SNode SStmt (else_step writer) (node_step writer) (block_step writer)
      (if_step writer) (stmt_step writer) x
