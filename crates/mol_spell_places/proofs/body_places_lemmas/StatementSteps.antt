-- How the parts of a block are written, each from how its own parts are (JLS 14).
use Rattle.std.proofs.Common.{◌≡◌, List, sym, ap, ◌∙◌}
use Rattle.jav_tree.specs.Blocks.{block_of}
use Rattle.jav_tree.specs.declared.stmt.Block.{Block}
use Rattle.jav_tree.specs.declared.stmt.Else.{Else}
use Rattle.jav_tree.specs.declared.stmt.Stmt.{Stmt}
use Rattle.jav_tree.specs.declared.stmt.StmtNode.{StmtNode}
use Rattle.jav_tree.specs.declared.stmt.StmtNode.TheVariants as node
use Rattle.jav_names.specs.DottedNames.{Name}
use Rattle.mol_base.specs.declared.ident.Id.{Id}
use Rattle.mol_spell_places.specs.body_places.Statements.{else_spelling, if_spelling, node_spelling, statements_spelling, stmt_spelling}
use Rattle.mol_resolve_rules.specs.Locals.{Locals, at_end_of_block}
use Rattle.mol_spell_expr.specs.SpelledStatements.{Spells, block_step, else_step, if_step, in_block, mapped, node_step, one_expr, spelled_block, stmt_step, then_next}
use Rattle.mol_spell_expr.specs.Writers.{Writer}
use Rattle.mol_values_types.specs.declared.iblock.IBlock.{IBlock, out-IBlock}
use Rattle.mol_values_types.specs.declared.iblock.IElse.{IElse}
use Rattle.mol_values_types.specs.declared.iblock.IElse.TheFolds.{fold-roll-IElse, fold-roll-IStmtNode, fold-roll-IStmt, fold_out-IBlock, fold_out-IIf, map-IStmtNode}
use Rattle.mol_values_types.specs.declared.iblock.IElse.TheOpen.{IElse-F, IStmtNode-F}
use Rattle.mol_values_types.specs.declared.iblock.IElse.TheVariants as elses
use Rattle.mol_values_types.specs.declared.iblock.IElse.TheViews.{roll-IStmtNode}
use Rattle.mol_values_types.specs.declared.iblock.IIf.{IIf, out-IIf}
use Rattle.mol_values_types.specs.declared.iblock.IStmt.{IStmt}
use Rattle.mol_values_types.specs.declared.iblock.IStmtNode.{IStmtNode}

module _ (writer : Writer) where
  -- ---- statements

  -- a node with its parts as they are written
  abbrev pub parts : IStmtNode-F IElse IStmtNode IBlock IIf IStmt
      → IStmtNode-F (Spells Else) (Spells StmtNode) (Spells Block) (Spells StmtNode) (Spells Stmt)
  parts x = map-IStmtNode _ _ _ _ _ _ _ _ _ _ (else_spelling writer) (node_spelling writer) (spelled_block writer) (if_spelling writer)
      (stmt_spelling writer) x

  pub node-rolled : (x : IStmtNode-F IElse IStmtNode IBlock IIf IStmt)
      → node_spelling writer (roll-IStmtNode x) ≡ node_step writer (parts x)
  node-rolled x = fold-roll-IStmtNode _ _ _ _ _ (else_step writer) (node_step writer) (block_step writer) (if_step writer)
      (stmt_step writer) x

  pub stmt-is : (notes : List Name) (n : IStmtNode) (locals : Locals Id)
      → stmt_spelling writer (record { notes = notes; node = n }) locals
      ≡ mapped (λ made. record { notes = notes; at = 0; node = made }) (node_spelling writer n locals)
  stmt-is notes n locals = ap (λ (spells : Spells Stmt). spells locals)
      (fold-roll-IStmt _ _ _ _ _ (else_step writer) (node_step writer) (block_step writer) (if_step writer) (stmt_step writer)
      (record { notes = notes; node = n }))

  -- ---- branches

  pub if-is : (branch : IIf) (locals : Locals Id)
      → if_spelling writer branch locals
      ≡ mapped (λ parts. node.If parts.0.0 parts.0.1 parts.1) (then_next (then_next (one_expr writer (out-IIf branch).test locals)
      (spelled_block writer (out-IIf branch).then)) (else_spelling writer (out-IIf branch).rest))
  if-is branch locals = ap (λ (spells : Spells StmtNode). spells locals)
      (fold_out-IIf _ _ _ _ _ (else_step writer) (node_step writer) (block_step writer) (if_step writer) (stmt_step writer) branch)

  pub else-none : else_spelling writer elses.None ≡ else_step writer IElse-F.None
  else-none = ap (else_spelling writer) (sym elses.rolls-None)
      ∙ fold-roll-IElse _ _ _ _ _ (else_step writer) (node_step writer) (block_step writer) (if_step writer) (stmt_step writer) IElse-F.None

  pub else-block : (block : IBlock) → else_spelling writer (elses.Block block)
      ≡ else_step writer (IElse-F.IElse::Block (spelled_block writer block))
  else-block block = ap (else_spelling writer) (sym (elses.rolls-Block block))
      ∙ fold-roll-IElse _ _ _ _ _ (else_step writer) (node_step writer) (block_step writer) (if_step writer) (stmt_step writer)
      (IElse-F.IElse::Block block)

  pub else-if : (branch : IIf) → else_spelling writer (elses.If branch) ≡ else_step writer (IElse-F.IElse::If (if_spelling writer branch))
  else-if branch = ap (else_spelling writer) (sym (elses.rolls-If branch))
      ∙ fold-roll-IElse _ _ _ _ _ (else_step writer) (node_step writer) (block_step writer) (if_step writer) (stmt_step writer)
      (IElse-F.IElse::If branch)

  -- ---- blocks

  pub block-is : (block : IBlock) (locals : Locals Id)
      → spelled_block writer block locals
      ≡ in_block locals (mapped (λ items. block_of items (out-IBlock block).tail)
      (statements_spelling writer (out-IBlock block).items locals))
  block-is block locals = ap (λ (spells : Spells Block). spells locals)
      (fold_out-IBlock _ _ _ _ _ (else_step writer) (node_step writer) (block_step writer) (if_step writer) (stmt_step writer) block)

  -- after a block those are in scope that were before it
  pub scope-ends : (block : IBlock) (locals : Locals Id)
      → (spelled_block writer block locals).locals ≡ at_end_of_block locals (spelled_block writer block locals).locals
  scope-ends block locals =
      let is = block-is block locals in
      ap (λ part. part.locals) is ∙ sym (ap (λ part. at_end_of_block locals part.locals) is)
