-- What a statement mentions, by what it is.
use Rattle.std.proofs.Common.{◌≡◌, ℕ, Bool, List, [], ◌++◌, Option, sym, ap, ◌∙◌}
use Rattle.mol_base.specs.declared.ident.Id.{Id}
use Rattle.mol_faults_mentions.proofs.mentions_lemmas.Nodes.{exprs-each, arguments-each}
use Rattle.mol_faults_mentions.specs.mentions.Parts.{each_argument, each_expr, else_mentions, node_mentions, if_mentions, statement_mentions, statements_mentions}
use Rattle.mol_table_rules.specs.Mentions.{Mention, a_class, a_constructor, named, type_mentions, expr_mentions, maybe_mentions, let_mentions, start_mentions, block_mentions, else_step, node_step, block_step, if_step, statement_step}
use Rattle.mol_values_types.specs.declared.iblock.IBlock.{IBlock, out-IBlock}
use Rattle.mol_values_types.specs.declared.iblock.IElse.{IElse}
use Rattle.mol_values_types.specs.declared.iblock.IElse.TheFolds.{fold-roll-IElse, fold-roll-IStmtNode, fold_out-IBlock, fold_out-IIf, fold-roll-IStmt, map-IElse, map-IStmtNode}
use Rattle.mol_values_types.specs.declared.iblock.IElse.TheOpen.{IElse-F, IStmtNode-F}
use Rattle.mol_values_types.specs.declared.iblock.IElse.TheVariants as elses
use Rattle.mol_values_types.specs.declared.iblock.IElse.TheViews.{roll-IElse, roll-IStmtNode}
use Rattle.mol_values_types.specs.declared.iblock.IForStart.{IForStart}
use Rattle.mol_values_types.specs.declared.iblock.IIf.{IIf, out-IIf}
use Rattle.mol_values_types.specs.declared.iblock.ILet.{ILet}
use Rattle.mol_values_types.specs.declared.iblock.IStmt.{IStmt}
use Rattle.mol_values_types.specs.declared.iblock.IStmtNode.{IStmtNode}
use Rattle.mol_values_types.specs.declared.iblock.IStmtNode.TheVariants as nodes
use Rattle.mol_values_types.specs.declared.iexpr.Argument.{Argument}
use Rattle.mol_values_types.specs.declared.iexpr.IExpr.{IExpr}
use Rattle.mol_values_types.specs.declared.itype.IType.{IType}

abbrev Ms : Type 0
Ms = List Mention

-- a statement mentions what it does without its comments
pub mentions-statement : (statement : IStmt) → statement_mentions statement ≡ node_mentions statement.node
mentions-statement statement =
    fold-roll-IStmt Ms Ms Ms Ms Ms else_step node_step block_step if_step statement_step
    (record { notes = statement.notes; node = statement.node })

pub mentions-block : (block : IBlock) → block_mentions block ≡ statements_mentions (out-IBlock block).items
mentions-block block = fold_out-IBlock Ms Ms Ms Ms Ms else_step node_step block_step if_step statement_step block

pub mentions-if : (branch : IIf) → if_mentions branch
    ≡ expr_mentions (out-IIf branch).test ++ block_mentions (out-IIf branch).then ++ else_mentions (out-IIf branch).rest
mentions-if branch = fold_out-IIf Ms Ms Ms Ms Ms else_step node_step block_step if_step statement_step branch

-- ---- what follows `else`

module _ (rest : IElse) where
  by_rest : (x : IElse-F IElse IStmtNode IBlock IIf IStmt) → rest ≡ roll-IElse x
      → else_mentions rest
      ≡ else_step (map-IElse _ _ _ _ _ _ _ _ _ _ else_mentions node_mentions block_mentions if_mentions statement_mentions x)
  by_rest x is = ap else_mentions is ∙ fold-roll-IElse Ms Ms Ms Ms Ms else_step node_step block_step if_step statement_step x

  pub mentions-no-else : rest ≡ elses.None → else_mentions rest ≡ []
  mentions-no-else is = by_rest IElse-F.None (is ∙ sym elses.rolls-None)

  pub mentions-else-block : (block : IBlock) → rest ≡ elses.Block block → else_mentions rest ≡ block_mentions block
  mentions-else-block block is = by_rest (IElse-F.IElse::Block block) (is ∙ sym (elses.rolls-Block block))

  pub mentions-else-if : (branch : IIf) → rest ≡ elses.If branch → else_mentions rest ≡ if_mentions branch
  mentions-else-if branch is = by_rest (IElse-F.IElse::If branch) (is ∙ sym (elses.rolls-If branch))

-- ---- statements

module _ (node : IStmtNode) where
  by_node : (x : IStmtNode-F IElse IStmtNode IBlock IIf IStmt) → node ≡ roll-IStmtNode x
      → node_mentions node
      ≡ node_step (map-IStmtNode _ _ _ _ _ _ _ _ _ _ else_mentions node_mentions block_mentions if_mentions statement_mentions x)
  by_node x is = ap node_mentions is ∙ fold-roll-IStmtNode Ms Ms Ms Ms Ms else_step node_step block_step if_step statement_step x

  pub mentions-Block : (block : IBlock) → node ≡ nodes.Block block → node_mentions node ≡ block_mentions block
  mentions-Block block is = by_node (IStmtNode-F.IStmtNode::Block block) (is ∙ sym (nodes.rolls-Block block))

  pub mentions-Let : (declared : ILet) → node ≡ nodes.Let declared → node_mentions node ≡ let_mentions declared
  mentions-Let declared is = by_node (IStmtNode-F.Let declared) (is ∙ sym (nodes.rolls-Let declared))

  pub mentions-Do : (e : IExpr) → node ≡ nodes.Do e → node_mentions node ≡ expr_mentions e
  mentions-Do e is = by_node (IStmtNode-F.Do e) (is ∙ sym (nodes.rolls-Do e))

  pub mentions-If : (branch : IIf) → node ≡ nodes.If branch → node_mentions node ≡ if_mentions branch
  mentions-If branch is = by_node (IStmtNode-F.IStmtNode::If branch) (is ∙ sym (nodes.rolls-If branch))

  pub mentions-While : (test : IExpr) (block : IBlock)
      → node ≡ nodes.While test block → node_mentions node ≡ expr_mentions test ++ block_mentions block
  mentions-While test block is = by_node (IStmtNode-F.While test block) (is ∙ sym (nodes.rolls-While test block))

  pub mentions-For : (start : IForStart) (test : Option IExpr) (steps : List IExpr) (block : IBlock)
      → node ≡ nodes.For start test steps block → node_mentions node ≡ start_mentions start ++ maybe_mentions test ++ each_expr steps
      ++ block_mentions block
  mentions-For start test steps block is =
      by_node (IStmtNode-F.For start test steps block) (is ∙ sym (nodes.rolls-For start test steps block)) ∙ ap
      (λ ms. start_mentions start ++ maybe_mentions test ++ ms ++ block_mentions block) (exprs-each steps)

  pub mentions-Each : (is_final : Bool) (type : IType) (name : List ℕ) (e : IExpr) (block : IBlock)
      → node ≡ nodes.Each is_final type name e block → node_mentions node ≡ type_mentions type ++ expr_mentions e ++ block_mentions block
  mentions-Each is_final type name e block is =
      by_node (IStmtNode-F.Each is_final type name e block) (is ∙ sym (nodes.rolls-Each is_final type name e block))

  pub mentions-Return : (e : Option IExpr) → node ≡ nodes.Return e → node_mentions node ≡ maybe_mentions e
  mentions-Return e is = by_node (IStmtNode-F.Return e) (is ∙ sym (nodes.rolls-Return e))

  pub mentions-Throw : (e : IExpr) → node ≡ nodes.Throw e → node_mentions node ≡ expr_mentions e
  mentions-Throw e is = by_node (IStmtNode-F.Throw e) (is ∙ sym (nodes.rolls-Throw e))

  pub mentions-Break : node ≡ nodes.Break → node_mentions node ≡ []
  mentions-Break is = by_node IStmtNode-F.Break (is ∙ sym nodes.rolls-Break)

  pub mentions-Continue : node ≡ nodes.Continue → node_mentions node ≡ []
  mentions-Continue is = by_node IStmtNode-F.Continue (is ∙ sym nodes.rolls-Continue)

  pub mentions-Empty : node ≡ nodes.Empty → node_mentions node ≡ []
  mentions-Empty is = by_node IStmtNode-F.Empty (is ∙ sym nodes.rolls-Empty)

  pub mentions-Super : (constructor : Id) (args : List Argument)
      → node ≡ nodes.Super constructor args → node_mentions node ≡ named a_constructor constructor ++ each_argument args
  mentions-Super constructor args is =
      by_node (IStmtNode-F.Super constructor args) (is ∙ sym (nodes.rolls-Super constructor args)) ∙ ap
      (λ ms. named a_constructor constructor ++ ms) (arguments-each args)

  pub mentions-SuperDefault : (class : Id) → node ≡ nodes.SuperDefault class → node_mentions node ≡ named a_class class
  mentions-SuperDefault class is = by_node (IStmtNode-F.SuperDefault class) (is ∙ sym (nodes.rolls-SuperDefault class))

  pub mentions-SuperOutside : (args : List IExpr) → node ≡ nodes.SuperOutside args → node_mentions node ≡ each_expr args
  mentions-SuperOutside args is = by_node (IStmtNode-F.SuperOutside args) (is ∙ sym (nodes.rolls-SuperOutside args)) ∙ exprs-each args
