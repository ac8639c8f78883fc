-- What the parts of a body declare, by what they are.
use Rattle.std.proofs.Common.{◌≡◌, ℕ, Bool, List, map, Option, refl, sym, ap, ◌∙◌}
use Rattle.mol_base.specs.declared.ident.Id.{Id}
use Rattle.mol_faults_values.specs.local_faults.PartScopes.{else_scopes, node_scopes, if_scopes, statement_scopes, statements_scopes, names_scopes, for_scopes, each_scopes}
use Rattle.mol_spell_rules.specs.LocalClashes.{Scoped, Scopes, unscoped, then_next, in_block, block_scopes, let_scopes, else_step, node_step, block_step, if_step, stmt_step}
use Rattle.mol_values_types.specs.declared.iblock.IBlock.{IBlock, out-IBlock}
use Rattle.mol_values_types.specs.declared.iblock.IElse.{IElse}
use Rattle.mol_values_types.specs.declared.iblock.IElse.TheFolds.{fold-roll-IElse, fold-roll-IStmtNode, fold_out-IBlock, fold_out-IIf, fold-roll-IStmt, map-IElse, map-IStmtNode}
use Rattle.mol_values_types.specs.declared.iblock.IElse.TheOpen.{IElse-F, IStmtNode-F}
use Rattle.mol_values_types.specs.declared.iblock.IElse.TheVariants as elses
use Rattle.mol_values_types.specs.declared.iblock.IElse.TheViews.{roll-IElse, roll-IStmtNode}
use Rattle.mol_values_types.specs.declared.iblock.IForStart.{IForStart}
use Rattle.mol_values_types.specs.declared.iblock.IIf.{IIf, out-IIf}
use Rattle.mol_values_types.specs.declared.iblock.ILet.{ILet}
use Rattle.mol_values_types.specs.declared.iblock.IStmt.{IStmt}
use Rattle.mol_values_types.specs.declared.iblock.IStmtNode.{IStmtNode}
use Rattle.mol_values_types.specs.declared.iblock.IStmtNode.TheVariants as nodes
use Rattle.mol_values_types.specs.declared.iexpr.Argument.{Argument}
use Rattle.mol_values_types.specs.declared.iexpr.IExpr.{IExpr}
use Rattle.mol_values_types.specs.declared.itype.IType.{IType}

abbrev S : Type 0
S = Scopes

pub scopes-statement : (statement : IStmt) → statement_scopes statement ≡ node_scopes statement.node
scopes-statement statement =
    fold-roll-IStmt S S S S S else_step node_step block_step if_step stmt_step
    (record { notes = statement.notes; node = statement.node })

pub scopes-block : (block : IBlock) → block_scopes block ≡ (λ names. in_block names (statements_scopes (out-IBlock block).items names))
scopes-block block = fold_out-IBlock S S S S S else_step node_step block_step if_step stmt_step block

pub scopes-if : (branch : IIf)
    → if_scopes branch ≡ (λ names. then_next (block_scopes (out-IIf branch).then names) (else_scopes (out-IIf branch).rest))
scopes-if branch = fold_out-IIf S S S S S else_step node_step block_step if_step stmt_step branch

-- ---- what follows `else`

module _ (rest : IElse) where
  by_rest : (x : IElse-F IElse IStmtNode IBlock IIf IStmt) → rest ≡ roll-IElse x
      → else_scopes rest ≡ else_step (map-IElse _ _ _ _ _ _ _ _ _ _ else_scopes node_scopes block_scopes if_scopes statement_scopes x)
  by_rest x is = ap else_scopes is ∙ fold-roll-IElse S S S S S else_step node_step block_step if_step stmt_step x

  pub scopes-no-else : rest ≡ elses.None → else_scopes rest ≡ unscoped
  scopes-no-else is = by_rest IElse-F.None (is ∙ sym elses.rolls-None)

  pub scopes-else-block : (block : IBlock) → rest ≡ elses.Block block → else_scopes rest ≡ block_scopes block
  scopes-else-block block is = by_rest (IElse-F.IElse::Block block) (is ∙ sym (elses.rolls-Block block))

  pub scopes-else-if : (branch : IIf) → rest ≡ elses.If branch → else_scopes rest ≡ if_scopes branch
  scopes-else-if branch is = by_rest (IElse-F.IElse::If branch) (is ∙ sym (elses.rolls-If branch))

-- ---- statements

module _ (node : IStmtNode) where
  by_node : (x : IStmtNode-F IElse IStmtNode IBlock IIf IStmt) → node ≡ roll-IStmtNode x
      → node_scopes node ≡ node_step (map-IStmtNode _ _ _ _ _ _ _ _ _ _ else_scopes node_scopes block_scopes if_scopes statement_scopes x)
  by_node x is = ap node_scopes is ∙ fold-roll-IStmtNode S S S S S else_step node_step block_step if_step stmt_step x

  pub scopes-Block : (block : IBlock) → node ≡ nodes.Block block → node_scopes node ≡ block_scopes block
  scopes-Block block is = by_node (IStmtNode-F.IStmtNode::Block block) (is ∙ sym (nodes.rolls-Block block))

  pub scopes-Let : (declared : ILet) → node ≡ nodes.Let declared → node_scopes node ≡ let_scopes declared
  scopes-Let declared is = by_node (IStmtNode-F.Let declared) (is ∙ sym (nodes.rolls-Let declared))

  pub scopes-Do : (e : IExpr) → node ≡ nodes.Do e → node_scopes node ≡ unscoped
  scopes-Do e is = by_node (IStmtNode-F.Do e) (is ∙ sym (nodes.rolls-Do e))

  pub scopes-If : (branch : IIf) → node ≡ nodes.If branch → node_scopes node ≡ if_scopes branch
  scopes-If branch is = by_node (IStmtNode-F.IStmtNode::If branch) (is ∙ sym (nodes.rolls-If branch))

  pub scopes-While : (test : IExpr) (block : IBlock) → node ≡ nodes.While test block → node_scopes node ≡ block_scopes block
  scopes-While test block is = by_node (IStmtNode-F.While test block) (is ∙ sym (nodes.rolls-While test block))

  pub scopes-For : (start : IForStart) (test : Option IExpr) (steps : List IExpr) (block : IBlock)
      → node ≡ nodes.For start test steps block → node_scopes node ≡ for_scopes start block
  scopes-For start test steps block is =
      by_node (IStmtNode-F.For start test steps block) (is ∙ sym (nodes.rolls-For start test steps block))

  pub scopes-Each : (is_final : Bool) (type : IType) (name : List ℕ) (e : IExpr) (block : IBlock)
      → node ≡ nodes.Each is_final type name e block → node_scopes node ≡ each_scopes name block
  scopes-Each is_final type name e block is =
      by_node (IStmtNode-F.Each is_final type name e block) (is ∙ sym (nodes.rolls-Each is_final type name e block))

  pub scopes-Return : (e : Option IExpr) → node ≡ nodes.Return e → node_scopes node ≡ unscoped
  scopes-Return e is = by_node (IStmtNode-F.Return e) (is ∙ sym (nodes.rolls-Return e))

  pub scopes-Throw : (e : IExpr) → node ≡ nodes.Throw e → node_scopes node ≡ unscoped
  scopes-Throw e is = by_node (IStmtNode-F.Throw e) (is ∙ sym (nodes.rolls-Throw e))

  pub scopes-Break : node ≡ nodes.Break → node_scopes node ≡ unscoped
  scopes-Break is = by_node IStmtNode-F.Break (is ∙ sym nodes.rolls-Break)

  pub scopes-Continue : node ≡ nodes.Continue → node_scopes node ≡ unscoped
  scopes-Continue is = by_node IStmtNode-F.Continue (is ∙ sym nodes.rolls-Continue)

  pub scopes-Empty : node ≡ nodes.Empty → node_scopes node ≡ unscoped
  scopes-Empty is = by_node IStmtNode-F.Empty (is ∙ sym nodes.rolls-Empty)

  pub scopes-Super : (constructor : Id) (args : List Argument) → node ≡ nodes.Super constructor args → node_scopes node ≡ unscoped
  scopes-Super constructor args is = by_node (IStmtNode-F.Super constructor args) (is ∙ sym (nodes.rolls-Super constructor args))

  pub scopes-SuperDefault : (class : Id) → node ≡ nodes.SuperDefault class → node_scopes node ≡ unscoped
  scopes-SuperDefault class is = by_node (IStmtNode-F.SuperDefault class) (is ∙ sym (nodes.rolls-SuperDefault class))

  pub scopes-SuperOutside : (args : List IExpr) → node ≡ nodes.SuperOutside args → node_scopes node ≡ unscoped
  scopes-SuperOutside args is = by_node (IStmtNode-F.SuperOutside args) (is ∙ sym (nodes.rolls-SuperOutside args))
