-- What renaming makes of blocks and statements, from what it makes of their parts.
use Rattle.std.proofs.Common.{◌≡◌, Bool, List, map, Option, option_map, sym, ◌∙◌, ap}
use Rattle.mol_base.specs.declared.ident.Id.{Id}
use Rattle.jav_names.specs.DottedNames.{Name}
use Rattle.mol_values_types.specs.Blocks.{block_of, branch_of}
use Rattle.mol_values_types.specs.Renamed as rename
use Rattle.mol_values_types.specs.Renamed.{rename_type, rename_expr, rename_argument, rename_let, rename_start, rename_else, rename_node, rename_block, rename_if, rename_statement}
use Rattle.mol_values_types.specs.declared.iblock.IBlock.{IBlock}
use Rattle.mol_values_types.specs.declared.iblock.IElse.{IElse}
use Rattle.mol_values_types.specs.declared.iblock.IElse.TheFolds.{fold-roll-IElse, fold-roll-IStmtNode, fold-roll-IBlock, fold-roll-IIf, fold-roll-IStmt, map-IElse, map-IStmtNode}
use Rattle.mol_values_types.specs.declared.iblock.IElse.TheOpen.{IElse-F, IStmtNode-F}
use Rattle.mol_values_types.specs.declared.iblock.IElse.TheVariants as elses
use Rattle.mol_values_types.specs.declared.iblock.IElse.TheViews.{roll-IElse, roll-IStmtNode}
use Rattle.mol_values_types.specs.declared.iblock.IForStart.{IForStart}
use Rattle.mol_values_types.specs.declared.iblock.IIf.{IIf}
use Rattle.mol_values_types.specs.declared.iblock.ILet.{ILet}
use Rattle.mol_values_types.specs.declared.iblock.IStmt.{IStmt}
use Rattle.mol_values_types.specs.declared.iblock.IStmtNode.{IStmtNode}
use Rattle.mol_values_types.specs.declared.iblock.IStmtNode.TheVariants as nodes
use Rattle.mol_values_types.specs.declared.iexpr.Argument.{Argument}
use Rattle.mol_values_types.specs.declared.iexpr.IExpr.{IExpr}
use Rattle.mol_values_types.specs.declared.itype.IType.{IType}

module _ (name : Id → Id) where
  -- ---- blocks, `if`s and statements

  pub renamed-block : (items : List IStmt) (tail : List Name)
      → rename_block name (block_of items tail) ≡ block_of (map (rename_statement name) items) tail
  renamed-block items tail = fold-roll-IBlock IElse IStmtNode IBlock IIf IStmt (rename.else_step name) (rename.node_step name)
      (rename.block_step name) (rename.if_step name) (rename.statement_step name) (record { items = items; tail = tail })

  pub renamed-branch : (test : IExpr) (then : IBlock) (rest : IElse)
      → rename_if name (branch_of test then rest) ≡ branch_of (rename_expr name test) (rename_block name then) (rename_else name rest)
  renamed-branch test then rest = fold-roll-IIf IElse IStmtNode IBlock IIf IStmt (rename.else_step name) (rename.node_step name)
      (rename.block_step name) (rename.if_step name) (rename.statement_step name) (record { test = test; then = then; rest = rest })

  pub renamed-statement : (notes : List Name) (node : IStmtNode)
      → rename_statement name (record { notes = notes; node = node }) ≡ record { notes = notes; node = rename_node name node }
  renamed-statement notes node = fold-roll-IStmt IElse IStmtNode IBlock IIf IStmt (rename.else_step name) (rename.node_step name)
      (rename.block_step name) (rename.if_step name) (rename.statement_step name) (record { notes = notes; node = node })

  -- ---- after `else`

  rolled-else : (x : IElse-F IElse IStmtNode IBlock IIf IStmt) → rename_else name (roll-IElse x) ≡ rename.else_step name
      (map-IElse _ _ _ _ _ _ _ _ _ _ (rename_else name) (rename_node name) (rename_block name) (rename_if name) (rename_statement name) x)
  rolled-else x = fold-roll-IElse IElse IStmtNode IBlock IIf IStmt (rename.else_step name) (rename.node_step name)
      (rename.block_step name) (rename.if_step name) (rename.statement_step name) x

  pub renamed-no-else : rename_else name elses.None ≡ elses.None
  renamed-no-else = ap (rename_else name) (sym elses.rolls-None) ∙ rolled-else IElse-F.None

  pub renamed-else-block : (block : IBlock) → rename_else name (elses.Block block) ≡ elses.Block (rename_block name block)
  renamed-else-block block = ap (rename_else name) (sym (elses.rolls-Block block)) ∙ rolled-else (IElse-F.IElse::Block block)

  pub renamed-else-if : (branch : IIf) → rename_else name (elses.If branch) ≡ elses.If (rename_if name branch)
  renamed-else-if branch = ap (rename_else name) (sym (elses.rolls-If branch)) ∙ rolled-else (IElse-F.IElse::If branch)

  -- ---- nodes

  rolled-node : (x : IStmtNode-F IElse IStmtNode IBlock IIf IStmt) → rename_node name (roll-IStmtNode x) ≡ rename.node_step name
      (map-IStmtNode _ _ _ _ _ _ _ _ _ _ (rename_else name) (rename_node name) (rename_block name) (rename_if name)
      (rename_statement name) x)
  rolled-node x = fold-roll-IStmtNode IElse IStmtNode IBlock IIf IStmt (rename.else_step name) (rename.node_step name)
      (rename.block_step name) (rename.if_step name) (rename.statement_step name) x

  pub renamed-Block : (block : IBlock) → rename_node name (nodes.Block block) ≡ nodes.Block (rename_block name block)
  renamed-Block block = ap (rename_node name) (sym (nodes.rolls-Block block)) ∙ rolled-node (IStmtNode-F.IStmtNode::Block block)

  pub renamed-Let : (declared : ILet) → rename_node name (nodes.Let declared) ≡ nodes.Let (rename_let name declared)
  renamed-Let declared = ap (rename_node name) (sym (nodes.rolls-Let declared)) ∙ rolled-node (IStmtNode-F.Let declared)

  pub renamed-Do : (e : IExpr) → rename_node name (nodes.Do e) ≡ nodes.Do (rename_expr name e)
  renamed-Do e = ap (rename_node name) (sym (nodes.rolls-Do e)) ∙ rolled-node (IStmtNode-F.Do e)

  pub renamed-If : (branch : IIf) → rename_node name (nodes.If branch) ≡ nodes.If (rename_if name branch)
  renamed-If branch = ap (rename_node name) (sym (nodes.rolls-If branch)) ∙ rolled-node (IStmtNode-F.IStmtNode::If branch)

  pub renamed-While : (test : IExpr) (block : IBlock) → rename_node name (nodes.While test block)
      ≡ nodes.While (rename_expr name test) (rename_block name block)
  renamed-While test block = ap (rename_node name) (sym (nodes.rolls-While test block)) ∙ rolled-node (IStmtNode-F.While test block)

  pub renamed-For : (start : IForStart) (test : Option IExpr) (steps : List IExpr) (block : IBlock)
      → rename_node name (nodes.For start test steps block)
      ≡ nodes.For (rename_start name start) (option_map (rename_expr name) test) (map (rename_expr name) steps) (rename_block name block)
  renamed-For start test steps block =
      ap (rename_node name) (sym (nodes.rolls-For start test steps block)) ∙ rolled-node (IStmtNode-F.For start test steps block)

  pub renamed-Each : (is_final : Bool) (type : IType) (text : Name) (e : IExpr) (block : IBlock)
      → rename_node name (nodes.Each is_final type text e block)
      ≡ nodes.Each is_final (rename_type name type) text (rename_expr name e) (rename_block name block)
  renamed-Each is_final type text e block =
      ap (rename_node name) (sym (nodes.rolls-Each is_final type text e block)) ∙ rolled-node (IStmtNode-F.Each is_final type text e block)

  pub renamed-Return : (e : Option IExpr) → rename_node name (nodes.Return e) ≡ nodes.Return (option_map (rename_expr name) e)
  renamed-Return e = ap (rename_node name) (sym (nodes.rolls-Return e)) ∙ rolled-node (IStmtNode-F.Return e)

  pub renamed-Throw : (e : IExpr) → rename_node name (nodes.Throw e) ≡ nodes.Throw (rename_expr name e)
  renamed-Throw e = ap (rename_node name) (sym (nodes.rolls-Throw e)) ∙ rolled-node (IStmtNode-F.Throw e)

  pub renamed-Break : rename_node name nodes.Break ≡ nodes.Break
  renamed-Break = ap (rename_node name) (sym nodes.rolls-Break) ∙ rolled-node IStmtNode-F.Break

  pub renamed-Continue : rename_node name nodes.Continue ≡ nodes.Continue
  renamed-Continue = ap (rename_node name) (sym nodes.rolls-Continue) ∙ rolled-node IStmtNode-F.Continue

  pub renamed-Empty : rename_node name nodes.Empty ≡ nodes.Empty
  renamed-Empty = ap (rename_node name) (sym nodes.rolls-Empty) ∙ rolled-node IStmtNode-F.Empty

  pub renamed-Super : (constructor : Id) (args : List Argument) → rename_node name (nodes.Super constructor args)
      ≡ nodes.Super (name constructor) (map (rename_argument name) args)
  renamed-Super constructor args =
      ap (rename_node name) (sym (nodes.rolls-Super constructor args)) ∙ rolled-node (IStmtNode-F.Super constructor args)

  pub renamed-SuperDefault : (class : Id) → rename_node name (nodes.SuperDefault class) ≡ nodes.SuperDefault (name class)
  renamed-SuperDefault class = ap (rename_node name) (sym (nodes.rolls-SuperDefault class)) ∙ rolled-node (IStmtNode-F.SuperDefault class)

  pub renamed-SuperOutside : (args : List IExpr) → rename_node name (nodes.SuperOutside args)
      ≡ nodes.SuperOutside (map (rename_expr name) args)
  renamed-SuperOutside args = ap (rename_node name) (sym (nodes.rolls-SuperOutside args)) ∙ rolled-node (IStmtNode-F.SuperOutside args)
