-- The references of the parts of an expression or a statement stand in printed order.
use Rattle.std.proofs.Common.{◌≡◌, List, [], ◌∷◌, ◌++◌, map, flat_map, refl, sym, ◌∙◌, ap}
use Rattle.mol_base.specs.declared.ident.Id.{Id}
use Rattle.mol_values_types.specs.declared.iblock.IElse.TheFolds.{fold-roll-IBlock, fold-roll-IStmtNode, fold-roll-IIf, map-IStmtNode}
use Rattle.mol_values_types.specs.declared.iblock.IElse.TheOpen.{IStmtNode-F}
use Rattle.mol_values_types.specs.declared.iblock.IBlock.{IBlock}
use Rattle.mol_values_types.specs.declared.iblock.IElse.{IElse}
use Rattle.mol_values_types.specs.declared.iblock.IElse.TheViews.{roll-IStmtNode}
use Rattle.mol_values_types.specs.declared.iblock.IIf.{IIf}
use Rattle.mol_values_types.specs.declared.iblock.IStmt.{IStmt}
use Rattle.mol_values_types.specs.declared.iblock.IStmtNode.{IStmtNode}
use Rattle.mol_values_types.specs.declared.iblock.IStmtNode.TheVariants as nodes
use Rattle.mol_values_types.specs.declared.iexpr.Argument.{Argument}
use Rattle.mol_values_types.specs.declared.iexpr.IExpr.{IExpr}
use Rattle.mol_values_types.specs.declared.iexpr.IExpr.TheFolds.{fold-roll-IExpr, fold-roll-Argument, map-IExpr}
use Rattle.mol_values_types.specs.declared.iexpr.IExpr.TheOpen.{IExpr-F}
use Rattle.mol_values_types.specs.declared.iexpr.IExpr.TheVariants as exprs
use Rattle.mol_values_types.specs.declared.iexpr.IExpr.TheViews.{roll-IExpr}
use Rattle.mol_spell_rules.specs.references.InOrder.{ExpressionsInOrder, StatementsInOrder}
use Rattle.mol_spell_rules.specs.references.References as reference
use Rattle.mol_spell_rules.specs.references.References.{field_target, method_target, outside_target, References, type_references, argument_references, expr_references, exprs_references, arguments_references, else_references, node_references, block_references, if_references, statement_references}

-- ---- lists of parts

argument-value : (argument : Argument) → argument_references argument ≡ expr_references argument.value
argument-value argument =
    fold-roll-Argument References References reference.expr_step reference.argument_step
    (record { param = argument.param; value = argument.value })

arguments-joined : (arguments : List Argument) → reference.joined (map argument_references arguments) ≡ arguments_references arguments
arguments-joined [] = refl
arguments-joined (argument ∷ arguments) = rw (argument-value argument, arguments-joined arguments) refl

exprs-joined : (es : List IExpr) → reference.joined (map expr_references es) ≡ exprs_references es
exprs-joined [] = refl
exprs-joined (e ∷ es) = ap (λ rest. expr_references e ++ rest) (exprs-joined es)

-- ---- expressions

pub rolled : (x : IExpr-F IExpr Argument)
    → expr_references (roll-IExpr x) ≡ reference.expr_step (map-IExpr _ _ _ _ expr_references argument_references x)
rolled x = fold-roll-IExpr References References reference.expr_step reference.argument_step x

-- what a name, a type or an expression in front, and arguments after it, make
call-references : (method : Id) (arguments : List Argument)
    → expr_references (exprs.Call method arguments) ≡ method_target method ∷ arguments_references arguments
call-references method arguments =
    ap expr_references (sym (exprs.rolls-Call method arguments)) ∙ rolled (IExpr-F.Call method arguments)
    ∙ ap (λ rest. method_target method ∷ rest) (arguments-joined arguments)

call_on-references : (method : Id) (e : IExpr) (arguments : List Argument)
    → expr_references (exprs.CallOn method e arguments) ≡ expr_references e ++ method_target method ∷ arguments_references arguments
call_on-references method e arguments =
    ap expr_references (sym (exprs.rolls-CallOn method e arguments)) ∙ rolled (IExpr-F.CallOn method e arguments)
    ∙ ap (λ rest. expr_references e ++ method_target method ∷ rest) (arguments-joined arguments)

creation-references : (constructor : Id) (arguments : List Argument)
    → expr_references (exprs.New constructor arguments) ≡ method_target constructor ∷ arguments_references arguments
creation-references constructor arguments =
    ap expr_references (sym (exprs.rolls-New constructor arguments)) ∙ rolled (IExpr-F.New constructor arguments)
    ∙ ap (λ rest. method_target constructor ∷ rest) (arguments-joined arguments)

pub expressions_in_order : ExpressionsInOrder
expressions_in_order = record {
  member = λ field e. ap expr_references (sym (exprs.rolls-Field field e)) ∙ rolled (IExpr-F.Field field e);
  call = call-references;
  call_on = call_on-references;
  static_call = λ method arguments.
      ap expr_references (sym (exprs.rolls-StaticCall method arguments)) ∙ rolled (IExpr-F.StaticCall method arguments)
      ∙ ap (λ rest. method_target method ∷ rest) (arguments-joined arguments);
  super_call = λ method arguments.
      ap expr_references (sym (exprs.rolls-SuperCall method arguments)) ∙ rolled (IExpr-F.SuperCall method arguments)
      ∙ ap (λ rest. method_target method ∷ rest) (arguments-joined arguments);
  creation = creation-references;
  outside_member = λ name e. ap expr_references (sym (exprs.rolls-OutsideField name e)) ∙ rolled (IExpr-F.OutsideField name e);
  outside_call = λ name arguments.
      ap expr_references (sym (exprs.rolls-OutsideCall name arguments)) ∙ rolled (IExpr-F.OutsideCall name arguments)
      ∙ ap (λ rest. outside_target name ∷ rest) (exprs-joined arguments);
  outside_super_call = λ name arguments.
      ap expr_references (sym (exprs.rolls-OutsideSuperCall name arguments)) ∙ rolled (IExpr-F.OutsideSuperCall name arguments)
      ∙ ap (λ rest. outside_target name ∷ rest) (exprs-joined arguments);
  outside_call_on = λ name e arguments.
      ap expr_references (sym (exprs.rolls-OutsideCallOn name e arguments)) ∙ rolled (IExpr-F.OutsideCallOn name e arguments)
      ∙ ap (λ rest. expr_references e ++ outside_target name ∷ rest) (exprs-joined arguments);
  outside_creation = λ type arguments.
      ap expr_references (sym (exprs.rolls-NewOutside type arguments)) ∙ rolled (IExpr-F.NewOutside type arguments)
      ∙ ap (λ rest. type_references type ++ rest) (exprs-joined arguments);
  new_array = λ type sizes pairs.
      ap expr_references (sym (exprs.rolls-NewArray type sizes pairs)) ∙ rolled (IExpr-F.NewArray type sizes pairs)
      ∙ ap (λ rest. type_references type ++ rest) (exprs-joined sizes);
  array = λ type items.
      ap expr_references (sym (exprs.rolls-ArrayLit type items)) ∙ rolled (IExpr-F.ArrayLit type items)
      ∙ ap (λ rest. type_references type ++ rest) (exprs-joined items);
  braces = λ items. ap expr_references (sym (exprs.rolls-Braces items)) ∙ rolled (IExpr-F.Braces items) ∙ exprs-joined items;
  index = λ e index. ap expr_references (sym (exprs.rolls-Index e index)) ∙ rolled (IExpr-F.Index e index);
  choice = λ test first second. ap expr_references (sym (exprs.rolls-Cond test first second)) ∙ rolled (IExpr-F.Cond test first second);
  operands = λ operator left right.
      ap expr_references (sym (exprs.rolls-Binary operator left right)) ∙ rolled (IExpr-F.Binary operator left right);
  assignment = λ operator left right.
      ap expr_references (sym (exprs.rolls-Assign operator left right)) ∙ rolled (IExpr-F.Assign operator left right);
  cast = λ type e. ap expr_references (sym (exprs.rolls-Cast type e)) ∙ rolled (IExpr-F.Cast type e);
  instance = λ e type. ap expr_references (sym (exprs.rolls-InstanceOf e type)) ∙ rolled (IExpr-F.InstanceOf e type);
}

-- ---- statements

rolled_node : (x : IStmtNode-F IElse IStmtNode IBlock IIf IStmt)
    → node_references (roll-IStmtNode x)
    ≡ reference.node_step
    (map-IStmtNode _ _ _ _ _ _ _ _ _ _ else_references node_references block_references if_references statement_references x)
rolled_node x = fold-roll-IStmtNode References References References References References reference.else_step reference.node_step
    reference.block_step reference.if_step reference.statement_step x

statements-joined : (items : List IStmt) → reference.joined (map statement_references items) ≡ flat_map statement_references items
statements-joined [] = refl
statements-joined (item ∷ items) = ap (λ rest. statement_references item ++ rest) (statements-joined items)

pub statements_in_order : StatementsInOrder
statements_in_order = record {
  statements = λ items tail.
      fold-roll-IBlock References References References References References reference.else_step reference.node_step
      reference.block_step reference.if_step reference.statement_step (record { items = items; tail = tail }) ∙ statements-joined items;
  declaration = λ declared. ap node_references (sym (nodes.rolls-Let declared)) ∙ rolled_node (IStmtNode-F.Let declared);
  while = λ test block. ap node_references (sym (nodes.rolls-While test block)) ∙ rolled_node (IStmtNode-F.While test block);
  for = λ start test steps block.
      ap node_references (sym (nodes.rolls-For start test steps block)) ∙ rolled_node (IStmtNode-F.For start test steps block);
  each = λ is_final type name e block.
      ap node_references (sym (nodes.rolls-Each is_final type name e block)) ∙ rolled_node (IStmtNode-F.Each is_final type name e block);
  super = λ constructor arguments.
      ap node_references (sym (nodes.rolls-Super constructor arguments)) ∙ rolled_node (IStmtNode-F.Super constructor arguments);
  outside_super = λ arguments.
      ap node_references (sym (nodes.rolls-SuperOutside arguments)) ∙ rolled_node (IStmtNode-F.SuperOutside arguments);
  branch = λ test then rest.
      fold-roll-IIf References References References References References reference.else_step reference.node_step
      reference.block_step reference.if_step reference.statement_step (record { test = test; then = then; rest = rest });
}
