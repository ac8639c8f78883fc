-- The blocks and bodies in values (JLS 14).
use Rattle.std.specs.Prelude.{Bool, true, false, ◌&&◌, not, nat_le, List, length, map, drop, Option}
use Rattle.std.specs.List.{list_all, list_any}
use Rattle.std.specs.Option.{option_map_or}
use Rattle.mol_table_rules.specs.ExpressionForms.{is_initial, is_expression, is_statement, shape_of, are_arguments}
use Rattle.mol_values_types.specs.TokenForms.{is_name, are_comments}
use Rattle.mol_table_rules.specs.TypeForms.{is_type}
use Rattle.mol_values_types.specs.declared.iblock.IBlock.{IBlock, fold-IBlock}
use Rattle.mol_values_types.specs.declared.iblock.IBody.{IBody}
use Rattle.mol_values_types.specs.declared.iblock.IDeclarator.{IDeclarator}
use Rattle.mol_values_types.specs.declared.iblock.IForStart.{IForStart}
use Rattle.mol_values_types.specs.declared.iblock.IForStart.TheVariants as starts
use Rattle.mol_values_types.specs.declared.iblock.ILet.{ILet}
use Rattle.mol_values_types.specs.declared.iblock.IElse.TheOpen.{IElse-F, IStmtNode-F, IBlock-F, IIf-F, IStmt-F}
use Rattle.mol_values_types.specs.declared.iexpr.Argument.{Argument}
use Rattle.mol_values_types.specs.declared.iexpr.IExpr.{IExpr}

-- what the form of the whole asks of a statement in it
pub record StatementShape : Type 0 where
  -- it and all that it holds have their forms
  pub formed : Bool
  -- it is `super(..)`, which stands first in a body and nowhere else
  pub is_super : Bool

-- what it asks of a block
pub record BlockShape : Type 0 where
  -- the block may stand inside a body
  pub formed : Bool
  -- the block may be a body
  pub body : Bool

abbrev pub ordinary : Bool → StatementShape
ordinary formed = record { formed = formed; is_super = false }

abbrev pub super_first : Bool → StatementShape
super_first formed = record { formed = formed; is_super = true }

abbrev pub is_maybe : Option IExpr → Bool
is_maybe e = option_map_or is_expression e true

abbrev pub is_declarator : IDeclarator → Bool
is_declarator declarator = is_name declarator.name && option_map_or is_initial declarator.init true

-- at least one variable
abbrev pub is_let : ILet → Bool
is_let declared = is_type declared.ty && nat_le 1 (length declared.names) && list_all is_declarator declared.names

-- at least one expression
abbrev pub is_start : IForStart → Bool
is_start starts.None = true
is_start (starts.Let declared) = is_let declared
is_start (starts.Do es) = nat_le 1 (length es) && list_all is_statement es

abbrev pub else_step : IElse-F Bool StatementShape BlockShape Bool StatementShape → Bool
else_step IElse-F.None = true
else_step (IElse-F.IElse::Block block) = block.formed
else_step (IElse-F.IElse::If branch) = branch

abbrev pub node_step : IStmtNode-F Bool StatementShape BlockShape Bool StatementShape → StatementShape
node_step (IStmtNode-F.IStmtNode::Block block) = ordinary block.formed
node_step (IStmtNode-F.Let declared) = ordinary (is_let declared)
node_step (IStmtNode-F.Do e) = ordinary (is_statement e)
node_step (IStmtNode-F.IStmtNode::If branch) = ordinary branch
node_step (IStmtNode-F.While test block) = ordinary (is_expression test && block.formed)
node_step (IStmtNode-F.For start test steps block) =
    ordinary (is_start start && is_maybe test && list_all is_statement steps && block.formed)
node_step (IStmtNode-F.Each is_final ty name e block) = ordinary (is_type ty && is_name name && is_expression e && block.formed)
node_step (IStmtNode-F.Return e) = ordinary (is_maybe e)
node_step (IStmtNode-F.Throw e) = ordinary (is_expression e)
node_step IStmtNode-F.Break = ordinary true
node_step IStmtNode-F.Continue = ordinary true
node_step IStmtNode-F.Empty = ordinary true
node_step (IStmtNode-F.Super constructor args) = super_first (are_arguments (map (λ (argument : Argument). shape_of argument.value) args))
node_step (IStmtNode-F.SuperDefault class) = super_first true
node_step (IStmtNode-F.SuperOutside args) = super_first (are_arguments (map shape_of args))

abbrev pub are_formed : List StatementShape → Bool
are_formed shapes = list_all (λ (shape : StatementShape). shape.formed) shapes

abbrev pub has_super : List StatementShape → Bool
has_super shapes = list_any (λ (shape : StatementShape). shape.is_super) shapes

abbrev pub block_step : IBlock-F Bool StatementShape BlockShape Bool StatementShape → BlockShape
block_step block = record {
  formed = are_formed block.items && are_comments block.tail && not (has_super block.items);
  body = are_formed block.items && are_comments block.tail && not (has_super (drop 1 block.items));
}

abbrev pub if_step : IIf-F Bool StatementShape BlockShape Bool StatementShape → Bool
if_step branch = is_expression branch.test && branch.then.formed && branch.rest

abbrev pub statement_step : IStmt-F Bool StatementShape BlockShape Bool StatementShape → StatementShape
statement_step statement = record { formed = are_comments statement.notes && statement.node.formed; is_super = statement.node.is_super }

abbrev pub block_shape : IBlock → BlockShape
block_shape = fold-IBlock Bool StatementShape BlockShape Bool StatementShape else_step node_step block_step if_step statement_step

-- In which kind of method `super(..)` stands is not looked at.
abbrev pub is_body : IBody → Bool
is_body body = (block_shape body.block).body
