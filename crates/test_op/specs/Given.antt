-- What arguments and statements are read as.
use Rattle.std.specs.Prelude.{Bool, true, ◌&&◌, not, nat_le, List, [], ◌∷◌, length}
use Rattle.std.specs.List.{list_all}
use Rattle.mol_base.specs.Limits.{max_items}
use Rattle.mol_table_rules.specs.ExpressionForms.{is_expression}
use Rattle.mol_table_rules.specs.StatementForms.{StatementShape, BlockShape, else_step, node_step, block_step, if_step, statement_step}
use Rattle.mol_values_types.specs.declared.iblock.IStmt.{IStmt, fold-IStmt}
use Rattle.mol_values_types.specs.declared.iblock.IStmtNode.{IStmtNode, fold-IStmtNode}
use Rattle.mol_values_types.specs.declared.iexpr.Argument.{Argument}

abbrev pub is_argument : Argument → Bool
is_argument argument = is_expression argument.value

-- at most 255 arguments, each with an expression
abbrev pub are_given : List Argument → Bool
are_given arguments = list_all is_argument arguments && nat_le (length arguments) max_items

abbrev pub node_shape : IStmtNode → StatementShape
node_shape = fold-IStmtNode Bool StatementShape BlockShape Bool StatementShape else_step node_step block_step if_step statement_step

abbrev pub statement_shape : IStmt → StatementShape
statement_shape = fold-IStmt Bool StatementShape BlockShape Bool StatementShape else_step node_step block_step if_step statement_step

-- it may stand first in a body
abbrev pub is_first : IStmt → Bool
is_first item = (statement_shape item).formed

-- it may stand anywhere in a body: it is no `super(..)`
abbrev pub is_later : IStmt → Bool
is_later item = (statement_shape item).formed && not (statement_shape item).is_super

-- statements of which only the first may be `super(..)`
abbrev pub are_a_body : List IStmt → Bool
are_a_body [] = true
are_a_body (first ∷ rest) = is_first first && list_all is_later rest
