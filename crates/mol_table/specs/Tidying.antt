-- What the values of a table are tidied by: the present parameters of its maps, and an index of constructors.
use Rattle.std.specs.Prelude.{ℕ, zero, suc, List, [], ◌∷◌, Option}
use Rattle.std.specs.FinMap.{from_entries, get}
use Rattle.mol_base.specs.Order.{id_cmp}
use Rattle.mol_base.specs.declared.ident.Id.{Id}
use Rattle.mol_table.specs.Maps.{program_in}
use Rattle.mol_table_rules.specs.Program.{params_at}
use Rattle.mol_table_rules.specs.Tidy.{tidy_expr, tidy_argument, tidy_declarator, tidy_let, tidy_start, tidy_else, tidy_node, tidy_block, tidy_if, tidy_statement, tidy_body, tidy_value}
use Rattle.mol_values_types.specs.declared.cell.Cell.{Cell}
use Rattle.mol_values_types.specs.declared.iblock.IBlock.{IBlock}
use Rattle.mol_values_types.specs.declared.iblock.IBody.{IBody}
use Rattle.mol_values_types.specs.declared.iblock.IDeclarator.{IDeclarator}
use Rattle.mol_values_types.specs.declared.iblock.IElse.{IElse}
use Rattle.mol_values_types.specs.declared.iblock.IForStart.{IForStart}
use Rattle.mol_values_types.specs.declared.iblock.IIf.{IIf}
use Rattle.mol_values_types.specs.declared.iblock.ILet.{ILet}
use Rattle.mol_values_types.specs.declared.iblock.IStmt.{IStmt}
use Rattle.mol_values_types.specs.declared.iblock.IStmtNode.{IStmtNode}
use Rattle.mol_values_types.specs.declared.iexpr.Argument.{Argument}
use Rattle.mol_values_types.specs.declared.iexpr.IExpr.{IExpr}
use Rattle.mol_table.specs.declared.maps.Maps.{Maps}
use Rattle.mol_values_types.specs.declared.value.Value.{Value}

-- the constructor that the index has for a class
abbrev pub bare_in : List (Id × Id) → Id → Option Id
bare_in index class = get (from_entries {R = id_cmp} index) class

module _ (maps : Maps) (index : List (Id × Id)) where
  abbrev pub expr_by : IExpr → IExpr
  expr_by = tidy_expr (params_at (program_in maps)) (bare_in index)

  abbrev pub argument_by : Argument → Argument
  argument_by = tidy_argument (params_at (program_in maps)) (bare_in index)

  abbrev pub declarator_by : IDeclarator → IDeclarator
  declarator_by = tidy_declarator (params_at (program_in maps)) (bare_in index)

  abbrev pub let_by : ILet → ILet
  let_by = tidy_let (params_at (program_in maps)) (bare_in index)

  abbrev pub start_by : IForStart → IForStart
  start_by = tidy_start (params_at (program_in maps)) (bare_in index)

  abbrev pub else_by : IElse → IElse
  else_by = tidy_else (params_at (program_in maps)) (bare_in index)

  abbrev pub node_by : IStmtNode → IStmtNode
  node_by = tidy_node (params_at (program_in maps)) (bare_in index)

  abbrev pub block_by : IBlock → IBlock
  block_by = tidy_block (params_at (program_in maps)) (bare_in index)

  abbrev pub if_by : IIf → IIf
  if_by = tidy_if (params_at (program_in maps)) (bare_in index)

  abbrev pub statement_by : IStmt → IStmt
  statement_by = tidy_statement (params_at (program_in maps)) (bare_in index)

  abbrev pub body_by : IBody → IBody
  body_by = tidy_body (params_at (program_in maps)) (bare_in index)

  abbrev pub value_by : Value → Value
  value_by = tidy_value (params_at (program_in maps)) (bare_in index)

  abbrev pub entry_by : Cell × Value → Cell × Value
  entry_by entry = (entry.0, value_by entry.1)

-- entries of which the value at a place is changed
abbrev pub changed_at : (Value → Value) → ℕ → List (Cell × Value) → List (Cell × Value)
changed_at change place [] = []
changed_at change zero (entry ∷ entries) = (entry.0, change entry.1) ∷ entries
changed_at change (suc place) (entry ∷ entries) = entry ∷ changed_at change place entries
