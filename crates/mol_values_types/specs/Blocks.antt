-- Blocks and `if`s from their parts.
use Rattle.std.specs.Prelude.{ℕ, List}
use Rattle.mol_values_types.specs.declared.iblock.IBlock.{IBlock}
use Rattle.mol_values_types.specs.declared.iblock.IElse.{IElse}
use Rattle.mol_values_types.specs.declared.iblock.IElse.TheViews.{roll-IBlock, roll-IIf}
use Rattle.mol_values_types.specs.declared.iblock.IIf.{IIf}
use Rattle.mol_values_types.specs.declared.iblock.IStmt.{IStmt}
use Rattle.mol_values_types.specs.declared.iexpr.IExpr.{IExpr}

abbrev pub block_of : List IStmt → List (List ℕ) → IBlock
block_of items tail = roll-IBlock (record { items = items; tail = tail })

abbrev pub branch_of : IExpr → IBlock → IElse → IIf
branch_of test then rest = roll-IIf (record { test = test; then = then; rest = rest })
