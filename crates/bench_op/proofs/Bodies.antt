-- A block without statements is a body.
use Rattle.std.proofs.Common.{◌≡◌, Bool, true, [], ap}
use Rattle.mol_table_rules.specs.StatementForms.{StatementShape, BlockShape, is_body, block_shape, else_step}
use Rattle.mol_table_rules.specs.StatementForms.{node_step, block_step, if_step, statement_step}
use Rattle.mol_values_types.specs.Blocks.{block_of}
use Rattle.mol_values_types.specs.declared.iblock.IElse.TheFolds.{fold-roll-IBlock}

empty-shape : block_shape (block_of [] []) ≡ block_step (record { items = []; tail = [] })
empty-shape =
    fold-roll-IBlock Bool StatementShape BlockShape Bool StatementShape else_step node_step block_step if_step statement_step
    (record { items = []; tail = [] })

pub empty_body : is_body (record { block = block_of [] [] }) ≡ true
empty_body = ap (λ (shape : BlockShape). shape.body) empty-shape
