use Rattle.std.proofs.Common.{◌∙◌, ap, [], ◌∷◌}
use Rattle.mol_table_rules.specs.Program.{cell}
use Rattle.mol_table_rules.specs.Writes.{with_value}
use Rattle.mol_values_types.specs.declared.cell.Slot.TheVariants as slots
use Rattle.mol_values_types.specs.declared.value.Value.TheVariants as values
use Rattle.mol_op.specs.Changes.{written}
use Rattle.mol_op.specs.Rows.{write}
use Rattle.mol_op.specs.Keeping.Signature.{params-there, params-rules, params-written, result-may, signature-written}
use Rattle.mol_op.proofs.change_signature.ChangeSignatureOperation.apply.Goals as goal

pub set-requires-clause-there : goal.set-requires-clause-there
set-requires-clause-there c = params-there c.args.table.now c.rules.ensures c.args.self.now c.args.tag c.in_ok-applies.ensures

pub set-requires-clause-rules : goal.set-requires-clause-rules
set-requires-clause-rules c = rw (c.in_ok-params.ensures, c.items.ensures) (params-rules c.args.table.now c.rules.ensures c.args.self.now c.args.tag c.in_ok-applies.ensures)

pub set_cell-requires : goal.set_cell-requires
set_cell-requires c =
    rw (c.in_ok-set.ensures.ok, c.in_ok-params.ensures, c.items.ensures, c.in_ok-gives.ensures, params-written c.args.table.now c.rules.ensures c.args.self.now c.args.tag c.in_ok-applies.ensures)
    (result-may c.args.table.now c.rules.ensures c.args.self.now c.args.tag c.in_ok-applies.ensures)

pub returns-clause-ok : goal.returns-clause-ok
returns-clause-ok c =
    let table = c.args.table.now in
    let op = c.args.self.now in
    let params = c.in_ok-set.ensures.ok ∙ ap (λ ps. with_value table (cell op.method slots.Params) (values.Params ps)) (c.in_ok-params.ensures ∙ c.items.ensures)
    ∙ params-written table c.rules.ensures op c.args.tag c.in_ok-applies.ensures in
    c.set_cell.ensures
    ∙ (λ i. written (params i) (write op.method (values.Result (c.in_ok-gives.ensures i)) ∷ []) [])
    ∙ signature-written table c.rules.ensures op c.args.tag c.in_ok-applies.ensures
