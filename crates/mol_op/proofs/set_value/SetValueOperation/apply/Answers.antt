use Rattle.std.proofs.Common.{◌∙◌, sym, [], ◌∷◌}
use Rattle.mol_values_types.specs.declared.value.Value.TheVariants as values
use Rattle.mol_op.specs.Changes.{written}
use Rattle.mol_op.specs.Rows.{write}
use Rattle.mol_op.specs.Keeping.Sets.{set_value-may, set_value-names}
use Rattle.mol_op.proofs.set_value.SetValueOperation.apply.Goals as goal

pub set_cell-requires : goal.set_cell-requires
set_cell-requires c = rw (c.in_ok-ty.ensures, c.in_ok-init.ensures, c.in_ok-value.ensures) (set_value-may c.args.table.now c.args.self.now c.args.tag c.in_ok-applies.ensures)

pub returns-clause-ok : goal.returns-clause-ok
returns-clause-ok c =
    let op = c.args.self.now in
    c.set_cell.ensures
    ∙ (λ i. written c.args.table.now (write op.field (values.Value (c.in_ok-ty.ensures i) ((c.in_ok-init.ensures ∙ c.in_ok-value.ensures) i)) ∷ []) (sym (set_value-names op) i))
