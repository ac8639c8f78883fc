use Rattle.std.proofs.Common.{◌∙◌, sym, [], ◌∷◌}
use Rattle.mol_values_types.specs.declared.value.Value.TheVariants as values
use Rattle.mol_op.specs.Changes.{written}
use Rattle.mol_op.specs.Rows.{write}
use Rattle.mol_op.specs.Keeping.Sets.{set_body-may, set_body-names}
use Rattle.mol_op.proofs.set_body.SetBodyOperation.apply.Goals as goal

pub set_cell-requires : goal.set_cell-requires
set_cell-requires c = rw c.in_ok-body.ensures (set_body-may c.args.table.now c.rules.ensures c.args.self.now c.args.tag c.in_ok-applies.ensures)

pub returns-clause-ok : goal.returns-clause-ok
returns-clause-ok c =
    let op = c.args.self.now in
    c.set_cell.ensures
    ∙ (λ i. written c.args.table.now (write op.decl (values.Body (c.in_ok-body.ensures i)) ∷ []) (sym (set_body-names op) i))
