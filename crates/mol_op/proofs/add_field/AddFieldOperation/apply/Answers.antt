use Rattle.std.proofs.Common.{◌∙◌, ap}
use Rattle.mol_table_rules.specs.Writes.{with_entities}
use Rattle.mol_op.specs.Keeping.AddedOne.{field-may, field-written}
use Rattle.mol_op.proofs.add_field.AddFieldOperation.apply.Goals as goal

pub add-requires : goal.add-requires
add-requires c = rw c.in_ok-entities.ensures (field-may c.args.table.now c.rules.ensures c.args.self.now c.args.tag c.in_ok-applies.ensures)

pub returns-clause-ok : goal.returns-clause-ok
returns-clause-ok c =
    c.in_ok-add.ensures.ok
    ∙ ap (with_entities c.args.table.now) c.in_ok-entities.ensures
    ∙ field-written c.args.table.now c.rules.ensures c.args.self.now c.args.tag c.in_ok-applies.ensures
