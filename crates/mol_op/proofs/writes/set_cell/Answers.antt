use Rattle.mol_op.specs.Keeping.Setting.{is-there, rules-set}
use Rattle.mol_op.proofs.writes.set_cell.Goals as goal

pub set-requires-clause-there : goal.set-requires-clause-there
set-requires-clause-there c = rw c.slot.ensures (is-there c.args.table.now c.rules.ensures c.args.id.now c.args.value c.requires)

pub set-requires-clause-rules : goal.set-requires-clause-rules
set-requires-clause-rules c = rw c.slot.ensures (rules-set c.args.table.now c.rules.ensures c.args.id.now c.args.value c.requires)
