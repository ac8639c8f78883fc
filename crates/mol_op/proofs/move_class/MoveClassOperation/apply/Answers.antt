use Rattle.mol_op.specs.Keeping.Sets.{move_class-may}
use Rattle.mol_op.proofs.move_class.MoveClassOperation.apply.Goals as goal

pub set_cell-requires : goal.set_cell-requires
set_cell-requires c = rw c.in_ok-package.ensures (move_class-may c.args.table.now c.args.self.now c.args.tag c.in_ok-applies.ensures)
