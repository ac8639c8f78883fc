use Rattle.mol_op.specs.Keeping.Sets.{move_method-may}
use Rattle.mol_op.proofs.move_method.MoveMethodOperation.apply.Goals as goal

pub set_cell-requires : goal.set_cell-requires
set_cell-requires c = move_method-may c.args.table.now c.args.self.now c.args.tag c.in_ok-applies.ensures
