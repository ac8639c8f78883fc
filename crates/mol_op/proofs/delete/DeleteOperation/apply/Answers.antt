use Rattle.mol_op.specs.Keeping.Sets.{life-may}
use Rattle.mol_op.proofs.delete.DeleteOperation.apply.Goals as goal

pub set_cell-requires : goal.set_cell-requires
set_cell-requires c = life-may c.args.table.now c.args.self.now c.args.tag _ c.in_ok-applies.ensures
