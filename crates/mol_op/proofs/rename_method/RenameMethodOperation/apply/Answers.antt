use Rattle.mol_op.specs.Keeping.Sets.{rename_method-may}
use Rattle.mol_op.proofs.rename_method.RenameMethodOperation.apply.Goals as goal

pub set_cell-requires : goal.set_cell-requires
set_cell-requires c = rw c.in_ok-name.ensures (rename_method-may c.args.table.now c.args.self.now c.args.tag c.in_ok-applies.ensures)
