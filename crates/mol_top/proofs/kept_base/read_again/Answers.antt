use Rattle.mol_top.proofs.KeptBases.{same_again}
use Rattle.mol_top.proofs.kept_base.read_again.Goals as goal

pub returns-in-Ok : goal.returns-in-Ok
returns-in-Ok c = λ base are. same_again c.args.alloc c.args.sources.now c.in-Ok.table base c.in-Ok.ensures.read are
