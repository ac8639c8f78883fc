use Rattle.mol_base.proofs.Tags.{over_zeros}
use Rattle.mol_base.proofs.tag.with_zeros.Goals as goal

pub returns : goal.returns
returns c = rw c.copy_from_slice.ensures.after (over_zeros c.args.bytes.now)
