use Rattle.std.proofs.Common.{refl}
use Rattle.mol_merge.proofs.merging.of_second.Goals as goal

pub returns-in-OutOfMemory-clause-told : goal.returns-in-OutOfMemory-clause-told
returns-in-OutOfMemory-clause-told c = λ other. absurd (other refl)

pub returns-in_default-clause-told : goal.returns-in_default-clause-told
returns-in_default-clause-told c = λ other. (c.in_default.not-OutOfMemory, refl)
