use Rattle.std.proofs.Common.{inl, inr, refl}
use Rattle.mol_top.proofs.logs.refusal_with.Goals as goal

pub returns-in-OutOfMemory : goal.returns-in-OutOfMemory
returns-in-OutOfMemory c = inl (record { status = c.out_of_memory.ensures.status; line = c.out_of_memory.ensures.line })

pub returns-in_default : goal.returns-in_default
returns-in_default c = inr (record { enough = c.in_default.not-OutOfMemory; is = refl; says = refl })
