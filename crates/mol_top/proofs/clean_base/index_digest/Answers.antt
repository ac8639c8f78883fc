use Rattle.std.proofs.Common.{inl}
use Rattle.mol_top.proofs.clean_base.index_digest.Goals as goal

pub returns-in-Err-clause-stop : goal.returns-in-Err-clause-stop
returns-in-Err-clause-stop c = inl (record { status = c.out_of_memory.ensures.status; line = c.out_of_memory.ensures.line })
