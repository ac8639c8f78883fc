use Rattle.std.proofs.Common.{inl, inr, refl}
use Rattle.mol_top.proofs.clean_base.unclean.Goals as goal

pub returns-in-Ok : goal.returns-in-Ok
returns-in-Ok c = inr (record { refused = record { fault = c.args.fault; first = c.requires; is = refl }; line = c.in-Ok.ensures })

pub returns-in-Err : goal.returns-in-Err
returns-in-Err c = inl (record { status = c.out_of_memory.ensures.status; line = c.out_of_memory.ensures.line })
