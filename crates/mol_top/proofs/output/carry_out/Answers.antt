use Rattle.std.proofs.Common.{inl}
use Rattle.mol_top.specs.Outside.{state}
use Rattle.mol_top.proofs.WritingFiles.{cut_at}
use Rattle.mol_top.proofs.output.carry_out.Goals as goal

pub returns-in-Err-clause-left : goal.returns-in-Err-clause-left
returns-in-Err-clause-left g c =
    inl (cut_at c.args.work.files.items c.in-Err.k c.swap_remove.result c.args.work.failures.items
    (state g.F.Files g.S.Sink c.args.files.now c.args.out.now) (state g.F.Files g.S.Sink c.write_all.new.files c.put_failure.new.out)
    (rw c.as_slice.ensures.value at c.in-Err.ensures.place) c.swap_remove.ensures.value (rw c.as_slice.ensures.value at c.in-Err.ensures.part) c.requires.named c.requires.failures
    (λ line is. c.put_failure.ensures.line line (rw c.as_slice-in-Err.ensures.value is)))
