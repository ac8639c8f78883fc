use Rattle.std.proofs.Common.{take}
use Rattle.mol_top.specs.Outside.{store}
use Rattle.mol_top.proofs.WritingFiles.{HasWritten}
use Rattle.mol_top.proofs.output.write_all.Given as goal

abbrev pub invariant-loop-k : goal.invariant-loop-k
invariant-loop-k g l = HasWritten (store g.F.Files l.fn.files) (store g.F.Files l.files) (take l.k l.list)
