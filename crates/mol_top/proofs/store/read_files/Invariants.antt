use Rattle.std.proofs.Common.{length}
use Rattle.mol_top.specs.Outside.{store}
use Rattle.mol_top.proofs.ReadingFiles.{HasRead}
use Rattle.mol_top.proofs.store.read_files.Given as goal

abbrev pub invariant-loop-path : goal.invariant-loop-path
invariant-loop-path g l = HasRead (store g.F.Files l.fn.files) (store g.F.Files l.files) l.base l.fn.paths.items (length l.yielded) l.total l.read.items
