use Rattle.std.proofs.Common.{◌≡◌}
use Rattle.mol_top.specs.Output.{below}
use Rattle.mol_base.specs.Files.{file_pairs}
use Rattle.mol_top.proofs.output.below.Given as goal

abbrev pub invariant-loop-file : goal.invariant-loop-file
invariant-loop-file l = file_pairs l.list.items ≡ below l.out (file_pairs l.yielded)
