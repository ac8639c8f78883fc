use Rattle.std.proofs.Common.{◌≡◌, take, map}
use Rattle.mol_top.specs.Output.{failure_of}
use Rattle.mol_top.proofs.output.failure_lines.Given as goal

abbrev pub invariant-loop-file : goal.invariant-loop-file
invariant-loop-file l = l.lines.items ≡ map failure_of (take l.file-index l.files)
