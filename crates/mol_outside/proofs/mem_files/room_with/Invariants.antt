use Rattle.std.proofs.Common.{◌≡◌, ◌+◌, take, sum_by}
use Rattle.mol_outside.specs.Stored.{size_of}
use Rattle.mol_outside.proofs.mem_files.room_with.Given as goal

abbrev pub invariant-loop-file : goal.invariant-loop-file
invariant-loop-file l = l.all ≡ l.room + sum_by size_of (take l.file-index l.files)
