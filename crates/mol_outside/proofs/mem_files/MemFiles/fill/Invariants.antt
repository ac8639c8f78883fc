use Rattle.std.proofs.Common.{◌≡◌, ◌≤◌, drop, length}
use Rattle.mol_outside.specs.Stored.{filled}
use Rattle.mol_outside.proofs.mem_files.MemFiles.fill.Given as goal

abbrev pub invariant-loop-rest : goal.invariant-loop-rest
invariant-loop-rest l = (l.self ≡ filled l.fn.self (drop l.rest l.files)) × (l.rest ≤ length l.files)

abbrev pub decreases-loop-rest : goal.decreases-loop-rest
decreases-loop-rest l = l.rest
