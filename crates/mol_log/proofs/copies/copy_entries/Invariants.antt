use Rattle.std.proofs.Common.{◌≡◌, take}
use Rattle.mol_log.proofs.copies.copy_entries.Given as goal

abbrev pub invariant-loop-entry : goal.invariant-loop-entry
invariant-loop-entry l = l.all ≡ take l.entry-index l.entries
