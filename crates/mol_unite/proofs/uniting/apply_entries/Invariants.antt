use Rattle.mol_unite.proofs.Entries.{IsToLeave}
use Rattle.mol_unite.proofs.uniting.apply_entries.Given as goal
use Rattle.std.proofs.Common.{drop}

abbrev pub invariant-loop-entry : goal.invariant-loop-entry
invariant-loop-entry l = IsToLeave l.initial.table l.entries (drop l.entry-index l.entries) l.table
