-- The entries of a log as its history.
use Rattle.std.proofs.Common.{◌≡◌, ◌≤◌, ◌<◌, ℕ, sym, subst, List, length, Some, get_or}
use Rattle.mol_log.specs.declared.entries.entry.Entry.{Entry}
use Rattle.mol_log_rules.proofs.LogEntries.{changes-of}
use Rattle.mol_log_rules.proofs.Refusals.{refused-at}
use Rattle.mol_log_rules.specs.Histories.{AppliesOn, after, first_refused}
use Rattle.mol_log_rules.specs.Logs.{change_of, history_of}
use Rattle.mol_op.proofs.Leaves.{FirstApplied, all-applied}
use Rattle.mol_op.specs.Entries.{Change, Applies, leaves}
use Rattle.mol_op.specs.declared.fault.OpFault.{OpFault}
use Rattle.mol_table_rules.specs.Program.{Program}

-- where all entries are applied, the history applies, and what it leaves is there
pub all-entries : (entries items : List Entry) (count : ℕ) (base new : Program) → items ≡ entries → length items ≤ count
    → FirstApplied items change_of base count new → AppliesOn base (history_of entries) × (new ≡ after base (history_of entries))
all-entries entries items count base new same whole done =
    let all = all-applied items change_of count base new whole done in
    subst (λ (es : List Entry). AppliesOn base (history_of es) × (new ≡ after base (history_of es))) same
    (subst (λ (each : List Change). Applies base each × (new ≡ leaves base each)) (sym (changes-of items)) (all.each, all.left))

-- where those before a place are applied and the one at the place is refused, it is the first one
pub refused-entry : (entries items : List Entry) (at : ℕ) (entry : Entry) (base now : Program) (why : OpFault) → items ≡ entries
    → at < length items → entry ≡ get_or items at entry → FirstApplied items change_of base at now
    → (change_of entry).fault now.known ≡ Some why → first_refused base (history_of entries) ≡ Some (entry.stamp, why)
refused-entry entries items at entry base now why same within is done fails =
    subst (λ (es : List Entry). first_refused base (history_of es) ≡ Some (entry.stamp, why)) same
    (refused-at items at entry base now why within is done fails)
