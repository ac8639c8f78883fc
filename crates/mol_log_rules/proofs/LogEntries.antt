-- The entries of logs as changes.
use Rattle.std.proofs.Common.{◌≡◌, refl, ap, List, [], ◌∷◌, ◌++◌, map}
use Rattle.std.proofs.lemmas.List.{map-append}
use Rattle.mol_log.specs.declared.entries.entry.Entry.{Entry}
use Rattle.mol_log_rules.specs.Histories.{changes}
use Rattle.mol_log_rules.specs.Lawful.{IsLawful, AreLawful}
use Rattle.mol_log_rules.specs.Logs.{change_of, stamped, history_of}
use Rattle.mol_op.specs.Keeping.Kinds.{op-keeps}
use Rattle.mol_op.specs.Laws.{condition-named, condition-grows}
use Rattle.mol_op.specs.Rows.{op_tests}

-- the laws that operations of all kinds have in common
entry-lawful : (entry : Entry) → IsLawful entry.stamp.tag (change_of entry)
entry-lawful entry = record {
  named = condition-named (op_tests entry.op) entry.stamp.tag;
  grows = condition-grows (op_tests entry.op) entry.stamp.tag;
  keeps = op-keeps entry.op entry.stamp.tag;
}

pub entries-lawful : (entries : List Entry) → AreLawful (history_of entries)
entries-lawful [] = tt {0}
entries-lawful (entry ∷ entries) = (entry-lawful entry, entries-lawful entries)

-- the changes of a history of entries are those of the entries
pub changes-of : (entries : List Entry) → changes (history_of entries) ≡ map change_of entries
changes-of [] = refl
changes-of (entry ∷ entries) = ap (λ more. change_of entry ∷ more) (changes-of entries)

pub history-append : (front back : List Entry) → history_of (front ++ back) ≡ history_of front ++ history_of back
history-append front back = map-append stamped front back
