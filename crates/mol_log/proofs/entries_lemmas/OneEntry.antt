-- A row spells one entry.
use mathlib.Core.HLevel.{is_prop→PathP}
use Rattle.std.proofs.Math.Logic.{∥∥₁_prop}
use Rattle.std.proofs.Common.{◌≡◌, sym, ◌∙◌}
use Rattle.mol_log_rows.specs.declared.rows.row.Recorded.{Recorded}
use Rattle.mol_log.proofs.entries_lemmas.OneOperation.{one_op}
use Rattle.mol_log.specs.entries.Entries.{SpellsEntry}
use Rattle.mol_log.specs.entries.EntryForms.{IsEntry}
use Rattle.mol_log.specs.declared.entries.entry.Entry.{Entry}

-- Entries of one stamp and one operation are the same: that an entry has its form has one proof.
pub same_entry : {entry entry' : Entry} → entry.stamp ≡ entry'.stamp → entry.op ≡ entry'.op → entry ≡ entry'
same_entry {entry} {entry'} stamp op = λ i. record {
  stamp = stamp i;
  op = op i;
  formed = is_prop→PathP (λ j. ∥ IsEntry (stamp j) (op j) ∥₁) (λ j. ∥∥₁_prop) entry.formed entry'.formed i;
}

pub one_entry : {row : Recorded} {entry entry' : Entry} → SpellsEntry row entry → SpellsEntry row entry' → entry ≡ entry'
one_entry a b = same_entry (a.stamp ∙ sym b.stamp) (one_op a.op b.op)
