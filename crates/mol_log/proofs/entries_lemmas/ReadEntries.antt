-- What is read of a row is the entry that it spells.
use Rattle.std.proofs.Common.{◌≡◌, ◌⊎◌, inl, inr, ℕ, Result, Ok, Err, refl, ap, subst}
use Rattle.std.specs.Prelude.{IfOk}
use Rattle.mol_log_rows.specs.declared.rows.row.Recorded.{Recorded}
use Rattle.mol_log_words.specs.declared.fault.BadWord.{BadWord}
use Rattle.mol_log_words.specs.declared.fault.BadWord.TheVariants.{OutOfMemory, Bad}
use Rattle.mol_log.proofs.entries_lemmas.GoodParts.{clash}
use Rattle.mol_log.proofs.entries_lemmas.OneEntry.{one_entry}
use Rattle.mol_log.specs.entries.Entries.{SpellsEntry}
use Rattle.mol_log.specs.entries.Reading.{ReadsAs, IsEntryRead}
use Rattle.mol_log.specs.entries.Trees as trees
use Rattle.mol_log.specs.entries.Trees.{HaveBad, parts}
use Rattle.mol_log.specs.declared.entries.entry.Entry.{Entry}

module _ (recorded : Recorded) where
  abbrev Reads : Result Entry BadWord → Type 0
  Reads result = ReadsAs (λ entry. SpellsEntry recorded entry) (parts recorded.row) result

  spelled : (result : Result Entry BadWord) → Reads result → IfOk result (λ entry. SpellsEntry recorded entry)
  spelled (Ok entry) reads = reads
  spelled (Err fault) reads = tt

  back : (result : Result Entry BadWord) → Reads result → (entry : Entry) → SpellsEntry recorded entry
      → (result ≡ Ok entry) ⊎ (result ≡ Err OutOfMemory)
  back (Ok found) reads entry spells = inl (ap Ok (one_entry reads spells))
  back (Err OutOfMemory) reads entry spells = inr refl
  back (Err (Bad word)) reads entry spells = absurd (clash spells.op reads)

  bad : (result : Result Entry BadWord) → Reads result → (word : ℕ) → result ≡ Err (Bad word) → trees.Bad recorded.row word
  bad (Ok found) reads word is = absurd cc
  bad (Err OutOfMemory) reads word is = absurd cc
  bad (Err (Bad first)) reads word is = let same : first ≡ word = cc in subst (HaveBad (parts recorded.row)) same reads

  pub entry-read : (result : Result Entry BadWord) → Reads result → IsEntryRead recorded result
  entry-read result reads = record { spelled = spelled result reads; back = back result reads; bad = bad result reads }
