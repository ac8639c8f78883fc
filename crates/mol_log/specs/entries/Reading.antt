-- What the calls that read rows answer.
use Rattle.std.specs.Prelude.{◌≡◌, ◌⊎◌, ℕ, List, Result, Ok, Err, IfOk}
use Rattle.mol_log_rows.specs.declared.rows.row.Recorded.{Recorded}
use Rattle.mol_log_words.specs.declared.fault.BadWord.{BadWord}
use Rattle.mol_log_words.specs.declared.fault.BadWord.TheVariants.{OutOfMemory, Bad}
use Rattle.mol_log.specs.entries.Entries.{SpellsEntry}
use Rattle.mol_log.specs.entries.Trees as trees
use Rattle.mol_log.specs.entries.Trees.{Part, HaveBad}
use Rattle.mol_log.specs.declared.entries.entry.Entry.{Entry}

-- why nothing is read: the first bad word of some lists of words, or no memory
abbrev pub Fails : List Part → BadWord → Type 0
Fails parts OutOfMemory = Unit {0}
Fails parts (Bad word) = HaveBad parts word

-- what the lists are read as, or why not
abbrev pub ReadsAs : {T : Type 0} → (T → Type 0) → List Part → Result T BadWord → Type 0
ReadsAs Spells parts (Ok tree) = Spells tree
ReadsAs Spells parts (Err fault) = Fails parts fault

-- the entry that a row spells, else the row's first bad word, unless memory runs out
pub record IsEntryRead (recorded : Recorded) (result : Result Entry BadWord) : Type 0 where
  pub spelled : IfOk result (λ entry. SpellsEntry recorded entry)
  pub back : (entry : Entry) → SpellsEntry recorded entry → (result ≡ Ok entry) ⊎ (result ≡ Err OutOfMemory)
  pub bad : (word : ℕ) → result ≡ Err (Bad word) → trees.Bad recorded.row word
