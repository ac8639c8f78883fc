-- Entries that apply, one after the other.
use Rattle.std.proofs.Common.{◌≡◌, ◌∙◌, ◌+◌, ◌<◌, ◌≤◌, ℕ, List, ◌∷◌, length, drop, get_or, sym, ap, subst}
use Rattle.std.proofs.lemmas.List.{at_drop_all, drop_more}
use Rattle.std.specs.Prelude.{None}
use Rattle.mol_log.specs.declared.entries.entry.Entry.{Entry}
use Rattle.mol_log_rules.specs.Histories.{AppliesOn, after}
use Rattle.mol_log_rules.specs.Logs.{change_of, history_of}
use Rattle.mol_op.specs.Changes.{written}
use Rattle.mol_table_rules.specs.Program.{Program}

-- what is left to be applied applies, and leaves what all of them leave
pub record IsToLeave (base : Program) (entries rest : List Entry) (program : Program) : Type 0 where
  pub applies : AppliesOn program (history_of rest)
  pub leaves : after program (history_of rest) ≡ after base (history_of entries)

module _ (base : Program) (entries : List Entry) (i : ℕ) (entry : Entry) where
  abbrev rest : List Entry
  rest = drop (i + 1) entries

  next : (program : Program) → i < length entries → entry ≡ get_or entries i entry → IsToLeave base entries (drop i entries) program
      → IsToLeave base entries (entry ∷ rest) program
  next program within is so_far =
      subst (λ (left : List Entry). IsToLeave base entries left program)
      (drop_more entries i entry within ∙ ap (λ (first : Entry). first ∷ rest) (sym is)) so_far

  pub entry-applies : (program : Program) → i < length entries → entry ≡ get_or entries i entry
      → IsToLeave base entries (drop i entries) program → (change_of entry).fault program.known ≡ None
  entry-applies program within is so_far = (next program within is so_far).applies.0

  pub entry-applied : (program new : Program) → i < length entries → entry ≡ get_or entries i entry
      → IsToLeave base entries (drop i entries) program
      → new ≡ written program (change_of entry).writes (change_of entry).names → IsToLeave base entries rest new
  entry-applied program new within is so_far left =
      let both = next program within is so_far in
      subst (IsToLeave base entries rest) (sym left) (record { applies = both.applies.1; leaves = both.leaves })

pub all-applied : (base : Program) (entries : List Entry) (i : ℕ) (program : Program) → length entries ≤ i
    → IsToLeave base entries (drop i entries) program → program ≡ after base (history_of entries)
all-applied base entries i program past so_far =
    sym (at_drop_all (λ (left : List Entry). after program (history_of left)) entries i past) ∙ so_far.leaves
