-- What the next line of a log says as an entry.
use Rattle.std.proofs.Common.{◌≡◌, ◌≢◌, ℕ, ◌+◌, List, [], ◌∷◌, Option, None, Some, Ok, sym, ap, ◌∙◌, subst}
use Rattle.mol_base.specs.declared.ident.Stamp.{Stamp}
use Rattle.mol_log_rows.specs.lines.Lines.{Line}
use Rattle.mol_log_rows.specs.declared.lines.fault.LogFault.{LogFault}
use Rattle.mol_log_rows.specs.declared.lines.fault.LogFault.TheVariants.{OutOfMemory, BadBody}
use Rattle.mol_log_rows.specs.rows.NextRow.{StandsOn, Takes, Passes, IsNext}
use Rattle.mol_log_rows.specs.declared.rows.row.Recorded.{Recorded}
use Rattle.mol_log_rows.specs.declared.rows.rows.Rows.{Rows}
use Rattle.mol_log.specs.entries.Entries.{SpellsEntry}
use Rattle.mol_log.specs.entries.Trees.{Bad}
use Rattle.mol_log.specs.declared.entries.entry.Entry.{Entry}
use Rattle.mol_log.specs.LogLines.{HaveFault, no_row, no_trees, here}
use Rattle.mol_log.specs.NextEntry.{TakesEntry}

module _ (tags : List (List ℕ)) (earlier : List Stamp) (number : ℕ) (lines : List Line) where
  -- it says no row
  pub no_row_there : (fault : LogFault) (new : Rows) → Passes tags earlier number lines fault new → fault ≢ OutOfMemory
      → HaveFault tags earlier number lines fault
  no_row_there fault new passes enough =
      subst (λ ls. HaveFault tags earlier number ls fault) (sym passes.cut) (here (no_row (passes.has enough)))

  -- no line is left
  pub nothing_there : (next : Option Recorded) (new : Rows) → next ≡ None → IsNext tags earlier number lines (Ok next) new → lines ≡ []
  nothing_there next new none tells = (subst (λ n. IsNext tags earlier number lines (Ok n) new) none tells).0

  module _ (found : Recorded) (new : Rows) where
    pub row_there : (next : Option Recorded) → next ≡ Some found → IsNext tags earlier number lines (Ok next) new
        → Takes tags earlier number lines found new
    row_there next is tells = subst (λ n. IsNext tags earlier number lines (Ok n) new) is tells

    module _ (takes : Takes tags earlier number lines found new) where
      -- it says a row that spells an entry
      pub entry_there : (entry : Entry) → SpellsEntry found entry → TakesEntry tags earlier number lines entry new
      entry_there entry spells = record {
        line = takes.line;
        more = takes.more;
        cut = takes.cut;
        says = record { row = found; next = takes.says; spelled = spells };
        behind = subst (λ stamp. StandsOn new tags (stamp ∷ earlier) (number + 1) takes.more) (sym spells.stamp) takes.behind;
      }

      bad_at : (word : ℕ) → Bad found.row word → HaveFault tags earlier number lines (BadBody number word)
      bad_at word first =
          subst (λ ls. HaveFault tags earlier number ls (BadBody number word)) (sym takes.cut) (here (no_trees takes.says first))

      -- it says a row with a bad word
      pub bad_there : (fault : LogFault) (at : ℕ) → at ≡ number → (word : ℕ) × (fault ≡ BadBody at word) × Bad found.row word
          → HaveFault tags earlier number lines fault
      bad_there fault at is bad =
          subst (HaveFault tags earlier number lines) (ap (λ n. BadBody n bad.0) (sym is) ∙ sym bad.1) (bad_at bad.0 bad.2)
