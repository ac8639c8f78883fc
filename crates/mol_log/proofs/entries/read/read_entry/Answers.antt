use Rattle.std.proofs.Common.{refl, ◌∙◌}
use Rattle.mol_log.proofs.entries_lemmas.ReadEntries.{entry-read}
use Rattle.mol_log.proofs.entries_lemmas.Refusals.{refused}
use Rattle.mol_log.proofs.entries_lemmas.WrittenRows.{again, same_form}
use Rattle.mol_log.proofs.entries.read.read_entry.Goals as goal

pub returns-in_err-op : goal.returns-in_err-op
returns-in_err-op c =
    entry-read c.args.recorded c.from_residual.result (refused _ _ c.from_residual.result _ c.from_residual.ensures.1 c.in_err-op.ensures)

pub invariant_of-result : goal.invariant_of-result
invariant_of-result c =
    let spells = c.in_ok-op.ensures in
    record { formed = ∣ record { stamped = c.requires.stamped; formed = same_form spells ∙ c.requires.formed; trees = again spells } ∣₁ }

pub returns : goal.returns
returns c = entry-read c.args.recorded _ (record { stamp = refl; op = c.in_ok-op.ensures })
