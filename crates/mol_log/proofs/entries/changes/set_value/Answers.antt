use Rattle.std.proofs.Common.{refl}
use Rattle.mol_log.proofs.entries_lemmas.Refusals.{refused}
use Rattle.mol_log.proofs.entries_lemmas.SpelledForms.{set_value_kept}
use Rattle.mol_log.specs.entries.Spelling as spelling
use Rattle.mol_log.proofs.entries.changes.set_value.Goals as goal

pub returns-in_err-ty : goal.returns-in_err-ty
returns-in_err-ty c = refused _ _ c.from_residual.result _ c.from_residual.ensures.1 c.in_err-ty.ensures

pub invariant_of-result : goal.invariant_of-result
invariant_of-result c = record { formed = set_value_kept c.args.row.ty c.args.row.value _ _ c.in_ok-ty.ensures.0 c.in_ok-ty.ensures.1 }

pub returns : goal.returns
returns c = spelling.set_value (record { field = refl; ty = c.in_ok-ty.ensures.0; value = c.in_ok-ty.ensures.1 })
