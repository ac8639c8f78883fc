use Rattle.std.proofs.Common.{refl}
use Rattle.mol_log.proofs.entries_lemmas.Refusals.{refused}
use Rattle.mol_log.proofs.entries_lemmas.SpelledForms.{set_body_kept}
use Rattle.mol_log.specs.entries.Spelling as spelling
use Rattle.mol_log.proofs.entries.changes.set_body.Goals as goal

pub returns-in_err-body : goal.returns-in_err-body
returns-in_err-body c = refused _ _ c.from_residual.result _ c.from_residual.ensures.1 c.in_err-body.ensures

pub invariant_of-result : goal.invariant_of-result
invariant_of-result c = record { formed = set_body_kept c.args.row.decl c.args.row.body _ c.in_ok-body.ensures }

pub returns : goal.returns
returns c = spelling.set_body (record { decl = refl; body = c.in_ok-body.ensures })
