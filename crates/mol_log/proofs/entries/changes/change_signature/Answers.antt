use Rattle.std.proofs.Common.{refl}
use Rattle.mol_log.proofs.entries_lemmas.Refusals.{refused}
use Rattle.mol_log.proofs.entries_lemmas.SpelledForms.{change_signature_kept}
use Rattle.mol_log.specs.entries.Spelling as spelling
use Rattle.mol_log.proofs.entries.changes.change_signature.Goals as goal

pub returns-in_err-result : goal.returns-in_err-result
returns-in_err-result c = refused _ _ c.from_residual.result _ c.from_residual.ensures.1 c.in_err-result.ensures

pub invariant_of-result : goal.invariant_of-result
invariant_of-result c = record {
  formed = change_signature_kept c.args.row _ _ c.requires c.in_ok-result.ensures.0 c.in_ok-result.ensures.1;
}

pub returns : goal.returns
returns c = spelling.change_signature (record { method = refl; result = c.in_ok-result.ensures.0; params = c.in_ok-result.ensures.1 })
