use Rattle.std.proofs.Common.{refl}
use Rattle.mol_log.proofs.entries_lemmas.Refusals.{refused}
use Rattle.mol_log.proofs.entries_lemmas.SpelledForms.{add_override_kept}
use Rattle.mol_log.specs.entries.Spelling as spelling
use Rattle.mol_log.proofs.entries.additions.add_override.Goals as goal

pub returns-in_err-body : goal.returns-in_err-body
returns-in_err-body c = refused _ _ c.from_residual.result _ c.from_residual.ensures.1 c.in_err-body.ensures

pub invariant_of-result : goal.invariant_of-result
invariant_of-result c = record { formed = add_override_kept c.args.row _ c.requires c.in_ok-body.ensures }

pub returns : goal.returns
returns c = spelling.add_override (record {
  decl = refl;
  method = refl;
  owner = refl;
  words = refl;
  notes = refl;
  body = c.in_ok-body.ensures;
})
