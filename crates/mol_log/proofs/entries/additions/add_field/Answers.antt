use Rattle.std.proofs.Common.{refl}
use Rattle.mol_log.proofs.entries_lemmas.Refusals.{refused}
use Rattle.mol_log.proofs.entries_lemmas.SpelledForms.{add_field_kept}
use Rattle.mol_log.specs.entries.Spelling as spelling
use Rattle.mol_log.proofs.entries.additions.add_field.Goals as goal

pub returns-in_err-ty : goal.returns-in_err-ty
returns-in_err-ty c = refused _ _ c.from_residual.result _ c.from_residual.ensures.1 c.in_err-ty.ensures

pub invariant_of-result : goal.invariant_of-result
invariant_of-result c = record { formed = add_field_kept c.args.row _ _ c.requires c.in_ok-ty.ensures.0 c.in_ok-ty.ensures.1 }

pub returns : goal.returns
returns c = spelling.add_field (record {
  field = refl;
  owner = refl;
  name = refl;
  words = refl;
  notes = refl;
  ty = c.in_ok-ty.ensures.0;
  value = c.in_ok-ty.ensures.1;
})
