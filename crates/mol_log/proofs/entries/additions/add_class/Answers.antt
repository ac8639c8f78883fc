use Rattle.std.proofs.Common.{refl}
use Rattle.mol_log.proofs.entries_lemmas.Refusals.{refused}
use Rattle.mol_log.proofs.entries_lemmas.SpelledForms.{add_class_kept}
use Rattle.mol_log.specs.entries.Spelling as spelling
use Rattle.mol_log.proofs.entries.additions.add_class.Goals as goal

pub returns-in_err-parent : goal.returns-in_err-parent
returns-in_err-parent c = refused _ _ c.from_residual.result _ c.from_residual.ensures.1 c.in_err-parent.ensures

pub invariant_of-result : goal.invariant_of-result
invariant_of-result c = record { formed = add_class_kept c.args.row _ c.requires c.in_ok-parent.ensures }

pub returns : goal.returns
returns c = spelling.add_class (record {
  class = refl;
  «package» = refl;
  name = refl;
  parent = c.in_ok-parent.ensures;
  words = refl;
  notes = refl;
})
