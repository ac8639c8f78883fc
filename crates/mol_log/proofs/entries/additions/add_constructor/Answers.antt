use Rattle.std.proofs.Common.{refl}
use Rattle.mol_log.proofs.entries_lemmas.GoodParts.{params_good}
use Rattle.mol_log.proofs.entries_lemmas.Refusals.{refused, fails-before, fails-after}
use Rattle.mol_log.proofs.entries_lemmas.SpelledForms.{add_constructor_kept}
use Rattle.mol_log.specs.entries.Spelling as spelling
use Rattle.mol_log.specs.entries.Trees as part
use Rattle.mol_log.specs.entries.Trees.{maybe, param_types}
use Rattle.mol_log.proofs.entries.additions.add_constructor.Goals as goal

pub returns-in_err-params : goal.returns-in_err-params
returns-in_err-params c =
    refused _ _ c.from_residual.result _ c.from_residual.ensures.1
    (fails-before (param_types c.args.row.params) (maybe part.body c.args.row.body) _ c.in_err-params.ensures)

pub returns-in_err-body : goal.returns-in_err-body
returns-in_err-body c =
    refused _ _ c.from_residual-in_err-body.result _ c.from_residual-in_err-body.ensures.1
    (fails-after (param_types c.args.row.params) (maybe part.body c.args.row.body) _
    (params_good _ _ c.in_ok-params.ensures) c.in_err-body.ensures)

pub invariant_of-result : goal.invariant_of-result
invariant_of-result c = record { formed = add_constructor_kept c.args.row _ _ c.requires c.in_ok-params.ensures c.in_ok-body.ensures }

pub returns : goal.returns
returns c = spelling.add_constructor (record {
  method = refl;
  decl = refl;
  owner = refl;
  params = c.in_ok-params.ensures;
  words = refl;
  notes = refl;
  body = c.in_ok-body.ensures;
})
