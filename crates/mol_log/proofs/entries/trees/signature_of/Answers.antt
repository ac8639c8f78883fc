use Rattle.std.proofs.Common.{[], ◌∷◌}
use Rattle.mol_log_words.specs.declared.type_role.TypeRole.TheVariants.{Result}
use Rattle.mol_log.proofs.entries_lemmas.Refusals.{refused, fails-before, fails-after}
use Rattle.mol_log.specs.entries.Trees as part
use Rattle.mol_log.specs.entries.Trees.{param_types}
use Rattle.mol_log.proofs.entries.trees.signature_of.Goals as goal

pub returns-in_err-result : goal.returns-in_err-result
returns-in_err-result c =
    refused _ _ c.from_residual.result _ c.from_residual.ensures.1
    (fails-before (part.type Result c.args.gives.now ∷ []) (param_types c.args.params) _ c.in_err-result.ensures)

pub returns-in_err-params : goal.returns-in_err-params
returns-in_err-params c =
    refused _ _ c.from_residual-in_err-params.result _ c.from_residual-in_err-params.ensures.1
    (fails-after (part.type Result c.args.gives.now ∷ []) (param_types c.args.params) _
    ((c.in_ok-result.result, c.in_ok-result.ensures), tt) c.in_err-params.ensures)

pub returns : goal.returns
returns c = (c.in_ok-result.ensures, c.in_ok-params.ensures)
