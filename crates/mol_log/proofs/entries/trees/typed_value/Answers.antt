use Rattle.std.proofs.Common.{[], ◌∷◌}
use Rattle.mol_log_words.specs.declared.type_role.TypeRole.TheVariants.{Value}
use Rattle.mol_log.proofs.entries_lemmas.Refusals.{refused, fails-before, fails-after}
use Rattle.mol_log.specs.entries.Trees as part
use Rattle.mol_log.specs.entries.Trees.{maybe}
use Rattle.mol_log.proofs.entries.trees.typed_value.Goals as goal

pub returns-in_err-ty : goal.returns-in_err-ty
returns-in_err-ty c =
    refused _ _ c.from_residual.result _ c.from_residual.ensures.1
    (fails-before (part.type Value c.args.ty.now ∷ []) (maybe part.value c.args.value.now) _ c.in_err-ty.ensures)

pub returns-in_err-value : goal.returns-in_err-value
returns-in_err-value c =
    refused _ _ c.from_residual-in_err-value.result _ c.from_residual-in_err-value.ensures.1
    (fails-after (part.type Value c.args.ty.now ∷ []) (maybe part.value c.args.value.now) _ ((c.in_ok-ty.ty, c.in_ok-ty.ensures), tt)
    c.in_err-value.ensures)

pub returns : goal.returns
returns c = (c.in_ok-ty.ensures, c.in_ok-value.ensures)
