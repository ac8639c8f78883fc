use Rattle.std.proofs.Common.{refl}
use Rattle.mol_log.proofs.entries_lemmas.Refusals.{refused}
use Rattle.mol_log.proofs.entries.trees.param_of.Goals as goal

pub returns-in_err-ty : goal.returns-in_err-ty
returns-in_err-ty c = refused _ _ c.from_residual.result _ c.from_residual.ensures.1 c.in_err-ty.ensures

pub returns : goal.returns
returns c = record { id = refl; name = refl; ty = c.in_ok-ty.ensures; filler = refl }
