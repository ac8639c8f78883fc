use Rattle.std.proofs.Common.{◌≡◌, refl, sym, subst}
use Rattle.std.specs.Prelude.{IsOkAnd}
use Rattle.mol_spell_body.proofs.branches.branches_of.Goals as goal
use Rattle.mol_spell_body.specs.declared.branches.BothBranches.{BothBranches}

pub returns : goal.returns
returns c =
    let parts : BothBranches = record { then = c.args.then; rest = c.in_ok-rest.rest } in
    subst (λ r. IsOkAnd r (λ rest. parts ≡ record { then = c.args.then; rest = rest })) (sym c.in_ok-rest.was) refl
