use Rattle.std.proofs.Common.{◌≡◌, sym, subst}
use Rattle.std.specs.Prelude.{IsOkAnd}
use Rattle.mol_spell_body.proofs.branches.if_of.Goals as goal
use Rattle.mol_spell_body.specs.Made as made
use Rattle.mol_spell_body.specs.declared.branches.BothBranches.{BothBranches}

pub returns : goal.returns
returns c =
    subst (λ r. IsOkAnd r (λ (branches : BothBranches).
    c.with_test.result ≡ made.branches ((c.args.test, branches.then), branches.rest))) (sym c.in_ok-branches.was) c.with_test.ensures
