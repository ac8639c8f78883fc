use Rattle.std.proofs.Common.{◌≡◌, ℕ, List, subst}
use Rattle.std.specs.Prelude.{IfOk}
use Rattle.mol_replay.proofs.TidiedDigests.{same-digest}
use Rattle.mol_replay.proofs.digests.digest.Goals as goal

pub returns : goal.returns
returns c =
    subst (λ (of : List ℕ). IfOk c.digest_of_tidied.result (λ digest. digest ≡ of))
    (same-digest c.args.base.now c.in_ok-tidied.tidied c.in_ok-tidied.ensures.ok c.in_ok-tidied.ensures.tidied) c.digest_of_tidied.ensures
