use Rattle.std.proofs.Common.{ap}
use Rattle.std.specs.Prelude.{option_copied}
use Rattle.std.proofs.lemmas.Result.{on_ok_weaker}
use Rattle.mol_faults_values.proofs.local_faults_lemmas.InTurn.{goes, stays}
use Rattle.mol_faults_values.proofs.local_faults.clashing.declare_body.Goals as goal
use Rattle.mol_faults_values.specs.local_faults.Clashing.{body_scopes}

pub returns-in-Some : goal.returns-in-Some
returns-in-Some c =
    on_ok_weaker c.declare_block.result (goes c.args.scope.now _ _ (body_scopes (option_copied c.args.body))
    (ap (λ body. body_scopes (option_copied body)) c.in-Some.is)) c.declare_block.ensures.scope

pub returns-in-None : goal.returns-in-None
returns-in-None c =
    stays c.args.scope.now (body_scopes (option_copied c.args.body)) (ap (λ body. body_scopes (option_copied body)) c.in-None.is)
