use Rattle.std.proofs.Common.{◌≡◌, ◌≢◌, ◌∙◌}
use Rattle.std.proofs.lemmas.Result.{IfErr-weaker, IfOk-weaker, on_ok_weaker}
use Rattle.mol_replay.proofs.TidiedLeft.{clean-left, memory-told, unclean-left}
use Rattle.mol_replay.proofs.tidying.clean_tidied.Goals as goal
use Rattle.mol_replay.specs.Replays.{IsUnclean}
use Rattle.mol_replay.specs.declared.fault.ReplayFault.TheVariants.{OutOfMemory}
use Rattle.mol_table_rules.specs.Tidy.{tidy}

pub returns-in_err-tidied-clause-refused : goal.returns-in_err-tidied-clause-refused
returns-in_err-tidied-clause-refused c = memory-told (IsUnclean c.args.left) c.from_residual.result c.from_residual.ensures.1

pub returns-clause-is : goal.returns-clause-is
returns-clause-is c =
    let left = c.args.left in
    let tidied = c.in_ok-tidied.tidied in
    IfOk-weaker c.refuse_unclean.result (λ clean. clean ≡ tidied) (λ clean. clean ≡ tidy left)
    (λ clean is. is ∙ c.in_ok-tidied.ensures.ok) c.refuse_unclean.ensures.is

pub returns-clause-tidied : goal.returns-clause-tidied
returns-clause-tidied c =
    let tidied = c.in_ok-tidied.tidied in
    IfOk-weaker c.refuse_unclean.result (λ clean. clean ≡ tidied) (λ clean. tidy clean ≡ clean)
    (λ clean is. rw is c.in_ok-tidied.ensures.tidied) c.refuse_unclean.ensures.is

pub returns-clause-clean : goal.returns-clause-clean
returns-clause-clean c =
    let left = c.args.left in
    on_ok_weaker c.refuse_unclean.result
    (clean-left left c.in_ok-tidied.tidied c.ids.ensures.rules c.in_ok-tidied.ensures.ok) c.refuse_unclean.ensures.clean

pub returns-clause-refused : goal.returns-clause-refused
returns-clause-refused c =
    let left = c.args.left in
    let tidied = c.in_ok-tidied.tidied in
    IfErr-weaker c.refuse_unclean.result (λ fault. fault ≢ OutOfMemory → IsUnclean tidied fault)
    (λ fault. fault ≢ OutOfMemory → IsUnclean left fault)
    (λ fault found other. unclean-left left tidied c.ids.ensures.rules c.in_ok-tidied.ensures.ok fault (found other))
    c.refuse_unclean.ensures.refused
