use Rattle.std.proofs.Common.{◌≡◌, ◌≢◌}
use Rattle.std.proofs.lemmas.Result.{IfErr-weaker, IfOk-weaker, on_ok_weaker}
use Rattle.mol_log_rules.specs.Histories.{after}
use Rattle.mol_log_rules.specs.Logs.{history}
use Rattle.mol_replay.proofs.Refusals.{answered, refuses-entry}
use Rattle.mol_replay.proofs.TidiedLeft.{refused-over, replays-over, tidied-over}
use Rattle.mol_replay.proofs.tidying.own_tidied.Goals as goal
use Rattle.mol_replay.specs.Replays.{IsUnclean, ReplayRefuses, as_replay_fault}
use Rattle.mol_replay.specs.declared.fault.ReplayFault.TheVariants.{OutOfMemory}
use Rattle.mol_table_rules.specs.Tidy.{tidy}

pub returns-in_err-apply_log-clause-refused : goal.returns-in_err-apply_log-clause-refused
returns-in_err-apply_log-clause-refused c =
    answered c.args.base c.args.log c.from_residual.result (as_replay_fault c.in_err-apply_log.field-0.0) c.from_residual.ensures.1
    (refuses-entry c.args.base c.args.log c.in_err-apply_log.field-0.0 c.requires c.in_err-apply_log.ensures.refused)

pub returns-clause-left : goal.returns-clause-left
returns-clause-left c =
    let base = c.args.base in
    let log = c.args.log in
    let left = c.apply_log.new.table in
    IfOk-weaker c.clean_tidied.result (λ tidied. tidied ≡ tidy left) (λ tidied. tidied ≡ tidy (after base (history log)))
    (λ tidied is. tidied-over base left log c.in_ok-apply_log.ensures.left tidied is) c.clean_tidied.ensures.is

pub returns-clause-replays : goal.returns-clause-replays
returns-clause-replays c =
    on_ok_weaker c.clean_tidied.result
    (replays-over c.args.base c.apply_log.new.table c.args.log c.in_ok-apply_log.ensures.left c.requires
    c.in_ok-apply_log.ensures.applies) c.clean_tidied.ensures.clean

pub returns-clause-refused : goal.returns-clause-refused
returns-clause-refused c =
    let base = c.args.base in
    let log = c.args.log in
    let left = c.apply_log.new.table in
    IfErr-weaker c.clean_tidied.result (λ fault. fault ≢ OutOfMemory → IsUnclean left fault)
    (λ fault. fault ≢ OutOfMemory → ReplayRefuses base log fault)
    (λ fault found other. refused-over base left log c.in_ok-apply_log.ensures.left c.requires c.in_ok-apply_log.ensures.applies fault
    (found other)) c.clean_tidied.ensures.refused
