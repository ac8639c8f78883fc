use Rattle.std.proofs.Common.{subst}
use Rattle.mol_log_rules.specs.Logs.{history}
use Rattle.mol_replay.proofs.Refusals.{answered, refuses-entry, refuses-memory}
use Rattle.mol_replay.proofs.Replayed.{left-over, not-clean, replayed}
use Rattle.mol_replay.proofs.replaying.replay_own.Goals as goal
use Rattle.mol_replay.specs.Replays.{IsInapplicable, as_replay_fault}
use Rattle.mol_replay.specs.declared.fault.ReplayFault.TheVariants.{OutOfMemory}
use Rattle.mol_table_rules.specs.Program.{Program}

pub returns-in_err-table-clause-refused : goal.returns-in_err-table-clause-refused
returns-in_err-table-clause-refused c =
    answered c.args.base.now c.args.log.now c.from_residual.result OutOfMemory c.from_residual.ensures.1
    (refuses-memory c.args.base.now c.args.log.now)

pub returns-in_err-apply_log-clause-refused : goal.returns-in_err-apply_log-clause-refused
returns-in_err-apply_log-clause-refused c =
    answered c.args.base.now c.args.log.now c.from_residual-in_err-apply_log.result (as_replay_fault c.in_err-apply_log.field-0.0)
    c.from_residual-in_err-apply_log.ensures.1
    (refuses-entry c.args.base.now c.args.log.now c.in_err-apply_log.field-0.0 c.requires
    (subst (λ (program : Program). IsInapplicable program (history c.args.log.now) c.in_err-apply_log.field-0.0) c.in_ok-table.ensures
    c.in_err-apply_log.ensures.refused))

pub returns-in_err-first_fault-clause-refused : goal.returns-in_err-first_fault-clause-refused
returns-in_err-first_fault-clause-refused c =
    answered c.args.base.now c.args.log.now c.from_residual-in_err-first_fault.result OutOfMemory
    c.from_residual-in_err-first_fault.ensures.1 (refuses-memory c.args.base.now c.args.log.now)

pub returns-in-None-clause-left : goal.returns-in-None-clause-left
returns-in-None-clause-left c =
    left-over c.args.base.now c.in_ok-table.table c.apply_log.new.table c.args.log.now c.in_ok-table.ensures c.in_ok-apply_log.ensures.left

pub returns-in-None-clause-replays : goal.returns-in-None-clause-replays
returns-in-None-clause-replays c =
    replayed c.args.base.now c.in_ok-table.table c.apply_log.new.table c.args.log.now c.in_ok-table.ensures c.in_ok-apply_log.ensures.left
    c.requires c.in_ok-apply_log.ensures.applies c.in_ok-first_fault.field-0 c.in_ok-first_fault.ensures c.in-None.is

pub returns-in-Some-clause-refused : goal.returns-in-Some-clause-refused
returns-in-Some-clause-refused c = λ other.
    not-clean c.args.base.now c.in_ok-table.table c.apply_log.new.table c.args.log.now c.in_ok-table.ensures c.in_ok-apply_log.ensures.left
    c.requires c.in_ok-apply_log.ensures.applies c.in_ok-first_fault.field-0 c.in-Some.fault c.in_ok-first_fault.ensures c.in-Some.is
