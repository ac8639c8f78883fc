use Rattle.std.proofs.Common.{◌∙◌, ap, subst, sym}
use Rattle.std.specs.Prelude.{IfOk}
use Rattle.mol_conflict.proofs.conflicts.by_both_left.Goals as goal
use Rattle.mol_log.specs.declared.log.Log.{Log}
use Rattle.mol_log_rules.specs.Histories.{after}
use Rattle.mol_log_rules.specs.Logs.{history}
use Rattle.mol_merge_rules.specs.Conflicts.{ArePairConflicts}

pub by_writes-requires-clause-first : goal.by_writes-requires-clause-first
by_writes-requires-clause-first c =
    c.requires.first ∙ ap (λ (log : Log). after c.args.base.now (history log)) (sym c.in_ok-first_writes.ensures)

pub by_writes-requires-clause-second : goal.by_writes-requires-clause-second
by_writes-requires-clause-second c =
    c.requires.second ∙ ap (λ (log : Log). after c.args.base.now (history log)) (sym c.in_ok-second_writes.ensures)

pub returns : goal.returns
returns c =
    subst (λ (log : Log). IfOk c.by_writes.result (ArePairConflicts c.args.base.now (history log) (history c.args.second.now)))
    c.in_ok-first_writes.ensures
    (subst (λ (log : Log). IfOk c.by_writes.result (ArePairConflicts c.args.base.now (history c.in_ok-first_writes.first_writes) (history log)))
    c.in_ok-second_writes.ensures c.by_writes.ensures)
