use Rattle.std.proofs.Common.{◌∙◌, ap, subst, sym}
use Rattle.std.specs.Prelude.{IfOk}
use Rattle.mol_conflict.proofs.conflicts.by_writes.Goals as goal
use Rattle.mol_log.specs.declared.log.Log.{Log}
use Rattle.mol_log_rules.specs.Histories.{after}
use Rattle.mol_log_rules.specs.Logs.{history}
use Rattle.mol_merge_rules.specs.Conflicts.{ArePairConflicts}

pub pairs_between-requires-clause-one : goal.pairs_between-requires-clause-one
pairs_between-requires-clause-one c =
    c.in_ok-one.ensures.left ∙ c.requires.first
    ∙ ap (λ (log : Log). after c.args.base.now (history log)) (sym c.in_ok-one.ensures.writes)

pub pairs_between-requires-clause-other : goal.pairs_between-requires-clause-other
pairs_between-requires-clause-other c =
    c.in_ok-other.ensures.left ∙ c.requires.second
    ∙ ap (λ (log : Log). after c.args.base.now (history log)) (sym c.in_ok-other.ensures.writes)

pub returns : goal.returns
returns c =
    subst (λ (log : Log). IfOk c.pairs_between.result (ArePairConflicts c.args.base.now (history log) (history c.args.second.now)))
    c.in_ok-one.ensures.writes
    (subst (λ (log : Log). IfOk c.pairs_between.result (ArePairConflicts c.args.base.now (history c.in_ok-one.one.writes.now) (history log)))
    c.in_ok-other.ensures.writes c.pairs_between.ensures)
