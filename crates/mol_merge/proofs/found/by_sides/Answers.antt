use Rattle.std.proofs.Common.{◌∙◌, ap, subst, sym}
use Rattle.std.specs.Prelude.{IfOk}
use Rattle.mol_log.specs.declared.log.Log.{Log}
use Rattle.mol_log_rules.specs.Histories.{after}
use Rattle.mol_log_rules.specs.Logs.{history}
use Rattle.mol_merge.proofs.found.by_sides.Goals as goal
use Rattle.mol_merge_rules.specs.Conflicts.{ArePairConflicts}

pub pairs_between-requires-clause-one : goal.pairs_between-requires-clause-one
pairs_between-requires-clause-one c =
    c.in_ok-one_side.ensures.left ∙ c.requires.one
    ∙ ap (λ (log : Log). after c.args.base.now (history log)) (sym c.in_ok-one_side.ensures.writes)

pub pairs_between-requires-clause-other : goal.pairs_between-requires-clause-other
pairs_between-requires-clause-other c =
    c.in_ok-other_side.ensures.left ∙ c.requires.other
    ∙ ap (λ (log : Log). after c.args.base.now (history log)) (sym c.in_ok-other_side.ensures.writes)

pub returns : goal.returns
returns c =
    subst (λ (log : Log). IfOk c.pairs_between.result (ArePairConflicts c.args.base.now (history log) (history c.args.other.now)))
    c.in_ok-one_side.ensures.writes
    (subst
    (λ (log : Log). IfOk c.pairs_between.result (ArePairConflicts c.args.base.now (history c.in_ok-one_side.one_side.writes.now) (history log)))
    c.in_ok-other_side.ensures.writes c.pairs_between.ensures)
