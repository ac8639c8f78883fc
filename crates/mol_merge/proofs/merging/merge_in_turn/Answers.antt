use Rattle.std.proofs.Common.{refl, subst}
use Rattle.std.proofs.lemmas.Result.{err_from_is_err_and}
use Rattle.mol_log_rules.specs.Logs.{history}
use Rattle.mol_merge.proofs.Answered.{large-is, merged-is}
use Rattle.mol_merge.proofs.merging.merge_in_turn.Goals as goal
use Rattle.mol_merge.specs.Finding.{IsFound}

pub conflicts_of-requires : goal.conflicts_of-requires
conflicts_of-requires c =
    record { one = c.requires.one.applies; other = c.requires.other.applies; apart = c.requires.apart }

pub returns-in_err-list-clause-refused : goal.returns-in_err-list-clause-refused
returns-in_err-list-clause-refused c =
    let p = err_from_is_err_and c.from_residual.result c.from_residual.ensures.1 in
    rw (p.1, p.2) (λ other. absurd (other refl))

pub returns-in-Conflicts-clause-answer : goal.returns-in-Conflicts-clause-answer
returns-in-Conflicts-clause-answer c =
    let found = subst (IsFound c.args.base.now (history c.args.one.now) (history c.args.other.now)) c.in-Conflicts.is
    c.in_ok-list.ensures in
    record { are = found.0; some = found.1 }

pub returns-in_err-merged_of-in-United-clause-refused : goal.returns-in_err-merged_of-in-United-clause-refused
returns-in_err-merged_of-in-United-clause-refused c =
    let found = subst (IsFound c.args.base.now (history c.args.one.now) (history c.args.other.now)) c.in-United.is
    c.in_ok-list.ensures in
    let p = err_from_is_err_and c.from_residual-in_err-merged_of-in-United.result c.from_residual-in_err-merged_of-in-United.ensures.1 in
    rw (p.1, p.2) (large-is c.args.base.now c.args.one.now c.args.other.now c.in-United.together _ found.0 found.1
    c.in_err-merged_of-in-United.ensures.refused)

pub returns-in_ok-merged_of-in-United-clause-answer : goal.returns-in_ok-merged_of-in-United-clause-answer
returns-in_ok-merged_of-in-United-clause-answer c =
    let found = subst (IsFound c.args.base.now (history c.args.one.now) (history c.args.other.now)) c.in-United.is
    c.in_ok-list.ensures in
    merged-is c.args.base.now c.args.one.now c.args.other.now c.in-United.together c.in_ok-merged_of-in-United.field-0 found.0 found.1
    c.in_ok-merged_of-in-United.ensures.merged
