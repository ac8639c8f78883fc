use Rattle.std.proofs.Common.{◌∙◌, ap, sym}
use Rattle.std.proofs.lemmas.Result.{err_from_is_err_and}
use Rattle.mol_merge.proofs.LimitsPassed.{by-first, by-second, long-log, neither, no-memory, told}
use Rattle.mol_merge.proofs.limits.log_within.Goals as goal
use Rattle.mol_merge.specs.Outcomes.{log_limit, long_log, many_entries, merged_text}

pub returns-in_err-refuse_many-clause-refused : goal.returns-in_err-refuse_many-clause-refused
returns-in_err-refuse_many-clause-refused c =
    let one = c.args.one.now in
    let other = c.args.other.now in
    let many = many_entries one other in
    let p = err_from_is_err_and c.from_residual.result c.from_residual.ensures.1 in
    rw (p.1, p.2) (by-first many (long_log (merged_text one other)) _ (told many _ c.in_err-refuse_many.ensures.refused))

pub returns-in_err-merged-clause-refused : goal.returns-in_err-merged-clause-refused
returns-in_err-merged-clause-refused c =
    let p = err_from_is_err_and c.from_residual-in_err-merged.result c.from_residual-in_err-merged.ensures.1 in
    rw (p.1, p.2) (no-memory (log_limit c.args.one.now c.args.other.now))

pub returns-in_err-refuse_long-clause-refused : goal.returns-in_err-refuse_long-clause-refused
returns-in_err-refuse_long-clause-refused c =
    let one = c.args.one.now in
    let other = c.args.other.now in
    let long = long-log one other c.in_ok-merged.merged c.in_ok-merged.ensures in
    let p = err_from_is_err_and c.from_residual-in_err-refuse_long.result c.from_residual-in_err-refuse_long.ensures.1 in
    rw (p.1, p.2) (by-second (many_entries one other) (long_log (merged_text one other)) _ c.in_ok-refuse_many.ensures.allowed
    (rw long at c.in_err-refuse_long.ensures.refused))

pub returns-clause-allowed : goal.returns-clause-allowed
returns-clause-allowed c =
    let one = c.args.one.now in
    let other = c.args.other.now in
    neither (many_entries one other) (long_log (merged_text one other)) c.in_ok-refuse_many.ensures.allowed
    (sym (long-log one other c.in_ok-merged.merged c.in_ok-merged.ensures) ∙ c.in_ok-refuse_long.ensures.allowed)
