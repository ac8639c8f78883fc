use Rattle.std.proofs.Common.{◌<◌, length, nat_lt, ap, ◌∙◌, arith}
use Rattle.std.proofs.lemmas.List.{get_or_read}
use Rattle.mol_log_rows.proofs.lines_lemmas.LastOfTags.{kept_follows, kept_foreign}
use Rattle.mol_log_rows.proofs.lines.stamps.LastNumbers.may_follow.Goals as goal

pub returns-in-Ok : goal.returns-in-Ok
returns-in-Ok c = λ tags earlier knows.
    let kept = c.args.self.now in
    let low : c.in-Ok.place < length kept.numbers.items = omega (arith, kept.numbers.ok.0, kept.one_each, c.in-Ok.ensures.bound) in
    ap (λ n. nat_lt n c.args.stamp.now.seq) (get_or_read kept.numbers.items c.in-Ok.place c.index.result.now low c.index.ensures 0)
    ∙ kept_follows kept kept.ascending tags earlier knows c.args.stamp.now c.in-Ok.place c.in-Ok.ensures.bound c.in-Ok.ensures.ok

pub returns-in-Err : goal.returns-in-Err
returns-in-Err c = λ tags earlier knows. kept_foreign c.args.self.now c.args.self.now.ascending tags earlier knows c.args.stamp.now _ c.in-Err.ensures.position
