use Rattle.std.proofs.Common.{◌≡◌, length, refl, arith, rules}
use Rattle.mol_log_rows.proofs.lines_lemmas.LastOfTags.{kept_taken, kept_nowhere}
use Rattle.mol_log_rows.proofs.lines.stamps.LastNumbers.take.Goals as goal

pub returns-in-Ok : goal.returns-in-Ok
returns-in-Ok c = λ tags earlier knows.
    let kept = c.args.self.now in
    let long : length kept.numbers.items ≡ length kept.tags.now = omega (arith, kept.numbers.ok.0, kept.one_each) in
    kept_taken kept kept.ascending tags earlier knows c.args.stamp.now _ c.in-Ok.place c.in-Ok.ensures.bound long c.in-Ok.ensures.ok refl (search rules)

pub returns-in_default : goal.returns-in_default
returns-in_default c = λ tags earlier knows.
    let kept = c.args.self.now in
    kept_nowhere kept kept.ascending tags earlier knows c.args.stamp.now c.in_default.field-0 c.in_default.ensures.position
