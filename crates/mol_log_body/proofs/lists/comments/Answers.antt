use Rattle.std.proofs.Common.{◌-◌, arith, rules}
use Rattle.std.proofs.lemmas.Grind.{common_steps}
use Rattle.mol_log_body.specs.BodyReader.{comment}
use Rattle.mol_log_words.proofs.Repeats.{repeat_none, repeat_steps}
use Rattle.mol_log_body.proofs.lists.comments.Goals as goal

pub returns-in_err-item : goal.returns-in_err-item
returns-in_err-item c =
    let k = c.in_ok-count.ensures in
    let i = c.loop-turn.invariant k.0 k.2 in
    let st = repeat_steps comment k.0 c.loop-turn._turn c.loop-turn.all c.loop-turn.words (omega (arith, k.2)) in
    first_of (search rules, grind (arith, common_steps))

pub loop-turn-preserved : goal.loop-turn-preserved
loop-turn-preserved c = λ n e.
    let i = c.loop-turn.invariant n e in
    let st = repeat_steps comment n c.loop-turn._turn c.loop-turn.all c.loop-turn.words (omega (arith, e)) in
    first_of (search rules, grind (arith, common_steps))

pub returns : goal.returns
returns c =
    let k = c.in_ok-count.ensures in
    let i = c.loop-turn.invariant k.0 k.2 in
    let z = repeat_none comment (k.0 - c.loop-turn._turn) c.loop-turn.all c.loop-turn.words (omega (arith, k.2)) in
    first_of (search rules, grind (arith, common_steps))
