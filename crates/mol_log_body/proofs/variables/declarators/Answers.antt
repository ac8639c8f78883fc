use Rattle.std.proofs.Common.{◌-◌, arith, rules}
use Rattle.std.proofs.lemmas.Grind.{common_steps}
use Rattle.mol_log_body.proofs.BodyTurns.{declared_none, declared_steps}
use Rattle.mol_log_body.proofs.variables.declarators.Goals as goal

pub returns-in_err-item : goal.returns-in_err-item
returns-in_err-item c =
    let k = c.in_ok-count.ensures in
    let i = c.loop-turn.invariant k.0 k.2 in
    let st = declared_steps c.args.depth k.0 c.loop-turn._turn c.loop-turn.all c.loop-turn.scope c.loop-turn.words (omega (arith, k.2)) in
    first_of (search rules, grind (arith, common_steps))

pub loop-turn-preserved : goal.loop-turn-preserved
loop-turn-preserved c = λ n e.
    let i = c.loop-turn.invariant n e in
    let st = declared_steps c.args.depth n c.loop-turn._turn c.loop-turn.all c.loop-turn.scope c.loop-turn.words (omega (arith, e)) in
    first_of (search rules, grind (arith, common_steps))

pub returns : goal.returns
returns c =
    let k = c.in_ok-count.ensures in
    let i = c.loop-turn.invariant k.0 k.2 in
    let z = declared_none c.args.depth (k.0 - c.loop-turn._turn) c.loop-turn.all c.loop-turn.scope c.loop-turn.words (omega (arith, k.2)) in
    first_of (search rules, grind (arith, common_steps))
