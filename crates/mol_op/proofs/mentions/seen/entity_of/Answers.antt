use Rattle.std.proofs.Common.{◌∙◌, sym}
use Rattle.mol_op.specs.Names.{first-found, first-next}
use Rattle.mol_op.proofs.mentions.seen.entity_of.Goals as goal

pub returns-then-eq : goal.returns-then-eq
returns-then-eq c =
    first-found c.args.entities.now c.args.id.now c.loop-own.own-index c.loop-own-item.result c.loop-own-test.true c.loop-own-item.is (sym c.eq.ensures ∙ c.if-eq.true)
    ∙ c.loop-own.invariant

pub loop-own-preserved : goal.loop-own-preserved
loop-own-preserved c =
    first-next c.args.entities.now c.args.id.now c.loop-own.own-index c.loop-own-item.result c.loop-own-test.true c.loop-own-item.is (sym c.eq.ensures ∙ c.if-eq.false)
    ∙ c.loop-own.invariant
