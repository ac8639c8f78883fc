use Rattle.std.proofs.Common.{◌∙◌, ◌+◌, sym, arith, subst}
use Rattle.mol_table.proofs.Arranged.{LeastSoFar, NotBelow, all-taken, least-next, least-stays}
use Rattle.mol_table.proofs.maps.ascending.least_of.Goals.{then-comes_before, else-comes_before}
use Rattle.mol_table.proofs.maps.ascending.least_of.Goals as goal

pub loop-id-preserved : goal.loop-id-preserved
loop-id-preserved c =
    let at = c.loop-id.id-index in
    let id = c.id-item.result in
    let so-far = c.loop-id.invariant.least in
    let both : LeastSoFar c.args.ids.now (at + 1) c.if-comes_before.least = elim c.if-comes_before.branch [
      | then-comes_before w ↦ subst (LeastSoFar c.args.ids.now (at + 1)) (sym w.least-is)
          ((at, c.loop-id-test.true, sym c.id-item.is), least-next c.args.ids.now at id c.loop-id.least c.loop-id-test.true c.id-item.is so-far (sym c.comes_before.ensures ∙ w.if-comes_before.true))
      | else-comes_before w ↦ subst (LeastSoFar c.args.ids.now (at + 1)) (sym w.least-is)
          (c.loop-id.invariant.there, least-stays c.args.ids.now at id c.loop-id.least c.loop-id-test.true c.id-item.is so-far (sym c.comes_before.ensures ∙ w.if-comes_before.false))
    ] in
    record { there = both.0; least = both.1 }

pub returns-clause-least : goal.returns-clause-least
returns-clause-least c = all-taken (λ id. NotBelow id c.loop-id.least) c.args.ids.now c.loop-id.id-index (omega (arith, c.loop-id-test.false)) c.loop-id.invariant.least
