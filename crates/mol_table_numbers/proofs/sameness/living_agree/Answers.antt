use Rattle.std.proofs.Common.{subst, refl, arith, IsTrue}
use Rattle.mol_base.specs.declared.ident.Id.{Id}
use Rattle.mol_table_numbers.specs.Agreement.{AgreeIfLiving}
use Rattle.mol_table_rules.specs.Life.{is_living_entity}
use Rattle.mol_table_numbers.proofs.Agreeing.{living-known, below-next}
use Rattle.mol_table_numbers.proofs.sameness.living_agree.Goals as goal

pub returns : goal.returns
returns c = (
  λ _ id. from id (λ living.
      let at = (c.ids-id-items.ensures.known id).1 (living-known c.args.one.now id living) in
      subst (λ x. AgreeIfLiving c.args.one.now c.args.other.now x) at.2 (c.loop-id.invariant at.0 id (omega (arith, at.1)))),
  λ _. refl,
) where
  from : (id : Id) → (IsTrue (is_living_entity c.args.one.now id) → AgreeIfLiving c.args.one.now c.args.other.now id) → AgreeIfLiving c.args.one.now c.args.other.now id
  from id agree = record { living = λ living. (agree living).living living; agree = λ living. (agree living).agree living }

pub loop-id-preserved : goal.loop-id-preserved
loop-id-preserved c =
    below-next (AgreeIfLiving c.args.one.now c.args.other.now) c.ids-id-items.result.now c.loop-id.id-index c.id-item.result c.loop-id-test.true c.id-item.is
    (c.agree_if_living.ensures.0 c.if-not-agree_if_living.false) c.loop-id.invariant
