use Rattle.std.proofs.Common.{subst}
use Rattle.std.proofs.lemmas.List.{take_all}
use Rattle.mol_faults_support.proofs.Owners.{none-closed, above-none, above-more}
use Rattle.mol_faults_support.specs.Ways.{AreAbove}
use Rattle.mol_faults_support.proofs.ways.classes_above.Goals as goal

pub loop-declaration-init : goal.loop-declaration-init
loop-declaration-init c = record {
  closed = none-closed c.args.table.now c.new-met.result.keys c.new-met.ensures.empty;
  above = above-none c.args.table.now c.new-met.result.keys c.new-met.ensures.empty;
}

pub meet_owner-requires : goal.meet_owner-requires
meet_owner-requires c = c.loop-declaration.invariant.closed

pub loop-declaration-preserved : goal.loop-declaration-preserved
loop-declaration-preserved c = record {
  closed = c.in_ok-meet_owner.ensures.closed;
  above = above-more c.args.table.now c.args.declarations.now c.loop-declaration.declaration-index c.declaration-item.result
      c.loop-declaration-test.true c.declaration-item.is c.loop-declaration.met.keys _ c.loop-declaration.invariant.above
      c.in_ok-meet_owner.ensures.met;
}

pub returns : goal.returns
returns c = subst (λ ds. AreAbove c.args.table.now ds c.loop-declaration.met.keys)
    (take_all c.loop-declaration.declaration-index c.args.declarations.now c.loop-declaration-test.false) c.loop-declaration.invariant.above
