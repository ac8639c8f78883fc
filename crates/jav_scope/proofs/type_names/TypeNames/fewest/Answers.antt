use Rattle.std.proofs.Common.{arith}
use Rattle.jav_scope.specs.Entries.{classes_in}
use Rattle.jav_scope.proofs.LeftmostFound.{spelled-class, none-further, none-spelled}
use Rattle.jav_scope.proofs.type_names.TypeNames.fewest.Goals as goal

pub loop-place-init : goal.loop-place-init
loop-place-init c = λ first rest is k below. absurd (omega (arith, below))

pub loop-place-preserved : goal.loop-place-preserved
loop-place-preserved c = λ first rest is.
    none-further (classes_in c.args.self.now) c.args.names.now c.loop-place.place first rest is c.loop-place-test.true
    (c.loop-place.invariant first rest is) c.in_default.ensures

pub returns-in-Some : goal.returns-in-Some
returns-in-Some c = λ first rest is.
    spelled-class (classes_in c.args.self.now) c.args.names.now c.loop-place.place first rest is c.loop-place-test.true
    (c.loop-place.invariant first rest is) c.in-Some.class c.in-Some.ensures

pub returns : goal.returns
returns c = λ first rest is.
    none-spelled (classes_in c.args.self.now) c.args.names.now c.loop-place.place first rest is c.loop-place-test.false
    (c.loop-place.invariant first rest is)
