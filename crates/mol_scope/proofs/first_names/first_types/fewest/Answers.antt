use Rattle.std.proofs.Common.{arith}
use Rattle.mol_scope.proofs.first_names_lemmas.NamesSpelled.{spelled-class, none-further, none-spelled}
use Rattle.mol_scope.specs.typenames.Readings.{classes_of}
use Rattle.mol_scope.proofs.first_names.first_types.fewest.Goals as goal

pub loop-place-init : goal.loop-place-init
loop-place-init c = λ first rest is k below. absurd (omega (arith, below))

pub loop-place-preserved : goal.loop-place-preserved
loop-place-preserved c = λ first rest is.
    none-further (classes_of c.args.file.now) c.args.names.now c.loop-place.place first rest is c.loop-place-test.true
    (c.loop-place.invariant first rest is) c.in_default.ensures

pub returns-in-Some : goal.returns-in-Some
returns-in-Some c = λ first rest is.
    spelled-class (classes_of c.args.file.now) c.args.names.now c.loop-place.place first rest is c.loop-place-test.true
    (c.loop-place.invariant first rest is) c.in-Some.class c.in-Some.ensures

pub returns : goal.returns
returns c = λ first rest is.
    none-spelled (classes_of c.args.file.now) c.args.names.now c.loop-place.place first rest is c.loop-place-test.false
    (c.loop-place.invariant first rest is)
