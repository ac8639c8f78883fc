use Rattle.std.proofs.Common.{◌≡◌, ◌+◌, ◌∙◌, ap, sym, arith, take}
use Rattle.std.proofs.lemmas.List.{take_all}
use Rattle.jav_names.specs.DottedNames.{Names}
use Rattle.jav_names.specs.LookUps.{first_place}
use Rattle.jav_scope.proofs.NamePlaces.{first-here, first-later, first_place-front}
use Rattle.jav_scope.proofs.places.first_place.Goals as goal

pub loop-place-preserved : goal.loop-place-preserved
loop-place-preserved c =
    first-later c.args.name.now c.args.names.now c.loop-place.place c.index-names-place.result c.loop-place-test.true c.index-names-place.is
    c.loop-place.invariant (sym c.if-eq.ensures)

pub returns-then-eq : goal.returns-then-eq
returns-then-eq c =
    first_place-front c.args.name.now c.args.names.now (c.loop-place.place + 1) c.loop-place.place
    (first-here c.args.name.now c.args.names.now c.loop-place.place c.index-names-place.result c.loop-place-test.true c.index-names-place.is
    c.loop-place.invariant (sym c.if-eq.ensures))

pub returns : goal.returns
returns c =
    let names : Names = c.args.names.now in
    let all : take c.loop-place.place names ≡ names = take_all c.loop-place.place names (omega (arith, c.loop-place-test.false)) in
    sym (ap (first_place c.args.name.now) (sym all) ∙ c.loop-place.invariant)
