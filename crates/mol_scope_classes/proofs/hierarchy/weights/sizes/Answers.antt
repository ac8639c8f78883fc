use Rattle.std.proofs.Common.{◌<◌, ◌-◌, length, arith}
use Rattle.mol_scope_classes.specs.declared.hierarchy.place.Place.{Place}
use Rattle.mol_scope_classes.proofs.hierarchy_lemmas.WaysUp.{above-within}
use Rattle.mol_scope_classes.proofs.hierarchy.weights.sizes.Goals as goal

pub index-requires-in-loop-number : goal.index-requires-in-loop-number
index-requires-in-loop-number c =
    let number = c.loop-number.number - 1 in
    let none : Place = record { above = 0; jump = 0; rank = 0 } in
    let within : number < length c.args.places.now = omega (arith, c.loop-number-test.true, c.loop-number.auto.number) in
    omega (arith, above-within c.args.places.now c.requires number none within, c.loop-number.invariant)

pub index_mut-requires : goal.index_mut-requires
index_mut-requires c =
    let number = c.loop-number.number - 1 in
    let none : Place = record { above = 0; jump = 0; rank = 0 } in
    let within : number < length c.args.places.now = omega (arith, c.loop-number-test.true, c.loop-number.auto.number) in
    omega (arith, above-within c.args.places.now c.requires number none within, c.loop-number.invariant)
