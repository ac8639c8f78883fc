use Rattle.std.proofs.Common.{◌≡◌, ◌<◌, List, Some, length, refl, arith, slice_get}
use Rattle.std.proofs.lemmas.Option.{slice_get_read}
use Rattle.mol_scope_classes.specs.hierarchy.Forest.{here}
use Rattle.mol_scope_classes.specs.declared.hierarchy.place.Place.{Place}
use Rattle.mol_scope_classes.proofs.hierarchy_lemmas.WaysUp.{up-on, up-low}
use Rattle.mol_scope_classes.proofs.hierarchy.forest.Forest.below.Goals as goal

pub index-further-requires : goal.index-further-requires
index-further-requires c =
    let places : List Place = c.args.self.now.places.items in
    let next : Place = c.index-next.result.now in
    let there : slice_get places c.args.above ≡ Some next =
    slice_get_read places (length places) c.args.above next refl c.requires.within c.index-next.ensures in
    let low = up-low places c.requires.places (c.requires.places c.args.above next there).jump in
    omega (arith, low, c.requires.within)

pub returns-then-next-further : goal.returns-then-next-further
returns-then-next-further c =
    let places : List Place = c.args.self.now.places.items in
    let next : Place = c.index-next.result.now in
    let further : Place = c.index-further.result.now in
    let there : slice_get places c.args.above ≡ Some next =
    slice_get_read places (length places) c.args.above next refl c.requires.within c.index-next.ensures in
    let jump = (c.requires.places c.args.above next there).jump in
    let within : next.jump < length places = omega (arith, up-low places c.requires.places jump, c.requires.within) in
    let beyond : slice_get places next.jump ≡ Some further =
    slice_get_read places (length places) next.jump further refl within c.index-further.ensures in
    record { next = refl; jump = up-on places jump (c.requires.places next.jump further beyond).jump }

pub returns-else-next-further : goal.returns-else-next-further
returns-else-next-further c = record { next = refl; jump = here }
