use Rattle.std.proofs.Common.{◌≡◌, ◌∙◌, ap, sym, arith, take}
use Rattle.std.proofs.lemmas.List.{take_all}
use Rattle.jav_names.specs.DottedNames.{Names}
use Rattle.jav_names.specs.LookUps.{last_place}
use Rattle.jav_scope.proofs.NamePlaces.{last-here, last-before}
use Rattle.jav_scope.proofs.places.last_place.Goals.{then-eq, else-eq}
use Rattle.jav_scope.proofs.places.last_place.Goals as goal

pub loop-place-preserved : goal.loop-place-preserved
loop-place-preserved c = elim c.if-eq.branch [
  | then-eq w ↦
      w.last-is ∙ last-here c.args.name.now c.args.names.now c.loop-place.place c.index-names-place.result c.loop-place-test.true
      c.index-names-place.is (sym w.if-eq.ensures)
  | else-eq w ↦
      w.last-is ∙ c.loop-place.invariant
      ∙ last-before c.args.name.now c.args.names.now c.loop-place.place c.index-names-place.result c.loop-place-test.true
      c.index-names-place.is (sym w.if-eq.ensures)
]

pub returns : goal.returns
returns c =
    let names : Names = c.args.names.now in
    let all : take c.loop-place.place names ≡ names = take_all c.loop-place.place names (omega (arith, c.loop-place-test.false)) in
    c.loop-place.invariant ∙ ap (last_place c.args.name.now) all
