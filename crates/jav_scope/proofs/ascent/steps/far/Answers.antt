use Rattle.std.proofs.Common.{◌≡◌, ◌+◌, ◌*◌, length, map, ◌∙◌, ap, arith}
use Rattle.std.specs.List.{range_with_len}
use Rattle.jav_scope.specs.ascent.Walked.{walked}
use Rattle.jav_scope.proofs.ascent_lemmas.Walks.{far-within, once-far, twice-far}
use Rattle.jav_scope.proofs.ascent.steps.far.Goals as goal

pub loop-steps-init : goal.loop-steps-init
loop-steps-init c = record { positive = omega arith; places = c.in_ok-far.ensures ∙ once-far c.args.links.now }

pub twice-requires : goal.twice-requires
twice-requires c = far-within c.args.links.now c.requires c.loop-steps.steps c.as_slice.result.now
    (c.as_slice.ensures.value ∙ c.loop-steps.invariant.places)

pub loop-steps-preserved : goal.loop-steps-preserved
loop-steps-preserved c = record {
  positive = omega (arith, c.loop-steps.invariant.positive);
  places = c.in_ok-far-2.ensures
      ∙ twice-far c.args.links.now c.requires c.loop-steps.steps c.as_slice.result.now
      (c.as_slice.ensures.value ∙ c.loop-steps.invariant.places)
      ∙ ap (λ steps. map (walked c.args.links.now steps) (range_with_len 0 (length c.args.links.now))) twice;
} where
  twice : c.loop-steps.steps + c.loop-steps.steps ≡ c.loop-steps.steps * 2
  twice = omega arith
