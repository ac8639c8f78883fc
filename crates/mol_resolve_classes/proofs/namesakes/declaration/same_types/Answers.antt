use Rattle.std.proofs.Common.{◌+◌, ◌&&◌, map, drop, sym, ◌∙◌, ap, arith, nat_cmp}
use Rattle.jav_names.specs.seen.Kept.{view_type}
use Rattle.mol_resolve_rules.specs.FaultLists.{same_types}
use Rattle.mol_resolve_classes.proofs.namesakes_lemmas.InTurn.{alike-more, alike-past, alike-end}
use Rattle.mol_resolve_classes.proofs.namesakes.declaration.same_types.Goals as goal

pub returns-in-None : goal.returns-in-None
returns-in-None c =
    sym (c.loop-place.invariant.2
    ∙ alike-past c.args.former.now c.args.latter.now c.loop-place.place c.index-former-place.result c.loop-place-test.true
    c.index-former-place.is c.in-None.ensures.lookup.3)

pub returns-then-not-same : goal.returns-then-not-same
returns-then-not-same c =
    let former = c.args.former.now in
    let latter = c.args.latter.now in
    let i = c.loop-place.place in
    let rest = same_types nat_cmp (map view_type (drop (i + 1) former)) (map view_type (drop (i + 1) latter)) in
    sym (c.loop-place.invariant.2
    ∙ alike-more former latter i c.index-former-place.result c.in-Some.against.now c.loop-place-test.true c.index-former-place.is
    c.in-Some.ensures.lookup.3.0 c.in-Some.ensures.lookup.1
    ∙ ap (λ b. b && rest) (sym c.same.ensures ∙ c.if-not-same.true))

pub loop-place-preserved : goal.loop-place-preserved
loop-place-preserved c =
    let former = c.args.former.now in
    let latter = c.args.latter.now in
    let i = c.loop-place.place in
    let rest = same_types nat_cmp (map view_type (drop (i + 1) former)) (map view_type (drop (i + 1) latter)) in (
      omega (arith, c.loop-place-test.true),
      omega (arith, c.in-Some.ensures.lookup.3.0),
      c.loop-place.invariant.2
          ∙ alike-more former latter i c.index-former-place.result c.in-Some.against.now c.loop-place-test.true c.index-former-place.is
          c.in-Some.ensures.lookup.3.0 c.in-Some.ensures.lookup.1
          ∙ ap (λ b. b && rest) (sym c.same.ensures ∙ c.if-not-same.false),
    )

pub returns : goal.returns
returns c = sym (c.loop-place.invariant.2
    ∙ alike-end c.args.former.now c.args.latter.now c.loop-place.place c.loop-place.invariant.0
    (omega (arith, c.loop-place-test.false)) c.loop-place.invariant.1)
