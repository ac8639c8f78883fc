use Rattle.std.proofs.Common.{◌+◌, map, drop, sym, ◌∙◌, ap, arith, Ordering}
use Rattle.std.specs.Ordering.{ordering_then}
use Rattle.jav_names.specs.seen.Kept.{view_type}
use Rattle.mol_resolve_classes.specs.signatures.TypeOrder.{types_cmp}
use Rattle.mol_resolve_classes.proofs.signatures_lemmas.InTurn.{then-stops, compared-more, compared-past, compared-end}
use Rattle.mol_resolve_classes.proofs.signatures.type_order.compare_types.Goals as goal

pub returns-in-None : goal.returns-in-None
returns-in-None c =
    let ty = c.index-former-place.result in
    sym (c.loop-place.invariant.2
    ∙ compared-past c.args.former.now c.args.latter.now c.loop-place.place ty c.loop-place-test.true c.index-former-place.is
    c.in-None.ensures.lookup.3)

pub returns-in_default : goal.returns-in_default
returns-in_default c =
    let former = c.args.former.now in
    let latter = c.args.latter.now in
    let i = c.loop-place.place in
    let order : Ordering = c.compare_type.result in
    let rest = types_cmp (map view_type (drop (i + 1) former)) (map view_type (drop (i + 1) latter)) in
    sym (c.loop-place.invariant.2
    ∙ compared-more former latter i c.index-former-place.result c.in-Some.against.now c.loop-place-test.true c.index-former-place.is
    c.in-Some.ensures.lookup.3.0 c.in-Some.ensures.lookup.1
    ∙ ap (λ o. ordering_then o rest) (sym c.compare_type.ensures)
    ∙ then-stops order rest c.in_default.not-Equal)

pub loop-place-preserved : goal.loop-place-preserved
loop-place-preserved c =
    let former = c.args.former.now in
    let latter = c.args.latter.now in
    let i = c.loop-place.place in
    let rest = types_cmp (map view_type (drop (i + 1) former)) (map view_type (drop (i + 1) latter)) in (
      omega (arith, c.loop-place-test.true),
      omega (arith, c.in-Some.ensures.lookup.3.0),
      c.loop-place.invariant.2
          ∙ compared-more former latter i c.index-former-place.result c.in-Some.against.now c.loop-place-test.true c.index-former-place.is
          c.in-Some.ensures.lookup.3.0 c.in-Some.ensures.lookup.1
          ∙ ap (λ o. ordering_then o rest) (sym c.compare_type.ensures ∙ c.in-Equal.is),
    )

pub returns : goal.returns
returns c =
    c.cmp.ensures
    ∙ sym (c.loop-place.invariant.2
    ∙ compared-end c.args.former.now c.args.latter.now c.loop-place.place c.loop-place.invariant.0
    (omega (arith, c.loop-place-test.false)) c.loop-place.invariant.1)
