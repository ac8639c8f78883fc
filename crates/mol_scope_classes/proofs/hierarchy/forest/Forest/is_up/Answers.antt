use Rattle.std.proofs.Common.{◌≡◌, subst, arith, eqb-true, eq-eqb}
use Rattle.mol_scope_classes.specs.hierarchy.Forest.{IsUp, here}
use Rattle.mol_scope_classes.proofs.hierarchy_lemmas.PlacesSearched.{next-low, stuck, goes-on, comes-from}
use Rattle.mol_scope_classes.proofs.hierarchy_lemmas.WaysUp.{up-low}
use Rattle.mol_scope_classes.proofs.hierarchy.forest.Forest.is_up.Goals as goal

pub returns-then-next-at : goal.returns-then-next-at
returns-then-next-at c =
    let places = c.args.self.now.places.items in
    let are = c.requires.places in (
      λ is. absurd cc,
      λ up. absurd (stuck places are c.loop-at.at c.args.to c.next-next.result c.next-next.ensures c.loop-at-test.true c.if-next-at.true
          (c.loop-at.invariant.same.0 up)),
    )

pub loop-at-smaller : goal.loop-at-smaller
loop-at-smaller c =
    let low = next-low c.args.self.now.places.items c.requires.places c.loop-at.at c.args.to c.next-next.result c.next-next.ensures in
    omega (arith, low, c.if-next-at.false)

pub loop-at-preserved : goal.loop-at-preserved
loop-at-preserved c =
    let places = c.args.self.now.places.items in
    let are = c.requires.places in
    let at = c.loop-at.at in
    let next = c.next-next.result in
    let on = c.next-next.ensures in
    record {
      within = omega (arith, next-low places are at c.args.to next on, c.loop-at.invariant.within);
      same = (
        λ up. goes-on places are at c.args.to next on c.loop-at-test.true (c.loop-at.invariant.same.0 up),
        λ up. c.loop-at.invariant.same.1 (comes-from places are at c.args.to next on up),
      );
    }

pub returns : goal.returns
returns c =
    let places = c.args.self.now.places.items in
    let at = c.loop-at.at in (
      λ is. c.loop-at.invariant.same.1 (subst (IsUp places at) (eqb-true at c.args.to is) here),
      λ up.
          let low = up-low places c.requires.places (c.loop-at.invariant.same.0 up) in
          let same : at ≡ c.args.to = omega (arith, low, c.loop-at-test.false) in
          eq-eqb at c.args.to same,
    )
