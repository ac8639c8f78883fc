use Rattle.std.proofs.Common.{◌∷◌, ◌++◌, [], map, take, sym, ◌∙◌, ap, append_assoc}
use Rattle.std.proofs.lemmas.List.{map-append}
use Rattle.jav_scope.proofs.Numbered.{mapped-more}
use Rattle.jav_names.specs.UnitViews.{numbered}
use Rattle.mol_resolve_members.specs.places.Listings.{as_listed, with_key}
use Rattle.mol_resolve_members.proofs.places.listed.list_file.Goals as goal

pub loop-place-preserved : goal.loop-place-preserved
loop-place-preserved c =
    let members = c.args.members.now in
    let place = c.loop-place.place in
    let member = c.index-members-place.result in
    let unit = c.args.unit in
    let before = map as_listed c.args.listed.now.items in
    let first = map (with_key unit) (numbered (take place members)) in
    ap (map as_listed) c.in_ok-push.ensures.items ∙ map-append as_listed c.loop-place.listed.items _
    ∙ (λ i. c.loop-place.invariant i ++ with_key unit (c.in_ok-number.ensures.ok i, member) ∷ [])
    ∙ append_assoc before first (with_key unit (place, member) ∷ [])
    ∙ ap (λ rest. before ++ rest) (sym (mapped-more members place member c.loop-place-test.true c.index-members-place.is (with_key unit)))
