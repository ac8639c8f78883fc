use Rattle.std.proofs.Common.{◌≡◌, ◌∷◌, ◌++◌, [], map, take, sym, ◌∙◌, ap}
use Rattle.std.proofs.lemmas.List.{map-append}
use Rattle.jav_scope.proofs.Numbered.{mapped-more}
use Rattle.mol_resolve_rules.specs.MemberFaults.{row_of}
use Rattle.mol_resolve_members.specs.members.Rows.{kept_row, type_at}
use Rattle.mol_resolve_members.proofs.members.members.rows_of_file.Goals as goal

pub loop-place-preserved : goal.loop-place-preserved
loop-place-preserved c = λ source at.
    let members = c.args.members.now in
    let place = c.loop-place.place in
    let member = c.index-members-place.result in
    let make = row_of (type_at c.args.scope.now c.args.unit source) c.args.unit in
    let made = c.in_ok-row.ensures source at ∙ (λ j. make (c.in_ok-number.ensures.ok j, member)) in
    ap (map kept_row) c.in_ok-push.ensures.items ∙ map-append kept_row c.loop-place.rows.items _
    ∙ (λ i. c.loop-place.invariant source at i ++ made i ∷ [])
    ∙ sym (mapped-more members place member c.loop-place-test.true c.index-members-place.is make)
