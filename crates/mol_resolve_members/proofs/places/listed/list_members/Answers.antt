use Rattle.std.proofs.Common.{◌≡◌, ◌∷◌, ◌++◌, [], List, length, get_or, map, take, flat_map, Some, slice_get, refl, sym, ◌∙◌, ap}
use Rattle.std.specs.Option.{option_map_or}
use Rattle.std.proofs.lemmas.List.{append-nil, take_more}
use Rattle.std.proofs.lemmas.List.Concat.{flat_map-append, flat_map-cons}
use Rattle.std.proofs.lemmas.Option.{slice_get_read}
use Rattle.jav_tree.specs.declared.unit.Member.{Member}
use Rattle.jav_names.specs.UnitViews.{numbered}
use Rattle.jav_scope.specs.declared.source.SourceUnit.{SourceUnit}
use Rattle.mol_resolve_members.specs.places.Listings.{members_in, with_key}
use Rattle.mol_resolve_members.proofs.places.listed.list_members.Goals as goal

pub loop-unit-preserved : goal.loop-unit-preserved
loop-unit-preserved c =
    let sources = c.args.sources.now in
    let order = c.args.order.now in
    let index = c.loop-unit.unit-index in
    let unit = get_or order index 0 in
    let there : slice_get sources unit ≡ Some c.index-sources-unit.result =
    slice_get_read sources (length sources) unit c.index-sources-unit.result refl (c.requires index 0 c.loop-unit-test.true)
    c.index-sources-unit.is in
    let members : map (with_key unit) (numbered c.items-members.result.now) ≡ members_in sources unit =
    ap (λ (all : List Member). map (with_key unit) (numbered all)) c.items-members.ensures
    ∙ ap (λ (source : SourceUnit). map (with_key unit) (numbered source.unit.class.members)) (sym c.index-sources-unit.is)
    ∙ sym (ap (λ found. option_map_or (λ (source : SourceUnit). map (with_key unit) (numbered source.unit.class.members))
    found []) there) in
    c.in_ok-list_file.ensures ∙ (λ i. c.loop-unit.invariant i ++ members i)
    ∙ sym (ap (flat_map (members_in sources)) (take_more order index 0 c.loop-unit-test.true)
    ∙ flat_map-append (members_in sources) (take index order) (unit ∷ [])
    ∙ ap (λ rest. flat_map (members_in sources) (take index order) ++ rest)
    (flat_map-cons (members_in sources) unit [] ∙ append-nil (members_in sources unit)))
