use Rattle.std.proofs.Common.{◌≡◌, ◌<◌, List, length, Some, slice_get, ◌∙◌, ap, arith}
use Rattle.std.specs.List.{position_or_len}
use Rattle.std.proofs.lemmas.Option.{slice_get_within}
use Rattle.jav_scope.specs.declared.source.SourceUnit.{SourceUnit}
use Rattle.mol_resolve_rules.specs.Numbering.{keys_in_order, same_key}
use Rattle.mol_resolve_members.specs.sources.Sources.{files_of}
use Rattle.mol_resolve_members.specs.places.Orders.{numbers_by_path, position}
use Rattle.mol_resolve_members.proofs.places_lemmas.PlacesHeld.{file-place, files-length, place-fits, place-inside, place-is}
use Rattle.mol_resolve_members.proofs.places.places.Places.member.Goals as goal

pub index-requires : goal.index-requires
index-requires c =
    let kept = c.self.inside in
    let unit = c.args.member.unit in
    let at : slice_get kept.sources.now unit ≡ Some c.requires.source =
    ap (λ (all : List SourceUnit). slice_get all unit) c.self.view_is ∙ c.requires.stands in
    omega (
      arith,
      slice_get_within kept.sources.now unit c.requires.source at,
      files-length kept.sources.now kept.files.items kept.before.items c.self.invariant,
      kept.files.ok.0,
    )

pub index-requires-2 : goal.index-requires-2
index-requires-2 c =
    let kept = c.self.inside in
    let unit = c.args.member.unit in
    let at : slice_get kept.sources.now unit ≡ Some c.requires.source =
    ap (λ (all : List SourceUnit). slice_get all unit) c.self.view_is ∙ c.requires.stands in
    let place : c.index.result.now ≡ position (numbers_by_path kept.sources.now) unit =
    c.index.ensures ∙ file-place kept.sources.now kept.files.items kept.before.items c.self.invariant unit c.index.result.now
    (slice_get_within kept.sources.now unit c.requires.source at) in
    omega (
      arith,
      place-inside kept.sources.now kept.files.items kept.before.items c.self.invariant unit c.requires.source at c.index.result.now place,
      kept.before.ok.0,
    )

pub overflow_add-result : goal.overflow_add-result
overflow_add-result c =
    let kept = c.self.inside in
    let unit = c.args.member.unit in
    let at : slice_get kept.sources.now unit ≡ Some c.requires.source =
    ap (λ (all : List SourceUnit). slice_get all unit) c.self.view_is ∙ c.requires.stands in
    let place : c.index.result.now ≡ position (numbers_by_path kept.sources.now) unit =
    c.index.ensures ∙ file-place kept.sources.now kept.files.items kept.before.items c.self.invariant unit c.index.result.now
    (slice_get_within kept.sources.now unit c.requires.source at) in
    omega (
      arith,
      place-fits kept.sources.now kept.files.items kept.before.items c.self.invariant unit c.requires.source at c.index.result.now place
          c.args.member.member c.index-2.result.now c.requires.within c.index-2.ensures,
    )

pub returns : goal.returns
returns c =
    let kept = c.self.inside in
    let unit = c.args.member.unit in
    let member = c.args.member.member in
    let at : slice_get kept.sources.now unit ≡ Some c.requires.source =
    ap (λ (all : List SourceUnit). slice_get all unit) c.self.view_is ∙ c.requires.stands in
    let place : c.index.result.now ≡ position (numbers_by_path kept.sources.now) unit =
    c.index.ensures ∙ file-place kept.sources.now kept.files.items kept.before.items c.self.invariant unit c.index.result.now
    (slice_get_within kept.sources.now unit c.requires.source at) in
    place-is kept.sources.now kept.files.items kept.before.items c.self.invariant unit c.requires.source at c.index.result.now place
    member c.index-2.result.now c.requires.within c.index-2.ensures
    ∙ ap (λ (all : List SourceUnit). position_or_len (same_key (record { unit = unit; member = member })) (keys_in_order (files_of all)))
    c.self.view_is
