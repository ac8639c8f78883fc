use Rattle.std.proofs.Common.{◌≡◌, ◌∙◌, ◌-◌, sym, ap, subst, arith, List, length, take, drop}
use Rattle.std.specs.List.{All}
use Rattle.std.specs.List.Sorted.{IsPermutation}
use Rattle.std.proofs.lemmas.List.{length-drop, length-map, length-take-le, take_all}
use Rattle.indexmap.specs.IndexMap.{keys}
use Rattle.mol_base.specs.declared.ident.Id.{Id}
use Rattle.mol_table_rules.specs.Identities.{AscendsTo, IsAscending}
use Rattle.mol_table.specs.Maps.{IsOrdered}
use Rattle.mol_values_types.specs.declared.known.Known.{Known}
use Rattle.mol_table.proofs.Arranged.{NotBelow, all-sorted, front-ascending}
use Rattle.mol_table.proofs.Identities.{sorted-ascending}
use Rattle.mol_table.proofs.maps.Maps.arrange.Goals.{then-ids-from-via-then-ids-from, then-ids-from-via-else-ids-from+then-ascends_from}
use Rattle.mol_table.proofs.maps.Maps.arrange.Goals as goal

pub returns-then-ids-from-clause-ordered : goal.returns-then-ids-from-clause-ordered
returns-then-ids-from-clause-ordered c =
    let ids : List Id = keys c.args.self.now.known in
    let same : c.as_slice-ids.result.now ≡ ids = c.as_slice-ids.ensures ∙ c.keys.ensures.rest in
    elim c.then-ids-from.branch [
      | then-ids-from-via-then-ids-from w ↦ subst IsOrdered (sym w.self-is)
          (sorted-ascending ids (λ k d within. c.requires.first k d (omega (arith, within, ap length same, w.if-ids-from.true))))
      | then-ids-from-via-else-ids-from+then-ascends_from w ↦ subst IsOrdered (sym w.self-is)
          (sorted-ascending ids (subst IsAscending same (w.ascends_from.ensures w.if-ascends_from.true (subst (AscendsTo c.args.from) (sym same) c.requires.first))))
    ]

pub count_before-place-requires : goal.count_before-place-requires
count_before-place-requires c =
    let same : c.as_slice-ids.result.now ≡ keys c.args.self.now.known = c.as_slice-ids.ensures ∙ c.keys.ensures.rest in
    let long = length-map c.args.self.now.known.entries (λ (e : Id × Known). e.0) in
    front-ascending c.as_slice-ids.result.now c.args.from (omega (arith, ap length same, long, c.requires.within)) (subst (AscendsTo c.args.from) (sym same) c.requires.first)

pub returns-clause-ordered : goal.returns-clause-ordered
returns-clause-ordered c =
    let shown : List Id = c.as_slice-ids.result.now in
    let now : List Id = keys c.sort_from.new.known in
    let from = c.args.from in
    let place = c.count_before-place.result in
    let least = c.least_of.result in
    let same : keys c.args.self.now.known ≡ shown = sym (c.as_slice-ids.ensures ∙ c.keys.ensures.rest) in
    let long = length-map c.args.self.now.known.entries (λ (e : Id × Known). e.0) in
    let short = length-take-le from shown (omega (arith, ap length same, long, c.requires.within)) in
    let whole = take_all (length shown - from) (drop from shown) (omega (arith, length-drop from shown)) in
    all-sorted shown now from place least (subst (AscendsTo from) same c.requires.first) (omega (arith, ap length same, long, c.requires.within)) (omega (arith, short, c.count_before-place.ensures.within))
    c.count_before-place.ensures.place (subst (All (λ id. NotBelow id least)) whole c.least_of.ensures.least)
    (c.sort_from.ensures.first ∙ ap (take place) same)
    (subst (λ (ids : List Id). IsPermutation (drop place ids) (drop place now)) same c.sort_from.ensures.same)
    c.sort_from.ensures.sorted
