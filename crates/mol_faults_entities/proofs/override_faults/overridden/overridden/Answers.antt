use Rattle.std.proofs.Common.{◌≡◌, ◌<◌, ◌≤◌, ◌∙◌, List, [], Contains, length, get_or, sym, ap, subst}
use Rattle.std.specs.Prelude.{◌↔◌}
use Rattle.std.proofs.lemmas.List.{take_all}
use Rattle.std.proofs.lemmas.List.Elements.{Contains-get_or}
use Rattle.mol_faults_entities.specs.override_faults.Overridden.{IsOverAny}
use Rattle.mol_faults_entities.specs.declared.override_faults.declaration.Declaration.{Declaration}
use Rattle.mol_faults_entities.proofs.override_faults_lemmas.OverAny.{none-over_any, more-over_any}
use Rattle.mol_faults_entities.proofs.override_faults.overridden.overridden.Goals as goal
use Rattle.mol_faults_entities.specs.declared.pair_faults.pair.Pair.{Pair}

pub loop-row-init : goal.loop-row-init
loop-row-init c = subst (λ (pairs : List Pair). (pair : Pair)
    → Contains pairs pair ↔ IsOverAny c.args.table.now c.args.orders.now.by_key.items [] pair) (sym c.new-pairs.ensures.items)
    (none-over_any c.args.table.now c.args.orders.now.by_key.items)

pub add_overridden-requires-clause-stands : goal.add_overridden-requires-clause-stands
add_overridden-requires-clause-stands c =
    let rows = c.as_slice-row-items in
    let row = c.row-item.result in
    let among : Contains rows.result.now row =
    subst (Contains rows.result.now) (sym c.row-item.is) (Contains-get_or rows.result.now c.loop-row.row-index row c.loop-row-test.true) in
    subst (λ (ds : List Declaration). Contains ds row) rows.ensures.value among

pub loop-row-preserved : goal.loop-row-preserved
loop-row-preserved c =
    let items = c.as_slice-row-items in
    let rows = c.args.orders.now.by_key.items in
    let i = c.loop-row.row-index in
    let row = c.row-item.result in
    let within : i < length rows = subst (λ (ds : List Declaration). i < length ds) items.ensures.value c.loop-row-test.true in
    let is : row ≡ get_or rows i row = c.row-item.is ∙ ap (λ (ds : List Declaration). get_or ds i row) items.ensures.value in
    more-over_any c.args.table.now rows i row c.loop-row.pairs.items c.add_overridden.new.pairs.items within is c.loop-row.invariant
    c.in_ok-add_overridden.ensures

pub returns : goal.returns
returns c =
    let items = c.as_slice-row-items in
    let rows = c.args.orders.now.by_key.items in
    subst (λ (among : List Declaration). (pair : Pair) → Contains c.loop-row.pairs.items pair ↔ IsOverAny c.args.table.now rows among pair)
    (take_all c.loop-row.row-index rows
    (subst (λ (ds : List Declaration). length ds ≤ c.loop-row.row-index) items.ensures.value c.loop-row-test.false))
    c.loop-row.invariant
