use Rattle.std.proofs.Common.{◌≡◌, ◌+◌, ◌-◌, ◌<◌, ◌≤◌, ◌∙◌, ◌++◌, List, Some, length, slice_get, true, false, rules, refl, sym, ap, subst, arith}
use Rattle.std.specs.List.Sorted.{IsPartitionPoint, IsSorted}
use Rattle.std.specs.Option.{option_to_list}
use Rattle.std.specs.Ordering.{is_eq, is_le}
use Rattle.std.proofs.lemmas.List.Sorted.{IsPartitionPoint-from_clause}
use Rattle.std.proofs.lemmas.Option.{slice_get_read}
use Rattle.jav_names.proofs.index_lemmas.Searched.{equal-is}
use Rattle.mol_faults_entities.specs.override_faults.Declarations.{Key, key_cmp, path_cmp, path_of, rows_cmp}
use Rattle.mol_faults_entities.specs.override_faults.Overridden.{Adds}
use Rattle.mol_faults_entities.specs.declared.override_faults.declaration.Declaration.{Declaration}
use Rattle.mol_faults_entities.proofs.override_faults_lemmas.Alongs.{IsBetween, along-all, between-more, none-before}
use Rattle.mol_faults_entities.proofs.override_faults_lemmas.Keys.{key_at, parted-below, path-order}
use Rattle.mol_faults_entities.proofs.override_faults.overridden.add_along.Goals as goal
use Rattle.mol_faults_entities.specs.declared.pair_faults.pair.Pair.{Pair}

pub returns-then-not-is_eq : goal.returns-then-not-is_eq
returns-then-not-is_eq c =
    let row = c.args.row.now in
    let rows : List Declaration = c.args.orders.now.by_key.items in
    let found : List Declaration = c.as_slice-rows.result.now in
    let k : Key = record { arity = row.key.arity; name = row.key.name.now; position = c.args.position.now } in
    let count = c.partition_point-count.result in
    let left = c.loop-left.left in
    let above : Declaration = c.index-above.result.now in
    let point = subst (λ (ds : List Declaration). IsPartitionPoint (λ r. is_le (key_cmp (key_at r) k) ≡ true)
    (λ r. is_le (key_cmp (key_at r) k) ≡ false) ds count) c.as_slice-rows.ensures.value
    (IsPartitionPoint-from_clause (λ (r : Declaration). is_le (key_cmp (key_at r) k)) found count
    c.partition_point-count.ensures.partitioned
    (parted-below k found (subst (IsSorted rows_cmp) (sym c.as_slice-rows.ensures.value) c.requires.by_key)) (λ a r q k. search rules)) in
    let long : count ≤ length rows =
    subst (λ (ds : List Declaration). count ≤ length ds) c.as_slice-rows.ensures.value c.partition_point-count.ensures.bound in
    let inside : left - 1 < count = omega (arith, c.loop-left.invariant.within, c.loop-left-test.true) in
    let there : slice_get rows (left - 1) ≡ Some above =
    slice_get_read rows (length rows) (left - 1) above refl (omega (arith, inside, long)) c.index-above.ensures in
    let differs : is_eq (path_cmp (path_of k) (path_of (key_at above))) ≡ false =
    ap is_eq (sym c.compare_path.ensures) ∙ sym c.is_eq.ensures ∙ c.if-not-is_eq.true in
    along-all rows row k c.requires.by_key count point refl left c.args.pairs.now.items c.loop-left.pairs.items
    (λ place own early is-own path. none-before rows row k c.requires.by_key count point (left - 1) above there inside differs place own
    (omega (arith, early, c.loop-left-test.true)) is-own path)
    c.loop-left.invariant.adds

pub loop-left-preserved : goal.loop-left-preserved
loop-left-preserved c =
    let row = c.args.row.now in
    let rows : List Declaration = c.args.orders.now.by_key.items in
    let k : Key = record { arity = row.key.arity; name = row.key.name.now; position = c.args.position.now } in
    let count = c.partition_point-count.result in
    let left = c.loop-left.left in
    let next = c.left_after-left.result in
    let old = c.args.pairs.now.items in
    let before = c.loop-left.pairs.items in
    let above : Declaration = c.index-above.result.now in
    let long : count ≤ length rows =
    subst (λ (ds : List Declaration). count ≤ length ds) c.as_slice-rows.ensures.value c.partition_point-count.ensures.bound in
    let inside : left - 1 < count = omega (arith, c.loop-left.invariant.within, c.loop-left-test.true) in
    let there : slice_get rows (left - 1) ≡ Some above =
    slice_get_read rows (length rows) (left - 1) above refl (omega (arith, inside, long)) c.index-above.ensures in
    let path : path_of k ≡ path_of (key_at above) = path-order.same (path_of k) (path_of (key_at above))
    (equal-is (path_cmp (path_of k) (path_of (key_at above)))
    (ap is_eq (sym c.compare_path.ensures) ∙ sym c.is_eq.ensures ∙ c.if-not-is_eq.false)) in
    let one_more : left ≡ (left - 1) + 1 = omega (arith, c.loop-left-test.true) in
    record {
      within = omega (arith, c.left_after-left.ensures.within, inside);
      adds = subst (λ (pairs : List Pair). Adds (IsBetween rows row k next count) old pairs)
          (sym (c.in_ok-add_pair.ensures ∙ ap (λ o. before ++ option_to_list o) c.pair_above.ensures))
          (between-more rows row k (left - 1) count next above there inside path c.left_after-left.ensures old before left one_more
          c.loop-left.invariant.adds);
    }

pub returns : goal.returns
returns c =
    let row = c.args.row.now in
    let rows : List Declaration = c.args.orders.now.by_key.items in
    let found : List Declaration = c.as_slice-rows.result.now in
    let k : Key = record { arity = row.key.arity; name = row.key.name.now; position = c.args.position.now } in
    let count = c.partition_point-count.result in
    let point = subst (λ (ds : List Declaration). IsPartitionPoint (λ r. is_le (key_cmp (key_at r) k) ≡ true)
    (λ r. is_le (key_cmp (key_at r) k) ≡ false) ds count) c.as_slice-rows.ensures.value
    (IsPartitionPoint-from_clause (λ (r : Declaration). is_le (key_cmp (key_at r) k)) found count
    c.partition_point-count.ensures.partitioned
    (parted-below k found (subst (IsSorted rows_cmp) (sym c.as_slice-rows.ensures.value) c.requires.by_key)) (λ a r q k. search rules)) in
    along-all rows row k c.requires.by_key count point refl c.loop-left.left c.args.pairs.now.items c.loop-left.pairs.items
    (λ place own early is-own path. absurd (omega (arith, early, c.loop-left-test.false)))
    c.loop-left.invariant.adds
