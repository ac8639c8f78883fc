-- Rows of one key stand together in a list that is sorted by keys.
use Rattle.std.proofs.Common.{◌≡◌, ℕ, ◌+◌, ◌-◌, ◌<◌, ◌≤◌, ◌⊎◌, inl, inr, true, false, List, length, length-drop, length-take, get_or, get_or-drop, take, drop, Contains, refl, sym, ◌∙◌, ap, arith, true≢false, Ordering, Less, Equal, Greater}
use Rattle.std.specs.List.Sorted.{IsPartitionPoint, IsPartitionedBy, IsSortedBy}
use Rattle.std.specs.Ordering.{is_eq, is_lt, ordering_index}
use Rattle.std.specs.Prelude.{◌↔◌}
use Rattle.std.proofs.lemmas.Cmp.{tied_itself}
use Rattle.std.proofs.lemmas.List.{get_or-take}
use Rattle.std.proofs.lemmas.List.Sorted.{searchable_from_sorted}
use Rattle.jav_names.proofs.index_lemmas.Searched.{below-or_from, equal-is}
use Rattle.jav_names.specs.Views.{IsKeyOrder}

not-later : (o : Ordering) → is_lt o ≡ false → ordering_index o ≤ 1 → is_eq o ≡ true
not-later Less before low = absurd (true≢false before)
not-later Equal before low = refl
not-later Greater before low = absurd (omega (arith, low))

module _ {X K : Type 0} (cmp : K → K → Ordering) (order : IsKeyOrder cmp) (key : X → K) (k : K) (rows : List X)
    (up : IsSortedBy (λ x y. is_lt (cmp (key x) (key y))) rows) (start : ℕ)
    (first : IsPartitionPoint (λ r. is_lt (cmp (key r) k) ≡ true) (λ r. is_lt (cmp (key r) k) ≡ false) rows start) (later : List X)
    (is : later ≡ drop start rows) where
  inside : (j : ℕ) → j < length later → start + j < length rows
  inside j within =
      let long = ap (λ (xs : List X). length xs) is in
      omega (arith, within, long, length-drop start rows)

  at : (j : ℕ) (d : X) → get_or later j d ≡ get_or rows (start + j) d
  at j d = ap (λ (xs : List X). get_or xs j d) is ∙ get_or-drop start rows j d

  -- from the first on
  pub ties-first : IsPartitionedBy (λ r. is_eq (cmp (key r) k)) later
  ties-first i j d from within tie =
      let tied : cmp (key (get_or rows (start + j) d)) k ≡ Equal = ap (λ r. cmp (key r) k) (sym (at j d)) ∙ equal-is _ tie in
      let rises = searchable_from_sorted order.total key rows k up (start + i) (start + j) d (omega (arith, from)) (inside j within) in
      ap (λ r. is_eq (cmp (key r) k)) (at i d)
      ∙ not-later (cmp (key (get_or rows (start + i) d)) k) (first.1 (start + i) d (omega arith) (omega (arith, from, inside j within)))
      (omega (arith, rises, ap ordering_index tied))

  module _ (count : ℕ) (bound : count ≤ length later)
      (point : IsPartitionPoint (λ r. is_eq (cmp (key r) k) ≡ true) (λ r. is_eq (cmp (key r) k) ≡ false) later count) where
    long : length (take count later) ≡ count
    long = omega (arith, length-take count later, bound)

    from-run : (x : X) → Contains (take count later) x → Contains rows x × (key x ≡ k)
    from-run x stands =
        let j = stands.0 in
        let early : j < count = omega (arith, stands.1, long) in
        let here : get_or later j x ≡ x = sym (get_or-take count later j x early) ∙ stands.2 in (
          (start + j, inside j (omega (arith, early, bound)), sym (at j x) ∙ here),
          order.same (key x) k (ap (λ r. cmp (key r) k) (sym here) ∙ equal-is _ (point.0 j x (omega arith) early)),
        )

    in-run : (x : X) → Contains rows x → key x ≡ k → Contains (take count later) x
    in-run x stands same = by (below-or_from stands.0 start) where
      tied : cmp (key x) k ≡ Equal
      tied = ap (cmp (key x)) (sym same) ∙ tied_itself order.total (key x)

      by : (stands.0 < start) ⊎ (start ≤ stands.0) → Contains (take count later) x
      by (inl before) = absurd (true≢false (sym (first.0 stands.0 x (omega arith) before)
          ∙ ap (λ r. is_lt (cmp (key r) k)) stands.2 ∙ ap is_lt tied))
      by (inr from) = by_count (below-or_from j count) where
        j : ℕ
        j = stands.0 - start

        whole : start + j ≡ stands.0
        whole = omega (arith, from)

        there : get_or later j x ≡ x
        there = at j x ∙ ap (λ n. get_or rows n x) whole ∙ stands.2

        within : j < length later
        within =
            let more = ap (λ (xs : List X). length xs) is in
            omega (arith, stands.1, from, whole, more, length-drop start rows)

        by_count : (j < count) ⊎ (count ≤ j) → Contains (take count later) x
        by_count (inl early) = (j, omega (arith, early, long), get_or-take count later j x early ∙ there)
        by_count (inr late) = absurd (true≢false (sym (ap is_eq tied) ∙ ap (λ r. is_eq (cmp (key r) k)) (sym there)
            ∙ point.1 j x late within))

    -- these are all of the key
    pub run-is : (x : X) → Contains (take count later) x ↔ (Contains rows x × (key x ≡ k))
    run-is x = (from-run x, λ there. in-run x there.0 there.1)
