-- The pairs of a declaration with those along a path, found from below.
use Rattle.std.proofs.Common.{◌≡◌, ◌⊎◌, inl, inr, ℕ, ◌+◌, ◌<◌, ◌≤◌, true, false, List, ◌++◌, get_or, Some, Contains, slice_get, refl, sym, ◌∙◌, ap, arith, true≢false, Ordering, Less, Equal, Greater}
use Rattle.std.specs.List.Sorted.{IsPartitionPoint, IsSorted, IsSortedBy}
use Rattle.std.specs.Option.{option_to_list}
use Rattle.std.specs.Ordering.{is_eq, is_le, is_lt, nat_cmp, ordering_then}
use Rattle.std.proofs.lemmas.Bool.{cases_lt}
use Rattle.std.proofs.lemmas.Cmp.{tied_itself}
use Rattle.std.proofs.lemmas.List.Sorted.{ranks_by, sorted_far}
use Rattle.std.proofs.lemmas.Option.{slice_get-get_or}
use Rattle.jav_names.proofs.index_lemmas.Searched.{get-within}
use Rattle.mol_faults_entities.specs.override_faults.Declarations.{Key, NamedPath, key_cmp, naming_of, path_cmp, path_of, rows_cmp}
use Rattle.mol_faults_entities.specs.override_faults.Overridden.{Adds, IsAlong, IsNext, naming_at, pair_above}
use Rattle.mol_faults_entities.specs.declared.override_faults.declaration.Declaration.{Declaration}
use Rattle.mol_faults_entities.proofs.override_faults_lemmas.Keys.{key_at, no_greater, no_lower, path-order}
use Rattle.mol_faults_entities.proofs.override_faults_lemmas.NamedAlike.{less-first}
use Rattle.mol_faults_entities.proofs.override_faults_lemmas.PairsAbove.{one-there, only-one}
use Rattle.mol_faults_entities.specs.declared.pair_faults.pair.Pair.{Pair}
use Rattle.mol_resolve_rules.proofs.Stands.{behind, in_either, in_front, in_place}
use Rattle.mol_table_rules.proofs.Counts.{none-some, some-same}

-- what stands in a list stands at a place of it
place-of : {X : Type 0} (xs : List X) (x : X) (stands : Contains xs x) → slice_get xs stands.0 ≡ Some x
place-of xs x stands = slice_get-get_or xs stands.0 x stands.1 ∙ ap (λ y. Some y) stands.2

middle : (o next : Ordering) → is_lt o ≡ false → is_le (ordering_then o next) ≡ true → o ≡ Equal
middle Less next low up = absurd (true≢false low)
middle Equal next low up = refl
middle Greater next low up = absurd (true≢false (sym up))

module _ (rows : List Declaration) (row : Declaration) (key : Key) where
  abbrev path_at : Declaration → NamedPath
  path_at declaration = path_of (key_at declaration)

  -- The pair is that with one on the path of the key, from a place on up to before a limit.
  pub record IsBetween (low limit : ℕ) (pair : Pair) : Type 0 where
    pub place : ℕ
    pub above : Declaration
    pub there : slice_get rows place ≡ Some above
    pub from : low ≤ place
    pub before : place < limit
    pub path : path_of key ≡ path_at above
    pub made : pair_above row above ≡ Some pair

  -- one more, and those that are passed
  module _ (last limit next : ℕ) (above : Declaration) (there : slice_get rows last ≡ Some above) (within : last < limit)
      (path : path_of key ≡ path_at above) (passes : IsNext rows row last next) (old before : List Pair) where
    pub between-more : (left : ℕ) → left ≡ last + 1 → Adds (IsBetween left limit) old before
        → Adds (IsBetween next limit) old (before ++ option_to_list (pair_above row above))
    between-more left is adds pair = (to, from) where
      was : Contains old pair ⊎ IsBetween left limit pair → Contains old pair ⊎ IsBetween next limit pair
      was (inl stands) = inl stands
      was (inr between) = inr (record {
        place = between.place;
        above = between.above;
        there = between.there;
        from = omega (arith, between.from, is, passes.within);
        before = between.before;
        path = between.path;
        made = between.made;
      })

      added : Contains before pair ⊎ Contains (option_to_list (pair_above row above)) pair → Contains old pair ⊎ IsBetween next limit pair
      added (inl stands) = was ((adds pair).0 stands)
      added (inr stands) = inr (record {
        place = last;
        above = above;
        there = there;
        from = passes.within;
        before = within;
        path = path;
        made = only-one (pair_above row above) pair stands;
      })

      to : Contains (before ++ option_to_list (pair_above row above)) pair → Contains old pair ⊎ IsBetween next limit pair
      to stands = added (in_either before (option_to_list (pair_above row above)) pair stands)

      kept : Contains old pair ⊎ IsBetween left limit pair → Contains (before ++ option_to_list (pair_above row above)) pair
      kept stands = in_front before (option_to_list (pair_above row above)) pair ((adds pair).1 stands)

      again : (place : ℕ) (own : Declaration) → slice_get rows place ≡ Some own → pair_above row own ≡ Some pair → place ≡ last
          → Contains (before ++ option_to_list (pair_above row above)) pair
      again place own is-own made same =
          let own_is : own ≡ above = some-same own above (sym is-own ∙ ap (slice_get rows) same ∙ there) in
          behind before (option_to_list (pair_above row above)) pair
          (one-there (pair_above row above) pair (ap (pair_above row) (sym own_is) ∙ made))

      at : (between : IsBetween next limit pair) → (between.place < last) ⊎ (last ≤ between.place)
          → Contains (before ++ option_to_list (pair_above row above)) pair
      at between (inl early) = absurd (none-some pair
          (sym (passes.passed between.place between.above between.from early between.there) ∙ between.made))
      at between (inr late) = choose (cases_lt last between.place) where
        choose : (last < between.place) ⊎ (between.place ≤ last) → Contains (before ++ option_to_list (pair_above row above)) pair
        choose (inl later) = kept (inr (record {
          place = between.place;
          above = between.above;
          there = between.there;
          from = omega (arith, later, is);
          before = between.before;
          path = between.path;
          made = between.made;
        }))
        choose (inr most) = again between.place between.above between.there between.made (omega (arith, late, most))

      from : Contains old pair ⊎ IsBetween next limit pair → Contains (before ++ option_to_list (pair_above row above)) pair
      from (inl stands) = kept (inl stands)
      from (inr between) = at between (cases_lt between.place last)

  -- ---- where all that are no greater than the key stand before the limit

  module _ (sorted : IsSorted rows_cmp rows) (limit : ℕ)
      (point : IsPartitionPoint (λ r. is_le (key_cmp (key_at r) key) ≡ true) (λ r. is_le (key_cmp (key_at r) key) ≡ false) rows limit)
    where
      low-before : (place : ℕ) (own : Declaration) → slice_get rows place ≡ Some own → place < limit
          → is_le (key_cmp (key_at own) key) ≡ true
      low-before place own there early =
          let at = get-within rows place own own there in
          ap (λ r. is_le (key_cmp (key_at r) key)) (sym at.1) ∙ point.0 place own (omega arith) early

      before-low : (place : ℕ) (own : Declaration) → slice_get rows place ≡ Some own → is_le (key_cmp (key_at own) key) ≡ true
          → place < limit
      before-low place own there low = by (cases_lt place limit) where
        by : (place < limit) ⊎ (limit ≤ place) → place < limit
        by (inl early) = early
        by (inr late) =
            let at = get-within rows place own own there in
            absurd (true≢false (sym low ∙ ap (λ r. is_le (key_cmp (key_at r) key)) (sym at.1) ∙ point.1 place own late at.0))

      by_path : IsSortedBy (λ x y. is_lt (path_cmp (path_at x) (path_at y))) rows
      by_path k d low within =
          less-first (path_cmp (path_at (get_or rows (k + 1) d)) (path_at (get_or rows k d)))
          (nat_cmp (key_at (get_or rows (k + 1) d)).position.depth (key_at (get_or rows k d)).position.depth) (sorted k d low within)

      -- none stands before one of another path that is no greater than the key
      pub none-before : (last : ℕ) (above : Declaration) → slice_get rows last ≡ Some above → last < limit
          → is_eq (path_cmp (path_of key) (path_at above)) ≡ false → (place : ℕ) (own : Declaration) → place < last + 1
          → slice_get rows place ≡ Some own → path_of key ≡ path_at own → ⊥
      none-before last above there within differs place own early is-own path =
          let at-above = get-within rows last above above there in
          let at-own = get-within rows place own above is-own in
          let far = sorted_far (λ x y. is_lt (path_cmp (path_at x) (path_at y))) (ranks_by path-order.total path_at) rows by_path place last
          above (omega (arith, early)) at-above.0 in
          let not-less : is_lt (path_cmp (path_at above) (path_of key)) ≡ false =
          (λ i. is_lt (path_cmp (path_at (sym at-above.1 i)) ((path ∙ ap path_at (sym at-own.1)) i))) ∙ far in
          let same : path_at above ≡ path_of key = path-order.same (path_at above) (path_of key)
          (middle (path_cmp (path_at above) (path_of key)) (nat_cmp (key_at above).position.depth key.position.depth) not-less
          (low-before last above there within)) in
          true≢false (sym (ap is_eq (ap (path_cmp (path_of key)) same ∙ tied_itself path-order.total (path_of key))) ∙ differs)

      -- all that are left are on the path of the key at its position or further up
      pub along-all : naming_of key ≡ naming_at row → (left : ℕ) (old new : List Pair)
          → ((place : ℕ) (own : Declaration) → place < left → slice_get rows place ≡ Some own → path_of key ≡ path_at own → ⊥)
          → Adds (IsBetween left limit) old new → Adds (IsAlong rows row key.position) old new
      along-all alike left old new none adds pair = (to, from) where
        to-along : Contains old pair ⊎ IsBetween left limit pair → Contains old pair ⊎ IsAlong rows row key.position pair
        to-along (inl stands) = inl stands
        to-along (inr between) = inr (record {
          above = between.above;
          stands = in_place rows between.place between.above between.there;
          alike = sym alike ∙ ap (λ (p : NamedPath). p.naming) between.path;
          path = ap (λ (p : NamedPath). p.top) (sym between.path);
          up = no_lower (key_at between.above) key (sym between.path) (low-before between.place between.above between.there between.before);
          made = between.made;
        })

        to : Contains new pair → Contains old pair ⊎ IsAlong rows row key.position pair
        to stands = to-along ((adds pair).0 stands)

        found : IsAlong rows row key.position pair → IsBetween left limit pair
        found along = by (cases_lt along.stands.0 left) where
          there : slice_get rows along.stands.0 ≡ Some along.above
          there = place-of rows along.above along.stands

          path : path_of key ≡ path_at along.above
          path i = record { naming = (alike ∙ along.alike) i; top = sym along.path i }

          by : (along.stands.0 < left) ⊎ (left ≤ along.stands.0) → IsBetween left limit pair
          by (inl early) = absurd (none along.stands.0 along.above early there path)
          by (inr late) = record {
            place = along.stands.0;
            above = along.above;
            there = there;
            from = late;
            before = before-low along.stands.0 along.above there (no_greater (key_at along.above) key (sym path) along.up);
            path = path;
            made = along.made;
          }

        from : Contains old pair ⊎ IsAlong rows row key.position pair → Contains new pair
        from (inl stands) = (adds pair).1 (inl stands)
        from (inr along) = (adds pair).1 (inr (found along))
