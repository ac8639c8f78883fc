-- The group of namesakes tells what those are, and grows by one more.
use Rattle.std.proofs.Common.{◌≡◌, Bool, true, false, cond, ◌&&◌, ◌||◌, not, ℕ, ltb, List, [], ◌∷◌, ◌++◌, length, filter, find, Option, Some, None, option_map, is_some, refl, sym, ◌∙◌, ap, subst, true≢false, nat_cmp, bytes_eq, eqb-true, eq-eqb, eqb, ◌==◌, append-nil, if◌then◌else◌}
use Rattle.std.specs.Cmp.Lexicographic.{slice_cmp}
use Rattle.std.specs.List.{list_any}
use Rattle.std.specs.Option.{option_map_or, option_or}
use Rattle.std.specs.Ordering.{is_eq, ordering_then}
use Rattle.std.proofs.lemmas.Bool.Decides.{same_from_decides}
use Rattle.std.proofs.lemmas.Slice.Eq.{bytes_eq-Decides}
use Rattle.jav_names.specs.seen.Kept.{view_type}
use Rattle.jav_names.specs.StaticTypes.{same_type}
use Rattle.jav_names.proofs.UnitsOrdered.{nat_cmp-IsKeyOrder}
use Rattle.jav_names.proofs.Ways.{same_key}
use Rattle.mol_resolve_classes.proofs.signatures_lemmas.TypesOrdered.{eq-then, tied-bytes}
use Rattle.mol_resolve_rules.specs.FaultLists.{same_types}
use Rattle.mol_resolve_classes.specs.namesakes.Compared.{AreInOrder, types_of, are_namesakes, takes_same, gives_same, differences, differences_before, hides_static}
use Rattle.mol_resolve_classes.specs.namesakes.Groups.{place_of_other, summary, group_of, group_in, grown, told, alike, told_early, told_before}
use Rattle.mol_resolve_classes.specs.declared.namesakes.declaration.Declaration.{Declaration}
use Rattle.mol_resolve_classes.specs.declared.namesakes.group.Group.{Group}
use Rattle.mol_resolve_classes.proofs.namesakes_lemmas.Likeness.{IsLikeness, type-likeness, types-likeness, on-likeness, any-same, any-filtered, some-differ, some-differ_before, none-differ_before, filters-swap, filtered-ascends}

takes-likeness : IsLikeness takes_same
takes-likeness = on-likeness types_of (same_types nat_cmp) types-likeness

gives-likeness : IsLikeness gives_same
gives-likeness = on-likeness (λ (d : Declaration). view_type d.result.now) (same_type nat_cmp) type-likeness

is_some-mapped : {X Y : Type 0} (f : X → Y) (o : Option X) → is_some o ≡ is_some (option_map f o)
is_some-mapped f None = refl
is_some-mapped f (Some x) = refl

module _ (d : Declaration) (declared : List Declaration) where
  abbrev is_namesake : Declaration → Bool
  is_namesake n = are_namesakes n d

  abbrev namesakes : List Declaration
  namesakes = filter is_namesake declared

  abbrev comes_before : Declaration → Bool
  comes_before n = ltb n.place d.place

  module _ (same : Declaration → Declaration → Bool) (likeness : IsLikeness same) where
    -- where there are namesakes
    one-differs : (first : Declaration) (rest : List Declaration) → namesakes ≡ first ∷ rest
        → list_any (λ n. are_namesakes n d && not (same n d)) declared
        ≡ (not (same first d) || is_some (place_of_other same first (first ∷ rest)))
    one-differs first rest is =
        any-filtered is_namesake (λ n. not (same n d)) declared ∙ ap (list_any (λ n. not (same n d))) is
        ∙ some-differ same likeness first rest d
        ∙ ap (λ b. not (same first d) || b) (is_some-mapped (λ (n : Declaration). n.place) (find (λ n. not (same first n)) (first ∷ rest)))

    none-differs : namesakes ≡ [] → list_any (λ n. are_namesakes n d && not (same n d)) declared ≡ false
    none-differs is = any-filtered is_namesake (λ n. not (same n d)) declared ∙ ap (list_any (λ n. not (same n d))) is

    earlier : list_any (λ n. are_namesakes n d && not (same n d)) (filter comes_before declared)
        ≡ list_any (λ n. not (same n d)) (filter comes_before namesakes)
    earlier = any-filtered is_namesake (λ n. not (same n d)) (filter comes_before declared)
        ∙ ap (list_any (λ n. not (same n d))) (filters-swap is_namesake comes_before declared)

    module _ (up : AreInOrder declared) where
      ascends : (first : Declaration) (rest : List Declaration) → namesakes ≡ first ∷ rest → AreInOrder (first ∷ rest)
      ascends first rest is = subst AreInOrder is (filtered-ascends (λ n. n.place) is_namesake declared up)

      one-differs_before : (first : Declaration) (rest : List Declaration) → namesakes ≡ first ∷ rest → comes_before first ≡ true
          → list_any (λ n. are_namesakes n d && not (same n d)) (filter comes_before declared)
          ≡ (not (same first d) || option_map_or (λ n. ltb n d.place) (place_of_other same first (first ∷ rest)) false)
      one-differs_before first rest is early =
          earlier ∙ ap (λ ns. list_any (λ n. not (same n d)) (filter comes_before ns)) is
          ∙ some-differ_before (λ n. n.place) d.place same likeness first rest d (ascends first rest is) early

      none-differs_before : (first : Declaration) (rest : List Declaration) → namesakes ≡ first ∷ rest → comes_before first ≡ false
          → list_any (λ n. are_namesakes n d && not (same n d)) (filter comes_before declared) ≡ false
      none-differs_before first rest is late =
          earlier ∙ ap (λ ns. list_any (λ n. not (same n d)) (filter comes_before ns)) is
          ∙ none-differ_before (λ n. n.place) d.place (λ n. not (same n d)) first rest (ascends first rest is) late

      none_before : namesakes ≡ [] → list_any (λ n. are_namesakes n d && not (same n d)) (filter comes_before declared) ≡ false
      none_before is = earlier ∙ ap (λ ns. list_any (λ n. not (same n d)) (filter comes_before ns)) is

  -- ---- what the group of namesakes tells

  -- where there is a group it is that of some namesakes
  of_some : (ns : List Declaration) (group : Group) → group_of ns ≡ Some group
      → (first : Declaration) × (rest : List Declaration) × (ns ≡ first ∷ rest) × (group ≡ summary first (first ∷ rest))
  of_some [] group is = absurd cc
  of_some (first ∷ rest) group is = (first, rest, refl, let same : group ≡ summary first (first ∷ rest) = cc in same)

  of_none : (ns : List Declaration) → group_of ns ≡ None → ns ≡ []
  of_none [] is = refl
  of_none (first ∷ rest) is = absurd cc

  or-each : (p : Declaration → Bool) (b : Bool) (x : Declaration) (xs : List Declaration)
      → list_any (λ y. p y || b) (x ∷ xs) ≡ (list_any p (x ∷ xs) || b)
  or-each p true x xs = by (p x) where
    by : (a : Bool) → ((a || true) || list_any (λ y. p y || true) xs) ≡ ((a || list_any p xs) || true)
    by true = refl
    by false = sym (with-true (list_any p xs)) where
      with-true : (a : Bool) → (a || true) ≡ true
      with-true true = refl
      with-true false = refl
  or-each p false x xs =
      any-same (λ y. p y || false) p (λ y. with-false (p y)) (x ∷ xs) ∙ sym (with-false (list_any p (x ∷ xs))) where
        with-false : (a : Bool) → (a || false) ≡ a
        with-false true = refl
        with-false false = refl

  module _ (group : Group) (there : group_in d declared ≡ Some group) where
    pub tells : differences d declared ≡ told group d
    tells =
        let some = of_some namesakes group there in
        let step : differences d declared ≡ told (summary some.0 (some.0 ∷ some.1)) d = λ i. record {
          types = one-differs takes_same takes-likeness some.0 some.1 some.2 i;
          result = one-differs gives_same gives-likeness some.0 some.1 some.2 i;
        } in
        step ∙ ap (λ g. told g d) (sym some.3)

    pub tells_before : AreInOrder declared → differences_before d declared ≡ told_before group d
    tells_before up =
        let some = of_some namesakes group there in
        by some.0 some.1 some.2 (comes_before some.0) refl ∙ ap (λ g. told_before g d) (sym some.3) where
          by : (first : Declaration) (rest : List Declaration) → namesakes ≡ first ∷ rest → (early : Bool) → comes_before first ≡ early
              → differences_before d declared ≡ told_before (summary first (first ∷ rest)) d
          by first rest is true early =
              let step : differences_before d declared ≡ told_early (summary first (first ∷ rest)) d = λ i. record {
                types = one-differs_before takes_same takes-likeness up first rest is early i;
                result = one-differs_before gives_same gives-likeness up first rest is early i;
              } in
              step ∙ ap (λ b. if b then told_early (summary first (first ∷ rest)) d else alike) (sym early)
          by first rest is false late =
              let step : differences_before d declared ≡ alike = λ i. record {
                types = none-differs_before takes_same takes-likeness up first rest is late i;
                result = none-differs_before gives_same gives-likeness up first rest is late i;
              } in
              step ∙ ap (λ b. if b then told_early (summary first (first ∷ rest)) d else alike) (sym late)

    pub hides : hides_static d declared ≡ (group.has_static || d.is_static)
    hides =
        let some = of_some namesakes group there in
        any-filtered is_namesake (λ n. n.is_static || d.is_static) declared
        ∙ ap (list_any (λ (n : Declaration). n.is_static || d.is_static)) some.2
        ∙ or-each (λ n. n.is_static) d.is_static some.0 some.1
        ∙ ap (λ (g : Group). g.has_static || d.is_static) (sym some.3)

  module _ (nowhere : group_in d declared ≡ None) where
    none : namesakes ≡ []
    none = of_none namesakes nowhere

    pub tells_none : differences d declared ≡ alike
    tells_none = λ i. record {
      types = none-differs takes_same takes-likeness none i;
      result = none-differs gives_same gives-likeness none i;
    }

    pub tells_none_before : AreInOrder declared → differences_before d declared ≡ alike
    tells_none_before up = λ i. record {
      types = none_before takes_same takes-likeness up none i;
      result = none_before gives_same gives-likeness up none i;
    }

    pub hides_none : hides_static d declared ≡ false
    hides_none = any-filtered is_namesake (λ n. n.is_static || d.is_static) declared
        ∙ ap (list_any (λ (n : Declaration). n.is_static || d.is_static)) none

-- ---- one more

found-more : (p : Declaration → Bool) (xs : List Declaration) (x : Declaration)
    → option_map (λ d. d.place) (find p (xs ++ x ∷ []))
    ≡ option_or (option_map (λ d. d.place) (find p xs)) (if p x then Some x.place else None)
found-more p [] x = by (p x) where
  by : (b : Bool) → option_map (λ (d : Declaration). d.place) (cond b (Some x) None) ≡ (if b then Some x.place else None)
  by true = refl
  by false = refl
found-more p (y ∷ ys) x = by (p y) (found-more p ys x) where
  by : (b : Bool) → option_map (λ d. d.place) (find p (ys ++ x ∷ []))
      ≡ option_or (option_map (λ d. d.place) (find p ys)) (if p x then Some x.place else None)
      → option_map (λ d. d.place) (cond b (Some y) (find p (ys ++ x ∷ [])))
      ≡ option_or (option_map (λ d. d.place) (cond b (Some y) (find p ys))) (if p x then Some x.place else None)
  by true more = refl
  by false more = more

any-more : (p : Declaration → Bool) (xs : List Declaration) (x : Declaration) → list_any p (xs ++ x ∷ []) ≡ (list_any p xs || p x)
any-more p [] x = by (p x) where
  by : (b : Bool) → (b || false) ≡ b
  by true = refl
  by false = refl
any-more p (y ∷ ys) x = by (p y) (any-more p ys x) where
  by : (b : Bool) → list_any p (ys ++ x ∷ []) ≡ (list_any p ys || p x) → (b || list_any p (ys ++ x ∷ [])) ≡ ((b || list_any p ys) || p x)
  by true more = refl
  by false more = more

filter-more : (p : Declaration → Bool) (xs : List Declaration) (x : Declaration)
    → filter p (xs ++ x ∷ []) ≡ filter p xs ++ (if p x then x ∷ [] else [])
filter-more p [] x = refl
filter-more p (y ∷ ys) x = by (p y) (filter-more p ys x) where
  by : (b : Bool) → filter p (ys ++ x ∷ []) ≡ filter p ys ++ (if p x then x ∷ [] else [])
      → cond b (y ∷ filter p (ys ++ x ∷ [])) (filter p (ys ++ x ∷ []))
      ≡ cond b (y ∷ filter p ys) (filter p ys) ++ (if p x then x ∷ [] else [])
  by true more = ap (λ zs. y ∷ zs) more
  by false more = more

group-more : (ns : List Declaration) (x : Declaration) → group_of (ns ++ x ∷ []) ≡ Some (grown (group_of ns) x)
group-more [] x = refl
group-more (first ∷ rest) x = λ i. Some (record {
  first = first;
  other_types = found-more (λ n. not (takes_same first n)) (first ∷ rest) x i;
  other_result = found-more (λ n. not (gives_same first n)) (first ∷ rest) x i;
  has_static = any-more (λ n. n.is_static) (first ∷ rest) x i;
})

-- namesakes have the same namesakes
module _ (x d : Declaration) (alike : are_namesakes x d ≡ true) where
  count-same : length x.params.now ≡ length d.params.now
  count-same = eqb-true (length x.params.now) (length d.params.now) (both (eqb (length x.params.now) (length d.params.now)) alike) where
    both : (a : Bool) → (a && bytes_eq x.name.now d.name.now) ≡ true → a ≡ true
    both true is = refl
    both false is = absurd (true≢false (sym is))

  name-same : x.name.now ≡ d.name.now
  name-same = (bytes_eq-Decides x.name.now d.name.now).0 (both (eqb (length x.params.now) (length d.params.now)) alike) where
    both : (a : Bool) → (a && bytes_eq x.name.now d.name.now) ≡ true → bytes_eq x.name.now d.name.now ≡ true
    both true is = is
    both false is = absurd (true≢false (sym is))

  same-namesakes : (n : Declaration) → are_namesakes n x ≡ are_namesakes n d
  same-namesakes n = λ i. length n.params.now == count-same i && bytes_eq n.name.now (name-same i)

  same-group : (declared : List Declaration) → group_in x declared ≡ group_in d declared
  same-group declared = ap group_of (filter-same declared) where
    filter-same : (ys : List Declaration) → filter (λ n. are_namesakes n x) ys ≡ filter (λ n. are_namesakes n d) ys
    filter-same [] = refl
    filter-same (y ∷ ys) = λ i. cond (same-namesakes y i) (y ∷ filter-same ys i) (filter-same ys i)

-- what is found of a declaration once one more is counted
pub group_in-more : (x d : Declaration) (declared : List Declaration)
    → cond (are_namesakes x d) (Some (grown (group_in x declared) x)) (group_in d declared) ≡ group_in d (declared ++ x ∷ [])
group_in-more x d declared =
    by (are_namesakes x d) refl ∙ sym (ap group_of (filter-more (λ n. are_namesakes n d) declared x)) where
      ns : List Declaration
      ns = filter (λ n. are_namesakes n d) declared

      by : (b : Bool) → are_namesakes x d ≡ b
          → cond b (Some (grown (group_in x declared) x)) (group_in d declared) ≡ group_of (ns ++ (if b then x ∷ [] else []))
      by true alike = ap (λ o. Some (grown o x)) (same-group x d alike declared) ∙ sym (group-more ns x)
      by false apart = ap group_of (sym (append-nil ns))

tied-numbers : (a b : ℕ) → is_eq (nat_cmp a b) ≡ (a == b)
tied-numbers a b = same_from_decides (is_eq (nat_cmp a b)) (a == b) (same_key nat_cmp-IsKeyOrder a b) (eqb-true a b, eq-eqb a b)

-- how keys tie
pub tied-keys : (x d : Declaration)
    → is_eq (ordering_then (nat_cmp (length x.params.now) (length d.params.now)) (slice_cmp nat_cmp x.name.now d.name.now))
    ≡ are_namesakes x d
tied-keys x d = eq-then (nat_cmp (length x.params.now) (length d.params.now)) (slice_cmp nat_cmp x.name.now d.name.now)
    ∙ (λ i. tied-numbers (length x.params.now) (length d.params.now) i && tied-bytes x.name.now d.name.now i)
