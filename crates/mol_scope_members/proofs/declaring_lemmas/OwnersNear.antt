-- Which class that declares a member is met next going up from a class.
use Rattle.std.proofs.Common.{◌≡◌, ◌⊎◌, inl, inr, ℕ, ◌+◌, ◌-◌, ◌<◌, ◌≤◌, true, false, List, map, length, take, get_or, Option, Some, Contains, slice_get, refl, sym, ◌∙◌, ap, arith, true≢false, nat_cmp, Ordering, Less, Equal, Greater}
use Rattle.std.specs.Cmp.{nat_cmp_is}
use Rattle.std.specs.List.Sorted.{IsPartitionPoint}
use Rattle.std.specs.Ordering.{is_le, is_lt, ordering_then}
use Rattle.std.proofs.lemmas.Cmp.{tied_itself}
use Rattle.std.proofs.lemmas.List.{get_or-take, length-take}
use Rattle.std.proofs.lemmas.List.Sorted.{ranks_by, sorted_far}
use Rattle.std.proofs.lemmas.Map.Keys.{ge_from_not_lt, le_from_is_le}
use Rattle.std.proofs.lemmas.Option.{slice_get-get_or}
use Rattle.jav_names.proofs.index_lemmas.Searched.{below-or_from, get-within}
use Rattle.mol_base.specs.declared.ident.Id.{Id}
use Rattle.mol_scope_classes.proofs.hierarchy_lemmas.PathsClimbed.{climbed-at, climbs, top-at}
use Rattle.mol_scope_classes.specs.hierarchy.Paths.{ArePaths, place_on, position_in}
use Rattle.mol_scope_classes.specs.declared.hierarchy.position.Position.{Position}
use Rattle.mol_resolve_rules.proofs.Stands.{from_map}
use Rattle.mol_table_rules.proofs.Counts.{some-same}
use Rattle.mol_table_rules.specs.Heights.{climb}
use Rattle.mol_table_rules.specs.Program.{Program}
use Rattle.mol_scope_members.specs.declaring.Owners.{ArePlaced, IsNearest, Row, path_cmp, path_of, place_cmp, placed_row}
use Rattle.mol_scope_members.specs.declared.declaring.owner.PlacedOwner.{PlacedOwner}
use Rattle.mol_scope_members.proofs.declaring_lemmas.OwnersPlaced.{path-same, path_cmp-total, place_cmp-total}

-- ---- the last that comes no later than a place

path-tied : (x y : PlacedOwner) → path_of x ≡ path_of y → path_cmp (path_of x) (path_of y) ≡ Equal
path-tied x y same = ap (path_cmp (path_of x)) (sym same) ∙ tied_itself path_cmp-total (path_of x)

number-le : (m n : ℕ) → m ≤ n → is_le (nat_cmp m n) ≡ true
number-le m n low = by (below-or_from m n) where
  by : (m < n) ⊎ (n ≤ m) → is_le (nat_cmp m n) ≡ true
  by (inl less) = ap is_le (sym (nat_cmp_is m n Less less))
  by (inr from) = ap is_le (sym (nat_cmp_is m n Equal (omega (arith, low, from))))

-- on one path the further one comes later
le-on_path : (x y : PlacedOwner) → path_of x ≡ path_of y → x.position.depth ≤ y.position.depth → is_le (place_cmp x y) ≡ true
le-on_path x y same low =
    ap (λ o. is_le (ordering_then o (nat_cmp x.position.depth y.position.depth))) (path-tied x y same)
    ∙ number-le x.position.depth y.position.depth low

depths-le : (x y : PlacedOwner) → path_of x ≡ path_of y → is_le (place_cmp x y) ≡ true → x.position.depth ≤ y.position.depth
depths-le x y same low = le_from_is_le x.position.depth y.position.depth
    (sym (ap (λ o. is_le (ordering_then o (nat_cmp x.position.depth y.position.depth))) (path-tied x y same)) ∙ low)

-- what comes between two of one path is of this path
between : (a b c : Ordering) → is_le (ordering_then a b) ≡ true → is_lt (ordering_then a c) ≡ false → (a ≡ Equal) × (is_lt c ≡ false)
between Less b c low fails = absurd (true≢false fails)
between Equal b c low fails = (refl, fails)
between Greater b c low fails = absurd (true≢false (sym low))

module _ (positions : List (Id × Position)) (owners : List PlacedOwner) (are : ArePlaced positions owners) (class : Id)
    (sought : PlacedOwner) (stands : sought.position ≡ position_in positions class) (count : ℕ) (within : count ≤ length owners)
    (point : IsPartitionPoint (λ owner. is_le (place_cmp owner sought) ≡ true) (λ owner. is_le (place_cmp owner sought) ≡ false)
    owners count) where
  abbrev last_found : Option PlacedOwner
  last_found = slice_get (take count owners) (length (take count owners) - 1)

  -- The last of those up to a place has the path and the place of another one that has this path, or a later place.
  record IsLastBy (owner last : PlacedOwner) : Type 0 where
    found : last_found ≡ Some last
    path : path_of last ≡ path_of sought
    later : owner.position.depth ≤ last.position.depth

  last-by : (owner : PlacedOwner) → Contains owners owner → path_of owner ≡ path_of sought
      → owner.position.depth ≤ sought.position.depth → (last : PlacedOwner) × IsLastBy owner last
  last-by owner there same low = (
    last,
    record {
      found = slice_get-get_or (take count owners) (length (take count owners) - 1) owner (omega (arith, long, early))
          ∙ ap (λ (o : PlacedOwner). Some o) (ap (λ n. get_or (take count owners) n owner) back
          ∙ get_or-take count owners (count - 1) owner (omega (arith, early)));
      path = path-same (path_of last) (path_of sought) ends.0;
      later = ge_from_not_lt last.position.depth owner.position.depth ends.1;
    },
  ) where
    place : ℕ
    place = there.0

    at : get_or owners place owner ≡ owner
    at = there.2

    early : place < count
    early = by (below-or_from place count) where
      by : (place < count) ⊎ (count ≤ place) → place < count
      by (inl less) = less
      by (inr from) = absurd (true≢false (sym (ap (λ o. is_le (place_cmp o sought)) at ∙ le-on_path owner sought same low)
          ∙ point.1 place owner from there.1))

    last : PlacedOwner
    last = get_or owners (count - 1) owner

    long : length (take count owners) ≡ count
    long = omega (arith, within, length-take count owners)

    back : length (take count owners) - 1 ≡ count - 1
    back = ap (λ n. n - 1) long

    below : is_le (place_cmp last sought) ≡ true
    below = point.0 (count - 1) owner (omega arith) (omega (arith, early))

    above : is_lt (place_cmp last owner) ≡ false
    above = ap (λ o. is_lt (place_cmp last o)) (sym at)
        ∙ sorted_far (λ x y. is_lt (place_cmp x y)) (ranks_by place_cmp-total (λ (o : PlacedOwner). o)) owners are.sorted place (count - 1)
        owner (omega (arith, early)) (omega (arith, early, within))

    ends : (path_cmp (path_of last) (path_of sought) ≡ Equal) × (is_lt (nat_cmp last.position.depth owner.position.depth) ≡ false)
    ends = between (path_cmp (path_of last) (path_of sought)) (nat_cmp last.position.depth sought.position.depth)
        (nat_cmp last.position.depth owner.position.depth) below
        (ap (λ p. is_lt (ordering_then (path_cmp (path_of last) p) (nat_cmp last.position.depth owner.position.depth))) (sym same) ∙ above)

  found-at : (found : PlacedOwner) → last_found ≡ Some found → (0 < count) × (get_or owners (count - 1) found ≡ found)
  found-at found is = (
    omega (arith, inside.0, long),
    sym (get_or-take count owners (count - 1) found (omega (arith, inside.0, long)))
        ∙ ap (λ n. get_or (take count owners) (n - 1) found) (sym long) ∙ inside.1,
  ) where
    long : length (take count owners) ≡ count
    long = omega (arith, within, length-take count owners)

    inside : (length (take count owners) - 1 < length (take count owners))
        × (get_or (take count owners) (length (take count owners) - 1) found ≡ found)
    inside = get-within (take count owners) (length (take count owners) - 1) found found is

  found-stands : (found : PlacedOwner) → last_found ≡ Some found → Contains owners found
  found-stands found is =
      let at = found-at found is in
      (count - 1, omega (arith, at.0, within), at.1)

  pub found-low : (found : PlacedOwner) → last_found ≡ Some found → path_of found ≡ path_of sought
      → found.position.depth ≤ sought.position.depth
  found-low found is same =
      let at = found-at found is in
      depths-le found sought same (ap (λ (o : PlacedOwner). is_le (place_cmp o sought)) (sym at.1)
      ∙ point.0 (count - 1) found (omega arith) (omega (arith, at.0)))

  -- ---- going up from the class

  module _ (program : Program) (paths : ArePaths program positions) where
    abbrev top : Id
    top = sought.position.top

    abbrev depth : ℕ
    depth = sought.position.depth

    abbrev pub Lacks : Id → Type 0
    Lacks above = Contains (map placed_row owners) (record { arity = sought.arity; name = sought.name.now; class = above }) → ⊥

    at-class : position_in positions class ≡ place_on top depth
    at-class = sym stands

    -- one that declares a member on the path, so many steps further up
    record IsOwnerAt (steps : ℕ) (above : Id) (owner : PlacedOwner) : Type 0 where
      there : Contains owners owner
      path : path_of owner ≡ path_of sought
      place : owner.position.depth ≡ depth - steps

    owner-at : (steps : ℕ) (above : Id) → steps ≤ depth → climb program steps (Some class) ≡ Some above
        → Contains (map placed_row owners) (record { arity = sought.arity; name = sought.name.now; class = above })
        → (owner : PlacedOwner) × IsOwnerAt steps above owner
    owner-at steps above few led row =
        let asked : Row = record { arity = sought.arity; name = sought.name.now; class = above } in
        let found = from_map placed_row owners asked row in
        let owner : PlacedOwner = found.0 in
        let deep : depth ≡ (depth - steps) + steps = omega (arith, few) in
        let place : position_in positions above ≡ place_on top (depth - steps) =
        climbed-at program positions paths steps (depth - steps) class above top (at-class ∙ ap (place_on top) deep) led in
        let own : owner.position ≡ place_on top (depth - steps) =
        are.placed owner found.1 ∙ ap (λ (r : Row). position_in positions r.class) found.2 ∙ place in (
          owner,
          record {
            there = found.1;
            path = λ i. record {
              naming = record { arity = (found.2 i).arity; name = (found.2 i).name };
              top = (own i).top;
            };
            place = ap (λ (p : Position). p.depth) own;
          },
        )

    -- where the last that comes no later stands on the path
    pub nearest-found : (found : PlacedOwner) → last_found ≡ Some found → path_of found ≡ path_of sought
        → IsNearest program Lacks class (record { class = found.class; steps = depth - found.position.depth })
    nearest-found found is same = record {
      leads =
          let few = found-low found is same in
          let deep : depth ≡ found.position.depth + (depth - found.position.depth) = omega (arith, few) in
          let head : found.position.top ≡ top = ap (λ p. p.top) same in
          climbs program positions paths (depth - found.position.depth) found.position.depth class found.class top
          (at-class ∙ ap (place_on top) deep)
          (sym (are.placed found (found-stands found is)) ∙ ap (λ (id : Id). place_on id found.position.depth) head);
      lacking = λ steps above few led row.
          let owner = owner-at steps above (omega (arith, few)) led row in
          let last = last-by owner.0 owner.1.there owner.1.path (omega (arith, owner.1.place)) in
          let same_last : last.0.position.depth ≡ found.position.depth =
          ap (λ (o : PlacedOwner). o.position.depth) (some-same last.0 found (sym last.1.found ∙ is)) in
          absurd (omega (arith, few, owner.1.place, last.1.later, same_last));
    }

    -- where none does
    pub nearest-top : ((last : PlacedOwner) → last_found ≡ Some last → path_of last ≡ path_of sought → ⊥)
        → IsNearest program Lacks class (record { class = top; steps = depth })
    nearest-top none = record {
      leads =
          let same : depth ≡ 0 + depth = omega arith in
          climbs program positions paths depth 0 class top top (at-class ∙ ap (place_on top) same)
          (top-at program positions paths depth class top at-class);
      lacking = λ steps above few led row.
          let owner = owner-at steps above (omega (arith, few)) led row in
          let last = last-by owner.0 owner.1.there owner.1.path (omega (arith, owner.1.place)) in
          none last.0 last.1.found last.1.path;
    }
