-- Classes that declare members are in a total order, and are searched in it.
use Rattle.std.proofs.Common.{◌≡◌, ◌+◌, ◌≤◌, true, false, List, map, Contains, refl, sym, ◌∙◌, ap, subst, arith, true≢false, get_or, Ordering, Less, Equal, Greater}
use Rattle.std.specs.Cmp.{IsTotalOrder}
use Rattle.std.specs.FinMap.{IsAntisymmetric, nat_cmp-IsAntisymmetric, slice_cmp-IsAntisymmetric}
use Rattle.std.specs.List.Sorted.{IsPartitionedBy, IsPermutation, IsSorted, IsSortedBy}
use Rattle.std.specs.Ordering.{is_le, is_lt, ordering_index, ordering_then}
use Rattle.std.proofs.lemmas.Cmp.{on_total, then_total, nat_cmp_total, nat_list_cmp_total}
use Rattle.std.proofs.lemmas.List.Sorted.{Contains-permutation, IsPermutation-sym, searchable_from_sorted}
use Rattle.jav_names.proofs.Lists.{stands-mapped}
use Rattle.mol_base.specs.Order.{id_cmp, id_cmp-total, id_cmp-IsAntisymmetric}
use Rattle.mol_base.specs.declared.ident.Id.{Id}
use Rattle.mol_scope_classes.specs.hierarchy.Paths.{position_in}
use Rattle.mol_scope_classes.specs.declared.hierarchy.position.Position.{Position}
use Rattle.mol_resolve_rules.proofs.Stands.{from_map}
use Rattle.mol_scope_members.specs.declaring.Owners.{AreOwners, Naming, Path, Row, naming_cmp, naming_of, path_cmp, path_of, place_cmp, placed_row, row_of, with_position}
use Rattle.mol_scope_members.specs.declared.declaring.owner.Owner.{Owner}
use Rattle.mol_scope_members.specs.declared.declaring.owner.PlacedOwner.{PlacedOwner}

-- ---- the order

pub naming_cmp-total : IsTotalOrder naming_cmp
naming_cmp-total = then_total (on_total (λ (n : Naming). n.arity) nat_cmp_total) (on_total (λ (n : Naming). n.name) nat_list_cmp_total)

pub path_cmp-total : IsTotalOrder path_cmp
path_cmp-total = then_total (on_total (λ (p : Path). p.naming) naming_cmp-total) (on_total (λ (p : Path). p.top) id_cmp-total)

pub place_cmp-total : IsTotalOrder place_cmp
place_cmp-total = then_total (on_total path_of path_cmp-total) (on_total (λ (o : PlacedOwner). o.position.depth) nat_cmp_total)

then_both : (a b : Ordering) → ordering_then a b ≡ Equal → (a ≡ Equal) × (b ≡ Equal)
then_both Less b e = absurd cc
then_both Equal b e = (refl, e)
then_both Greater b e = absurd cc

pub naming-same : IsAntisymmetric naming_cmp
naming-same x y e =
    let parts = then_both _ _ e in
    let arity = nat_cmp-IsAntisymmetric x.arity y.arity parts.0 in
    let name = slice_cmp-IsAntisymmetric nat_cmp-IsAntisymmetric x.name y.name parts.1 in
    λ i. record { arity = arity i; name = name i }

pub path-same : IsAntisymmetric path_cmp
path-same x y e =
    let parts = then_both _ _ e in
    let naming = naming-same x.naming y.naming parts.0 in
    let top = id_cmp-IsAntisymmetric x.top y.top parts.1 in
    λ i. record { naming = naming i; top = top i }

-- ---- what a search asks

le-index : (o : Ordering) → is_le o ≡ true → ordering_index o ≤ 1
le-index Less is = omega arith
le-index Equal is = omega arith
le-index Greater is = absurd (true≢false (sym is))

index-le : (o : Ordering) → ordering_index o ≤ 1 → is_le o ≡ true
index-le Less low = refl
index-le Equal low = refl
index-le Greater low = absurd (omega (arith, low))

-- with their positions and sorted they are the same
pub owners-made : (positions : List (Id × Position)) (owners : List Owner) (placed sorted : List PlacedOwner)
    → placed ≡ map (with_position positions) owners → IsPermutation placed sorted → IsSorted place_cmp sorted
    → AreOwners positions (map row_of owners) sorted
owners-made positions owners placed sorted made permuted up = record {
  placed = record {
    sorted = up;
    placed = λ owner stands.
        let found = from-owner owner stands in
        sym (ap (λ (o : PlacedOwner). o.position) found.2) ∙ ap (λ (o : PlacedOwner). position_in positions o.class) found.2;
  };
  each = λ row. (there row, back row);
} where
  from-owner : (owner : PlacedOwner) → Contains sorted owner
      → (o : Owner) × Contains owners o × (with_position positions o ≡ owner)
  from-owner owner stands = from_map (with_position positions) owners owner (subst (λ (os : List PlacedOwner). Contains os owner) made
      (Contains-permutation sorted placed owner (IsPermutation-sym placed sorted permuted) stands))

  there : (row : Row) → Contains (map row_of owners) row → Contains (map placed_row sorted) row
  there row stands =
      let found = from_map row_of owners row stands in
      let owner : PlacedOwner = with_position positions found.0 in
      let among : Contains placed owner = subst (λ (os : List PlacedOwner). Contains os owner) (sym made)
      (stands-mapped (with_position positions) owners found.0 found.1) in
      subst (Contains (map placed_row sorted)) found.2
      (stands-mapped placed_row sorted owner (Contains-permutation placed sorted owner permuted among))

  back : (row : Row) → Contains (map placed_row sorted) row → Contains (map row_of owners) row
  back row stands =
      let found = from_map placed_row sorted row stands in
      let own = from-owner found.0 found.1 in
      subst (Contains (map row_of owners)) (ap placed_row own.2 ∙ found.2) (stands-mapped row_of owners own.0 own.1)

-- those up to a place stand first
pub parted-up-to : (owners : List PlacedOwner) (sought : PlacedOwner) → IsSorted place_cmp owners
    → IsPartitionedBy (λ owner. is_le (place_cmp owner sought)) owners
parted-up-to owners sought up i j d from within low =
    let rises = searchable_from_sorted place_cmp-total (λ (o : PlacedOwner). o) owners sought up i j d from within in
    index-le (place_cmp (get_or owners i d) sought) (omega (arith, rises, le-index (place_cmp (get_or owners j d) sought) low))

less-first : (a b : Ordering) → is_lt (ordering_then a b) ≡ false → is_lt a ≡ false
less-first Less b is = is
less-first Equal b is = refl
less-first Greater b is = refl

-- they are sorted by their namings
pub by-naming : (owners : List PlacedOwner) → IsSorted place_cmp owners
    → IsSortedBy (λ x y. is_lt (naming_cmp (naming_of x) (naming_of y))) owners
by-naming owners up k d low within =
    let next : PlacedOwner = get_or owners (k + 1) d in
    let owner : PlacedOwner = get_or owners k d in
    less-first (naming_cmp (naming_of next) (naming_of owner)) (id_cmp next.position.top owner.position.top)
    (less-first (path_cmp (path_of next) (path_of owner)) _ (up k d low within))
