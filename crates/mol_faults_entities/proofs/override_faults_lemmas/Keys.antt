-- Keys of declarations are in a total order, and so is what methods are named, with the path of the class and without.
use Rattle.std.proofs.Common.{◌≡◌, ℕ, ◌≤◌, true, List, get_or, refl, sym, ◌∙◌, ap, arith, true≢false, Ordering, Less, Equal, Greater}
use Rattle.std.specs.Cmp.{IsTotalOrder}
use Rattle.std.specs.FinMap.{IsAntisymmetric, nat_cmp-IsAntisymmetric, slice_cmp-IsAntisymmetric}
use Rattle.std.specs.List.Sorted.{IsPartitionedBy, IsSortedBy}
use Rattle.std.specs.Ordering.{is_le, is_lt, nat_cmp, ordering_index, ordering_reverse, ordering_then}
use Rattle.std.proofs.lemmas.Cmp.{on_total, then_total, tied_itself, nat_cmp_total, nat_list_cmp_total}
use Rattle.std.proofs.lemmas.List.Sorted.{searchable_from_sorted}
use Rattle.std.proofs.lemmas.Map.Keys.{le_from_is_le}
use Rattle.jav_names.specs.Views.{IsKeyOrder}
use Rattle.mol_base.specs.Order.{id_cmp-total, id_cmp-IsAntisymmetric}
use Rattle.mol_faults_entities.specs.override_faults.Declarations.{Key, NamedPath, Naming, key_cmp, key_of, naming_cmp, path_cmp, path_of}
use Rattle.mol_faults_entities.specs.declared.override_faults.declaration.Declaration.{Declaration}
use Rattle.mol_faults_entities.proofs.pair_faults_lemmas.Keys.{then_both}

abbrev pub key_at : Declaration → Key
key_at row = key_of row.key

-- ---- naming

naming_cmp-total : IsTotalOrder naming_cmp
naming_cmp-total = then_total (on_total (λ (n : Naming). n.arity) nat_cmp_total) (on_total (λ (n : Naming). n.name) nat_list_cmp_total)

naming-IsAntisymmetric : IsAntisymmetric naming_cmp
naming-IsAntisymmetric x y e =
    let parts = then_both _ _ e in
    let arity = nat_cmp-IsAntisymmetric x.arity y.arity parts.0 in
    let name = slice_cmp-IsAntisymmetric nat_cmp-IsAntisymmetric x.name y.name parts.1 in
    λ i. record { arity = arity i; name = name i }

pub naming-order : IsKeyOrder naming_cmp
naming-order = record { total = naming_cmp-total; same = naming-IsAntisymmetric }

-- ---- and path

path_cmp-IsAntisymmetric : IsAntisymmetric path_cmp
path_cmp-IsAntisymmetric x y e =
    let parts = then_both _ _ e in
    let naming = naming-IsAntisymmetric x.naming y.naming parts.0 in
    let top = id_cmp-IsAntisymmetric x.top y.top parts.1 in
    λ i. record { naming = naming i; top = top i }

pub path-order : IsKeyOrder path_cmp
path-order = record {
  total = then_total (on_total (λ (p : NamedPath). p.naming) naming_cmp-total) (on_total (λ (p : NamedPath). p.top) id_cmp-total);
  same = path_cmp-IsAntisymmetric;
}

-- ---- and depth

pub key_cmp-total : IsTotalOrder key_cmp
key_cmp-total = then_total (on_total path_of path-order.total) (on_total (λ (k : Key). k.position.depth) nat_cmp_total)

le_to_is_le : (a b : ℕ) → a ≤ b → is_le (nat_cmp a b) ≡ true
le_to_is_le a b low = by (nat_cmp a b) refl where
  by : (o : Ordering) → nat_cmp a b ≡ o → is_le (nat_cmp a b) ≡ true
  by Less is = ap is_le is
  by Equal is = ap is_le is
  by Greater is =
      let less : nat_cmp b a ≡ Less = nat_cmp_total.antisymm b a ∙ ap ordering_reverse is in
      let same : a ≡ b = omega (arith, low, le_from_is_le b a (ap is_le less)) in
      ap is_le (ap (nat_cmp a) (sym same) ∙ tied_itself nat_cmp_total a)

-- on one path the depth tells
tells : (x y : Key) → path_of x ≡ path_of y → key_cmp x y ≡ nat_cmp x.position.depth y.position.depth
tells x y same = ap (λ o. ordering_then o (nat_cmp x.position.depth y.position.depth))
    (ap (path_cmp (path_of x)) (sym same) ∙ tied_itself path-order.total (path_of x))

pub no_lower : (x y : Key) → path_of x ≡ path_of y → is_le (key_cmp x y) ≡ true → x.position.depth ≤ y.position.depth
no_lower x y same is = le_from_is_le x.position.depth y.position.depth (ap is_le (sym (tells x y same)) ∙ is)

pub no_greater : (x y : Key) → path_of x ≡ path_of y → x.position.depth ≤ y.position.depth → is_le (key_cmp x y) ≡ true
no_greater x y same low = ap is_le (tells x y same) ∙ le_to_is_le x.position.depth y.position.depth low

-- ---- those that are no greater than a key stand first

index-low : (o : Ordering) → is_le o ≡ true → ordering_index o ≤ 1
index-low Less is = omega arith
index-low Equal is = omega arith
index-low Greater is = absurd (true≢false (sym is))

low-index : (o : Ordering) → ordering_index o ≤ 1 → is_le o ≡ true
low-index Less low = refl
low-index Equal low = refl
low-index Greater low = absurd (omega (arith, low))

pub parted-below : (k : Key) (rows : List Declaration) → IsSortedBy (λ x y. is_lt (key_cmp (key_at x) (key_at y))) rows
    → IsPartitionedBy (λ r. is_le (key_cmp (key_at r) k)) rows
parted-below k rows up i j d from within is =
    let rises = searchable_from_sorted key_cmp-total key_at rows k up i j d from within in
    low-index (key_cmp (key_at (get_or rows i d)) k) (omega (arith, rises, index-low (key_cmp (key_at (get_or rows j d)) k) is))
