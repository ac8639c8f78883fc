-- Keys in order are a set, as no class lives twice.
use Rattle.std.proofs.Common.{◌≡◌, ℕ, zero, suc, ◌+◌, ◌<◌, Bool, false, cond, List, [], ◌∷◌, map, length, get_or, refl, sym, ◌∙◌, ap, subst, arith, rules, Ordering, Less, Equal, Greater}
use Rattle.std.specs.Cmp.{IsTotalOrder, eq_by_cmp_equiv}
use Rattle.std.specs.Cmp.Lexicographic.{slice_cmp}
use Rattle.std.specs.Cmp.Rules.{comparing}
use Rattle.std.specs.FinMap.{IsAntisymmetric, entries, entries_sorted, keys, nat_cmp-IsAntisymmetric, slice_cmp-IsAntisymmetric}
use Rattle.std.specs.List.{AllByRecursion, IsDistinct, dedup}
use Rattle.std.specs.List.Sorted.{IsPermutation, IsSorted, IsSortedBy, IsStrictlySortedBy}
use Rattle.std.specs.Ordering.{eq_by_cmp, is_eq, nat_cmp, ordering_then}
use Rattle.std.proofs.lemmas.List.{length-map}
use Rattle.std.proofs.lemmas.List.Kept.{IsStrictlySortedBy-dedup, IsStrictlySortedBy-filter}
use Rattle.std.proofs.lemmas.List.Sorted.{Contains-permutation, IsPermutation-sym}
use Rattle.std.proofs.lemmas.Map.Keys.{IsDistinct-IsPermutation}
use Rattle.jav_names.specs.Views.{IsKeyOrder}
use Rattle.mol_base.specs.Order.{id_cmp, id_cmp-IsAntisymmetric}
use Rattle.mol_base.specs.declared.ident.Id.{Id}
use Rattle.mol_spell_rules.proofs.FilesOrdered.{then_both}
use Rattle.mol_spell_rules.proofs.SetItems.{keys-ascend, set-is}
use Rattle.mol_spell_rules.specs.Sets.{as_set}
use Rattle.mol_spell_rules.specs.SpelledUnits.{UnitKey as Key, key_at, living_classes, unit_key_cmp}
use Rattle.mol_table_rules.specs.Program.{Program}
use Rattle.mol_table_rules.specs.Renumber.{is_living_class}

-- ---- the order of keys

pub unit_key_cmp-total : IsTotalOrder unit_key_cmp
unit_key_cmp-total = search (comparing, rules) depth 12

same-key : IsAntisymmetric unit_key_cmp
same-key x y is =
    let parts = then_both (slice_cmp nat_cmp x.path y.path) (id_cmp x.class y.class) is in
    let path = slice_cmp-IsAntisymmetric nat_cmp-IsAntisymmetric x.path y.path parts.0 in
    let class = id_cmp-IsAntisymmetric x.class y.class parts.1 in
    λ i. record { path = path i; class = class i }

pub unit_key_cmp-IsKeyOrder : IsKeyOrder unit_key_cmp
unit_key_cmp-IsKeyOrder = record { total = unit_key_cmp-total; same = same-key }

abbrev tied : Key → Key → Bool
tied = eq_by_cmp unit_key_cmp

-- ---- distinct keys

module _ (program : Program) where
  not-tied : (a : Ordering) → is_eq (ordering_then a Less) ≡ false
  not-tied Less = refl
  not-tied Equal = refl
  not-tied Greater = refl

  differ : (x y : Id) → id_cmp x y ≡ Less → tied (key_at program x) (key_at program y) ≡ false
  differ x y less =
      let paths : Ordering = slice_cmp nat_cmp (key_at program x).path (key_at program y).path in
      ap (λ o. is_eq (ordering_then paths o)) less ∙ not-tied paths

  all-differ : (x : Id) (ids : List Id) → AllByRecursion (λ y. id_cmp x y ≡ Less) ids
      → AllByRecursion (λ key. tied (key_at program x) key ≡ false) (map (key_at program) ids)
  all-differ x [] all = tt
  all-differ x (y ∷ ids) all = (differ x y all.0, all-differ x ids all.1)

  distinct : (ids : List Id) → IsStrictlySortedBy id_cmp ids → IsDistinct tied (map (key_at program) ids)
  unfolding IsStrictlySortedBy IsDistinct
  distinct [] up = tt
  distinct (x ∷ ids) up = (all-differ x ids up.0, distinct ids up.1)

  living-ascend : IsStrictlySortedBy id_cmp (living_classes program)
  living-ascend = IsStrictlySortedBy-filter id_cmp (is_living_class program) (keys program.known)
      (keys-ascend id_cmp (entries program.known) (entries_sorted program.known))

-- ---- distinct keys in order

module _ {K : Type 0} (same : K → K → Bool) (flips : (x y : K) → same x y ≡ same y x) where
  none-dropped : (x : K) (xs : List K) → IsDistinct same (x ∷ xs) → dedup same (x ∷ xs) ≡ x ∷ xs
  unfolding IsDistinct
  none-dropped x [] apart = refl
  none-dropped x (y ∷ xs) apart =
      ap (λ b. cond b (dedup same (x ∷ xs)) (x ∷ dedup same (y ∷ xs))) (flips y x ∙ apart.0.0)
      ∙ ap (λ rest. x ∷ rest) (none-dropped y xs apart.1)

  pub all-kept : (xs : List K) → IsDistinct same xs → dedup same xs ≡ xs
  all-kept [] apart = refl
  all-kept (x ∷ xs) apart = none-dropped x xs apart

-- ---- keys of what is sorted by them

module _ {X K : Type 0} (key : X → K) (less : K → K → Bool) where
  got : (xs : List X) (k : ℕ) (d : K) (e : X) → k < length xs → get_or (map key xs) k d ≡ key (get_or xs k e)
  got [] k d e within = absurd (omega (arith, within))
  got (x ∷ xs) zero d e within = refl
  got (x ∷ xs) (suc k) d e within = got xs k d e (omega (arith, within))

  pub keys-sorted : (xs : List X) → IsSortedBy (λ x y. less (key x) (key y)) xs → IsSortedBy less (map key xs)
  keys-sorted [] up k d low within = absurd (omega (arith, within))
  keys-sorted (x ∷ xs) up k d low within =
      let inside : k + 1 < length (x ∷ xs) = omega (arith, within, length-map xs key) in
      (λ i. less (got (x ∷ xs) (k + 1) d x inside i) (got (x ∷ xs) k d x (omega (arith, inside)) i)) ∙ up k x low inside

pub keys-in-order : (program : Program) (found ordered : List Key) → found ≡ map (key_at program) (living_classes program)
    → IsPermutation found ordered → IsSorted unit_key_cmp ordered
    → ordered ≡ as_set unit_key_cmp (map (key_at program) (living_classes program))
keys-in-order program found ordered are moved up =
    let flips = (eq_by_cmp_equiv unit_key_cmp-total).symm in
    let moved : IsPermutation (map (key_at program) (living_classes program)) ordered =
    subst (λ keys. IsPermutation keys ordered) are moved
    in
    let apart = IsDistinct-IsPermutation tied flips (map (key_at program) (living_classes program)) ordered moved
    (distinct program (living_classes program) (living-ascend program))
    in
    let strictly = subst (IsStrictlySortedBy unit_key_cmp) (all-kept tied flips ordered apart)
    (IsStrictlySortedBy-dedup unit_key_cmp-total {E = tied} (λ x y. refl) ordered up)
    in
    sym (set-is unit_key_cmp unit_key_cmp-IsKeyOrder
    (map (key_at program) (living_classes program)) ordered strictly (λ key. (
      λ stands. Contains-permutation (map (key_at program) (living_classes program)) ordered key moved stands,
      λ stands. Contains-permutation ordered (map (key_at program) (living_classes program)) key
          (IsPermutation-sym (map (key_at program) (living_classes program)) ordered moved) stands,
    )))
