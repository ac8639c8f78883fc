-- Whether methods that are named alike are one.
use Rattle.std.proofs.Common.{◌≡◌, ◌≢◌, ◌⊎◌, inl, inr, ℕ, zero, suc, ◌+◌, ◌-◌, ◌<◌, ◌≤◌, Bool, true, false, not, cond, List, [], ◌∷◌, length, length-drop, get_or, get_or-drop, take, drop, filter, take_while, Option, Some, None, Contains, slice_get, refl, sym, ◌∙◌, ap, arith, true≢false, IsPermutation, Ordering, Less, Equal, Greater}
use Rattle.std.specs.Cmp.{IsTotalOrder, IsStrictWeakOrder}
use Rattle.std.specs.List.Sorted.{IsPartitionPoint, IsPartitionedBy, IsSorted, IsSortedBy}
use Rattle.std.specs.Ordering.{is_eq, is_lt, ordering_reverse, ordering_then}
use Rattle.std.specs.Prelude.{◌↔◌, IsFalse}
use Rattle.std.proofs.lemmas.Cmp.{on_total, then_total, tied_itself}
use Rattle.std.proofs.lemmas.List.Kept.{IsSortedBy-filter}
use Rattle.std.proofs.lemmas.List.Sorted.{Contains-permutation, ranks_by, sorted_far}
use Rattle.std.proofs.lemmas.List.Sums.{take_while-cons}
use Rattle.jav_names.proofs.index_lemmas.Searched.{equal-is, get-within}
use Rattle.jav_names.proofs.Lists.{neither_less}
use Rattle.jav_names.specs.Views.{IsKeyOrder}
use Rattle.mol_base.specs.Order.{id_cmp, id_cmp-total, id_cmp-IsAntisymmetric}
use Rattle.mol_base.specs.declared.ident.Id.{Id}
use Rattle.mol_faults_entities.specs.override_faults.Declarations.{Naming, naming_cmp}
use Rattle.mol_faults_entities.specs.override_faults.Overridden.{Adds, AreOfOneMethod, IsOver, has_naming, methods_cmp, methods_differ, naming_at}
use Rattle.mol_faults_entities.specs.declared.override_faults.declaration.Declaration.{Declaration}
use Rattle.mol_faults_entities.proofs.override_faults_lemmas.Filtered.{filter-from}
use Rattle.mol_faults_entities.proofs.override_faults_lemmas.Keys.{naming-order}
use Rattle.mol_faults_entities.proofs.override_faults_lemmas.PairsAbove.{eq-is, eq-own, methods-apart}
use Rattle.mol_faults_entities.specs.declared.pair_faults.pair.Pair.{Pair}
use Rattle.mol_faults_entities.proofs.pair_faults_lemmas.Fronts.{ascend, between}
use Rattle.mol_resolve_rules.proofs.Stands.{get-below, in_place}
use Rattle.mol_spell_rules.proofs.FilesOrdered.{filter-passes, filter-stands}
use Rattle.mol_table_rules.specs.Program.{Program}
use Rattle.mol_values_types.specs.Order.{id_eq}

pub methods_cmp-total : IsTotalOrder methods_cmp
methods_cmp-total = then_total (on_total naming_at naming-order.total) (on_total (λ (d : Declaration). d.method) id_cmp-total)

id-order : IsKeyOrder id_cmp
id-order = record { total = id_cmp-total; same = id_cmp-IsAntisymmetric }

-- ---- where a method has no rival

pub one-method : (rows moved : List Declaration) → IsPermutation rows moved → (naming : Naming) → AreOfOneMethod moved naming
    → AreOfOneMethod rows naming
one-method rows moved same naming alone first second of-first of-second =
    alone first second (Contains-permutation rows moved first same of-first) (Contains-permutation rows moved second same of-second)

named : (naming : Naming) (row : Declaration) → naming ≡ naming_at row → has_naming naming row ≡ true
named naming row same = ap is_eq (ap (naming_cmp naming) (sym same) ∙ tied_itself naming-order.total naming)

pub none-over : (program : Program) (rows : List Declaration) (row : Declaration) → Contains rows row
    → AreOfOneMethod rows (naming_at row) → (pair : Pair) → IsOver program rows row pair → ⊥
none-over program rows row stands alone pair over = methods-apart row over.above pair over.made
    (alone row over.above stands over.stands (named (naming_at row) row refl) (named (naming_at row) over.above over.alike))

pub nothing-added : (program : Program) (rows : List Declaration) (row : Declaration) (pairs : List Pair)
    → ((pair : Pair) → IsOver program rows row pair → ⊥) → Adds (IsOver program rows row) pairs pairs
nothing-added program rows row pairs none pair = (λ stands. inl stands, by) where
  by : Contains pairs pair ⊎ IsOver program rows row pair → Contains pairs pair
  by (inl stands) = stands
  by (inr over) = absurd (none pair over)

-- ---- those that are named so

pub less-first : (a b : Ordering) → is_lt (ordering_then a b) ≡ false → is_lt a ≡ false
less-first Less b is = is
less-first Equal b is = refl
less-first Greater b is = refl

pub by_naming : (rows : List Declaration) → IsSorted methods_cmp rows
    → IsSortedBy (λ x y. is_lt (naming_cmp (naming_at x) (naming_at y))) rows
by_naming rows up k d low within =
    less-first (naming_cmp (naming_at (get_or rows (k + 1) d)) (naming_at (get_or rows k d)))
    (id_cmp (get_or rows (k + 1) d).method (get_or rows k d).method) (up k d low within)

taken : {X : Type 0} (p : X → Bool) (xs : List X) (n : ℕ) → ((j : ℕ) (d : X) → j < n → j < length xs → p (get_or xs j d) ≡ true)
    → ((j : ℕ) (d : X) → n ≤ j → j < length xs → p (get_or xs j d) ≡ false) → take_while p xs ≡ take n xs
taken p [] zero before after = refl
taken p [] (suc n) before after = refl
taken p (x ∷ xs) zero before after =
    take_while-cons p x xs ∙ ap (λ b. cond b (x ∷ take_while p xs) []) (after 0 x (omega arith) (omega arith))
taken p (x ∷ xs) (suc n) before after =
    take_while-cons p x xs ∙ ap (λ b. cond b (x ∷ take_while p xs) []) (before 0 x (omega arith) (omega arith))
    ∙ ap (λ ys. x ∷ ys) (taken p xs n
    (λ j d early within. before (suc j) d (omega (arith, early)) (omega (arith, within)))
    (λ j d late within. after (suc j) d (omega (arith, late)) (omega (arith, within))))

turned-eq : (a b : Naming) → is_eq (naming_cmp a b) ≡ is_eq (naming_cmp b a)
turned-eq a b = ap is_eq (naming-order.total.antisymm a b) ∙ by (naming_cmp b a) where
  by : (o : Ordering) → is_eq (ordering_reverse o) ≡ is_eq o
  by Less = refl
  by Equal = refl
  by Greater = refl

module _ (rows : List Declaration) (up : IsSorted methods_cmp rows) (k : Naming) (start : ℕ)
    (first : IsPartitionPoint (λ r. is_lt (naming_cmp (naming_at r) k) ≡ true) (λ r. is_lt (naming_cmp (naming_at r) k) ≡ false) rows start)
    (later : List Declaration) (is : later ≡ drop start rows) where
  abbrev pub ties : Declaration → Bool
  ties r = is_eq (naming_cmp (naming_at r) k)

  inside : (j : ℕ) → j < length later → start + j < length rows
  inside j within =
      let long = ap (λ (ds : List Declaration). length ds) is in
      omega (arith, within, long, length-drop start rows)

  at : (j : ℕ) (d : Declaration) → get_or later j d ≡ get_or rows (start + j) d
  at j d = ap (λ (ds : List Declaration). get_or ds j d) is ∙ get_or-drop start rows j d

  pub ties-first : IsPartitionedBy ties later
  ties-first i j d from within tie =
      let far = sorted_far (λ x y. is_lt (naming_cmp (naming_at x) (naming_at y))) (ranks_by naming-order.total naming_at) rows
      (by_naming rows up) (start + i) (start + j) d (omega (arith, from)) (inside j within) in
      let same : naming_at (get_or rows (start + j) d) ≡ k = naming-order.same (naming_at (get_or rows (start + j) d)) k
      (equal-is (naming_cmp (naming_at (get_or rows (start + j) d)) k) (sym (ap ties (at j d)) ∙ tie)) in
      let here : k ≡ naming_at (get_or rows (start + i) d) =
      between naming_cmp naming_at naming-order k (get_or rows (start + i) d) (get_or rows (start + j) d)
      (first.1 (start + i) d (omega arith) (omega (arith, from, inside j within))) far (sym same) in
      ap ties (at i d) ∙ turned-eq (naming_at (get_or rows (start + i) d)) k ∙ named k (get_or rows (start + i) d) here

  pub group-is : (count : ℕ) → IsPartitionPoint (λ r. ties r ≡ true) (λ r. ties r ≡ false) later count
      → take count later ≡ filter (has_naming k) rows
  group-is count point = sym (
      filter-from naming_cmp naming_at naming-order k rows (ascend naming_cmp naming_at naming-order rows (by_naming rows up)) start
      (λ j d early within. first.0 j d (omega arith) early) (λ j d late within. first.1 j d late within)
      ∙ ap (take_while (has_naming k)) (sym is)
      ∙ taken (has_naming k) later count
      (λ j d early within. turned-eq k (naming_at (get_or later j d)) ∙ point.0 j d (omega arith) early)
      (λ j d late within. turned-eq k (naming_at (get_or later j d)) ∙ point.1 j d late within)
      )

-- ---- the first and the last of them tell of all

module _ (rows : List Declaration) (up : IsSorted methods_cmp rows) (k : Naming) where
  abbrev group : List Declaration
  group = filter (has_naming k) rows

  abbrev lesser : Declaration → Declaration → Bool
  lesser x y = is_lt (methods_cmp x y)

  weak : IsStrictWeakOrder lesser
  weak = ranks_by methods_cmp-total (λ (d : Declaration). d)

  group-up : IsSortedBy lesser group
  group-up = IsSortedBy-filter lesser weak (has_naming k) rows up

  naming-is : (row : Declaration) → Contains group row → k ≡ naming_at row
  naming-is row stands = naming-order.same k (naming_at row)
      (equal-is (naming_cmp k (naming_at row)) (filter-passes (has_naming k) rows row stands).1)

  -- among them the order is that of methods
  not-before : (x y : Declaration) → Contains group x → Contains group y → lesser x y ≡ false → id_cmp x.method y.method ≢ Less
  not-before x y of-x of-y fails less = true≢false (sym (ap is_lt (λ i. ordering_then (tie i) (less i))) ∙ fails) where
    tie : naming_cmp (naming_at x) (naming_at y) ≡ Equal
    tie = ap (naming_cmp (naming_at x)) (sym (naming-is y of-y) ∙ naming-is x of-x) ∙ tied_itself naming-order.total (naming_at x)

  -- where the first and the last are of one method all are
  of-first : (f l : Declaration) → slice_get group 0 ≡ Some f → slice_get group (length group - 1) ≡ Some l → f.method ≡ l.method
      → (a : Declaration) → Contains group a → a.method ≡ f.method
  of-first f l at-f at-l same a of-a =
      neither_less id_cmp (λ (id : Id). id) id-order a.method f.method
      (not-before a f of-a (in_place group 0 f at-f)
      ((λ i. lesser (sym of-a.2 i) (sym (get-within group 0 f a at-f).1 i))
      ∙ sorted_far lesser weak group group-up 0 of-a.0 a (omega arith) of-a.1))
      (λ less. not-before l a (in_place group (length group - 1) l at-l) of-a
      ((λ i. lesser (sym (get-within group (length group - 1) l a at-l).1 i) (sym of-a.2 i))
      ∙ sorted_far lesser weak group group-up of-a.0 (length group - 1) a (omega (arith, of-a.1)) (omega (arith, of-a.1)))
      (ap (λ id. id_cmp id a.method) (sym same) ∙ less))

  told-none : (o p : Option Declaration) → slice_get group 0 ≡ o → slice_get group (length group - 1) ≡ p → methods_differ o p ≡ false
      → AreOfOneMethod rows k
  told-none o p at-o at-p fails a b of-a of-b has-a has-b =
      by (get-below group 0 (omega (arith, in-a.1))) (get-below group (length group - 1) (omega (arith, in-a.1))) where
        in-a : Contains group a
        in-a = filter-stands (has_naming k) rows a of-a has-a

        in-b : Contains group b
        in-b = filter-stands (has_naming k) rows b of-b has-b

        opposite : (c : Bool) → not c ≡ false → c ≡ true
        opposite true is = refl
        opposite false is = absurd (true≢false is)

        by : (f : Declaration) × (slice_get group 0 ≡ Some f) → (l : Declaration) × (slice_get group (length group - 1) ≡ Some l)
            → a.method ≡ b.method
        by f l =
            let differ : not (id_eq f.0.method l.0.method) ≡ false =
            (λ i. methods_differ ((sym f.1 ∙ at-o) i) ((sym l.1 ∙ at-p) i)) ∙ fails in
            let same = eq-is f.0.method l.0.method (opposite (id_eq f.0.method l.0.method) differ) in
            of-first f.0 l.0 f.1 l.1 same a in-a ∙ sym (of-first f.0 l.0 f.1 l.1 same b in-b)

  told-all : (o p : Option Declaration) → slice_get group 0 ≡ o → slice_get group (length group - 1) ≡ p → AreOfOneMethod rows k
      → methods_differ o p ≡ false
  told-all None p at-o at-p alone = refl
  told-all (Some f) None at-o at-p alone = refl
  told-all (Some f) (Some l) at-f at-l alone =
      let of-f = filter-passes (has_naming k) rows f (in_place group 0 f at-f) in
      let of-l = filter-passes (has_naming k) rows l (in_place group (length group - 1) l at-l) in
      ap not (eq-own f.method l.method (alone f l of-f.0 of-l.0 of-f.1 of-l.1))

  pub rivals-told : (ds : List Declaration) → ds ≡ group → (b : Bool) → b ≡ methods_differ (slice_get ds 0) (slice_get ds (length ds - 1))
      → IsFalse b ↔ AreOfOneMethod rows k
  rivals-told ds is b told =
      let whole : b ≡ methods_differ (slice_get group 0) (slice_get group (length group - 1)) =
      told ∙ ap (λ (es : List Declaration). methods_differ (slice_get es 0) (slice_get es (length es - 1))) is in (
        λ fails. told-none (slice_get group 0) (slice_get group (length group - 1)) refl refl (sym whole ∙ fails),
        λ alone. whole ∙ told-all (slice_get group 0) (slice_get group (length group - 1)) refl refl alone,
      )
