-- The least of identities, and that all are in order once those from its place on are.
use Rattle.std.proofs.Common.{◌≡◌, ◌∙◌, ◌≤◌, ◌<◌, ◌+◌, ◌-◌, ℕ, refl, sym, ap, subst, arith, Bool, true, false, true≢false, ltb, ltb-true, ltb-false, List, take, drop, length, get_or}
use Rattle.std.specs.List.{All, Contains}
use Rattle.std.specs.List.Sorted.{IsPartitionedBy, IsPartitionPoint, IsPermutation, IsSorted}
use Rattle.std.specs.Ordering.{is_lt, ordering_index, ordering_reverse}
use Rattle.std.specs.declared.cmp.Ordering.{Ordering}
use Rattle.std.specs.declared.cmp.Ordering.TheVariants.{Less, Equal, Greater}
use Rattle.std.proofs.lemmas.List.{get_or-drop, get_or-take, length-drop, length-take-le, take_all}
use Rattle.std.proofs.lemmas.List.Elements.{All-more, All-weaker}
use Rattle.std.proofs.lemmas.List.Sorted.{All-permutation, searchable_from_sorted}
use Rattle.mol_base.specs.declared.ident.Id.{Id}
use Rattle.mol_base.specs.Order.{id_cmp, id_cmp-total}
use Rattle.mol_table_rules.specs.Identities.{AscendsTo, IsAscending}
use Rattle.mol_table.proofs.Identities.{sorted-ascending}

-- the first identity comes before the second
abbrev pub Below : Id → Id → Type 0
Below first second = is_lt (id_cmp first second) ≡ true

-- it does not
abbrev pub NotBelow : Id → Id → Type 0
NotBelow first second = is_lt (id_cmp first second) ≡ false

less : (o : Ordering) → is_lt o ≡ true → o ≡ Less
less Less is = refl
less Equal is = absurd (true≢false (sym is))
less Greater is = absurd (true≢false (sym is))

-- what does not come before the least comes before nothing that does
not-below : (id front least : Id) → NotBelow id least → Below front least → NotBelow id front
not-below id front least above below = by (is_lt (id_cmp id front)) refl where
  by : (b : Bool) → is_lt (id_cmp id front) ≡ b → b ≡ false
  by false is = refl
  by true is = absurd (true≢false (sym (ap is_lt (id_cmp-total.trans id front least (less _ is) (less _ below))) ∙ above))

not-below-own : (id : Id) → NotBelow id id
not-below-own id = by (id_cmp id id) (id_cmp-total.antisymm id id) where
  by : (o : Ordering) → o ≡ ordering_reverse o → is_lt o ≡ false
  by Less is = ap is_lt is
  by Equal is = refl
  by Greater is = refl

-- ---- the least of identities

-- one of the identities, and none of the first ones comes before it
abbrev pub LeastSoFar : List Id → ℕ → Id → Type 0
LeastSoFar ids n least = Contains ids least × All (λ other. NotBelow other least) (take n ids)

module _ (ids : List Id) (at : ℕ) (id least : Id) (within : at < length ids) (is : id ≡ get_or ids at id) (so-far : All (λ other. NotBelow other least) (take at ids)) where
  pub least-stays : NotBelow id least → All (λ other. NotBelow other least) (take (at + 1) ids)
  least-stays above = All-more (λ other. NotBelow other least) ids at id within so-far (subst (λ other. NotBelow other least) is above)

  pub least-next : Below id least → All (λ other. NotBelow other id) (take (at + 1) ids)
  least-next below = All-more (λ other. NotBelow other id) ids at id within
      (All-weaker (λ other. NotBelow other least) (λ other. NotBelow other id) (λ other above. not-below other id least above below) (take at ids) so-far)
      (subst (λ other. NotBelow other id) is (not-below-own id))

pub all-taken : (P : Id → Type 0) (ids : List Id) (n : ℕ) → length ids ≤ n → All P (take n ids) → All P ids
all-taken P ids n whole all = subst (All P) (take_all n ids whole) all

-- ---- those before an identity

pub parted : (ids : List Id) (id : Id) → IsAscending ids → IsPartitionedBy (λ other. is_lt (id_cmp other id)) ids
parted ids id up i j d before within below =
    lower _ _ below (searchable_from_sorted id_cmp-total (λ (other : Id). other) ids id (sorted-ascending ids up) i j d before within)
  where
    lower : (o later : Ordering) → is_lt later ≡ true → ordering_index o ≤ ordering_index later → is_lt o ≡ true
    lower Less later is le = refl
    lower Equal Less is le = absurd (omega (arith, le))
    lower Equal Equal is le = is
    lower Equal Greater is le = absurd (true≢false (sym is))
    lower Greater Less is le = absurd (omega (arith, le))
    lower Greater Equal is le = is
    lower Greater Greater is le = is

pub front-ascending : (ids : List Id) (from : ℕ) → from ≤ length ids → AscendsTo from ids → IsAscending (take from ids)
front-ascending ids from fits up k d within =
    let long = length-take-le from ids fits in
    (λ i. id_cmp (get_or-take from ids k d (let lt : k < from = omega (arith, within, long) in lt) i) (get_or-take from ids (k + 1) d (let lt : k + 1 < from = omega (arith, within, long) in lt) i))
    ∙ up k d (omega (arith, within, long))

-- ---- all are in order once those from the place of the least new one on are

module _ (old new : List Id) (from place : ℕ) (least : Id) (first : AscendsTo from old) (fits : from ≤ length old) (before : place ≤ from)
    (split : IsPartitionPoint (λ id. Below id least) (λ id. NotBelow id least) (take from old) place) (rest : All (λ id. NotBelow id least) (drop from old)) where
  front-below : (k : ℕ) (d : Id) → k < place → Below (get_or old k d) least
  front-below k d lt = subst (λ id. Below id least) (get_or-take from old k d (omega (arith, lt, before))) (split.0 k d (omega arith) lt)

  back-above : All (λ id. NotBelow id least) (drop place old)
  back-above k d lt = subst (λ id. NotBelow id least) (sym (get_or-drop place old k d)) (by (ltb (place + k) from) refl) where
    short : length (take from old) ≡ from
    short = length-take-le from old fits

    by : (b : Bool) → ltb (place + k) from ≡ b → NotBelow (get_or old (place + k) d) least
    by true is =
        let less = ltb-true (place + k) from is in
        subst (λ id. NotBelow id least) (get_or-take from old (place + k) d less) (split.1 (place + k) d (omega arith) (omega (arith, less, short)))
    by false is =
        let more = ltb-false (place + k) from is in
        let long = length-drop place old in
        let within = length-drop from old in
        let there : get_or (drop from old) ((place + k) - from) d ≡ get_or old (place + k) d = get_or-drop from old ((place + k) - from) d ∙ ap (λ n. get_or old n d) (let e : from + ((place + k) - from) ≡ place + k = omega (arith, more) in e) in
        subst (λ id. NotBelow id least) there (rest ((place + k) - from) d (omega (arith, more, lt, long, within, before, fits)))

  module _ (kept : take place new ≡ take place old) (same : IsPermutation (drop place old) (drop place new)) (sorted : IsSorted id_cmp (drop place new)) where
    new-at : (k : ℕ) (d : Id) → k < place → get_or new k d ≡ get_or old k d
    new-at k d lt = sym (get_or-take place new k d lt) ∙ ap (λ ids. get_or ids k d) kept ∙ get_or-take place old k d lt

    new-above : (k : ℕ) (d : Id) → place ≤ k → k < length new → NotBelow (get_or new k d) least
    new-above k d low within =
        let long = length-drop place new in
        let there : get_or (drop place new) (k - place) d ≡ get_or new k d = get_or-drop place new (k - place) d ∙ ap (λ n. get_or new n d) (let e : place + (k - place) ≡ k = omega (arith, low) in e) in
        subst (λ id. NotBelow id least) there
        (All-permutation (λ id. NotBelow id least) (drop place old) (drop place new) same back-above (k - place) d (omega (arith, low, within, long)))

    pub all-sorted : IsSorted id_cmp new
    all-sorted k d low within = by (ltb (k + 1) place) (ltb k place) refl refl where
      by : (next own : Bool) → ltb (k + 1) place ≡ next → ltb k place ≡ own → NotBelow (get_or new (k + 1) d) (get_or new k d)
      by true own next-is own-is =
          let less = ltb-true (k + 1) place next-is in
          (λ i. is_lt (id_cmp (new-at (k + 1) d less i) (new-at k d (omega (arith, less)) i)))
          ∙ ap is_lt (id_cmp-total.antisymm (get_or old (k + 1) d) (get_or old k d) ∙ ap ordering_reverse (first k d (omega (arith, less, before))))
      by false true next-is own-is =
          let less = ltb-true k place own-is in
          let more = ltb-false (k + 1) place next-is in
          subst (NotBelow (get_or new (k + 1) d)) (sym (new-at k d less))
          (not-below (get_or new (k + 1) d) (get_or old k d) least (new-above (k + 1) d more within) (front-below k d less))
      by false false next-is own-is =
          let more = ltb-false k place own-is in
          let long = length-drop place new in
          let there : (n : ℕ) → place ≤ n → get_or (drop place new) (n - place) d ≡ get_or new n d =
          λ n le. get_or-drop place new (n - place) d ∙ ap (λ m. get_or new m d) (let e : place + (n - place) ≡ n = omega (arith, le) in e) in
          let next : get_or (drop place new) ((k - place) + 1) d ≡ get_or new (k + 1) d =
          ap (λ n. get_or (drop place new) n d) (let e : (k - place) + 1 ≡ (k + 1) - place = omega (arith, more) in e) ∙ there (k + 1) (omega (arith, more)) in
          (λ i. is_lt (id_cmp (sym next i) (sym (there k more) i))) ∙ sorted (k - place) d (omega arith) (omega (arith, more, within, long))
