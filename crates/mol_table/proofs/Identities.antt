-- Identities that ascend, and what is known first when more becomes known.
use Rattle.std.proofs.Common.{◌≡◌, ◌∙◌, ◌≤◌, ◌<◌, ◌+◌, ℕ, zero, suc, eq-or-lt_of_le, refl, sym, ap, subst, arith, Bool, true, false, true≢false, cond, ◌||◌, List, [], ◌∷◌, ◌++◌, map, take, drop, length, length-append, None, Some, is_some, get_or, min, position}
use mathlib.Core.Logic.{⊎_elim}
use Rattle.std.specs.List.{IsDistinct, list_any, swap}
use Rattle.std.specs.List.Sorted.{IsPermutation, IsSorted}
use Rattle.std.specs.Cmp.{eq_by_cmp_equiv}
use Rattle.std.specs.FinMap.{get, same_map}
use Rattle.std.specs.Map.{lookup}
use Rattle.std.specs.Ordering.{is_lt, ordering_reverse}
use Rattle.std.proofs.lemmas.List.{get_or-append-add, get_or_append_left, get_or_default, length-map, length-take, take-append-drop}
use Rattle.std.proofs.lemmas.List.Edits.{swapped_from_swap}
use Rattle.std.proofs.lemmas.List.Quantifiers.{position-Some}
use Rattle.std.proofs.lemmas.List.Sorted.{IsPermutation-append, IsPermutation-refl, length_permutation, list_any-IsPermutation}
use Rattle.std.proofs.lemmas.Map.Keys.{apart_from_distinct, IsDistinct-IsPermutation}
use Rattle.indexmap.specs.IndexMap.{insert_entry}
use Rattle.mol_base.specs.declared.ident.Id.{Id}
use Rattle.mol_base.specs.Order.{id_cmp, id_cmp-total, id_cmp-IsAntisymmetric}
use Rattle.mol_table_rules.specs.Identities.{AscendsTo, IsAscending}
use Rattle.mol_table.specs.Maps.{StartsWith, knowns_of}
use Rattle.mol_values_types.specs.Order.{id_eq}
use Rattle.mol_table_rules.specs.Program.{same_id}
use Rattle.mol_values_types.specs.declared.known.Known.{Known}
use Rattle.mol_values_types.specs.declared.known.Known.TheVariants as knowns
use Rattle.mol_table_rules.proofs.Living.{id_tied, same_id-own}
use Rattle.mol_values_types.proofs.Lookups.{get_is}
use Rattle.mol_table_rules.proofs.Programs.{ascending, keys-known}
use Rattle.mol_values_types.proofs.Ties.{id_ties}

abbrev pub ids_of : List (Id × Known) → List Id
ids_of entries = map (λ entry. entry.0) entries

append-nil : (xs : List Id) → xs ++ [] ≡ xs
append-nil [] = refl
append-nil (x ∷ xs) = ap (λ rest. x ∷ rest) (append-nil xs)

assoc : (xs ys zs : List Id) → (xs ++ ys) ++ zs ≡ xs ++ (ys ++ zs)
assoc [] ys zs = refl
assoc (x ∷ xs) ys zs = ap (λ rest. x ∷ rest) (assoc xs ys zs)

-- ---- an entry that is put takes the place of another, or goes to the end

more-insert : (es : List (Id × Known)) (id : Id) (what : Known) → (more : List Id) × (ids_of (insert_entry id_eq es id what) ≡ ids_of es ++ more)
more-insert [] id what = (id ∷ [], refl)
more-insert (e ∷ es) id what = by (id_eq id e.0) (more-insert es id what) where
  by : (b : Bool) → (more : List Id) × (ids_of (insert_entry id_eq es id what) ≡ ids_of es ++ more)
      → (more : List Id) × (ids_of (cond b ((e.0, what) ∷ es) (e ∷ insert_entry id_eq es id what)) ≡ e.0 ∷ (ids_of es ++ more))
  by true rest = ([], sym (ap (λ xs. e.0 ∷ xs) (append-nil (ids_of es))))
  by false rest = (rest.0, ap (λ xs. e.0 ∷ xs) rest.1)

pub starts-insert : (ids : List Id) (es : List (Id × Known)) (id : Id) (what : Known) → StartsWith ids es → StartsWith ids (insert_entry id_eq es id what)
starts-insert ids es id what starts =
    let grown = more-insert es id what in
    (starts.0 ++ grown.0, grown.1 ∙ ap (λ xs. xs ++ grown.0) starts.1 ∙ assoc ids starts.0 grown.0)

length-insert : (es : List (Id × Known)) (id : Id) (what : Known) → length (insert_entry id_eq es id what) ≤ length es + 1
length-insert [] id what = omega arith
length-insert (e ∷ es) id what = by (id_eq id e.0) (length-insert es id what) where
  by : (b : Bool) → length (insert_entry id_eq es id what) ≤ length es + 1 → length (cond b ((e.0, what) ∷ es) (e ∷ insert_entry id_eq es id what)) ≤ suc (length es) + 1
  by true rest = omega arith
  by false rest = omega (arith, rest)

pub count-insert : (es new : List (Id × Known)) (id : Id) (what : Known) → new ≡ insert_entry id_eq es id what → length new ≤ length es + 1
count-insert es new id what is = subst (λ list. length list ≤ length es + 1) (sym is) (length-insert es id what)

length-again : (es : List (Id × Known)) (id : Id) (what : Known) → (lookup (id_eq id) es ≡ None → ⊥) → length (insert_entry id_eq es id what) ≤ length es
length-again [] id what there = absurd (there refl)
length-again (e ∷ es) id what there = by (id_eq id e.0) refl (length-again es id what) where
  by : (b : Bool) → id_eq id e.0 ≡ b → ((lookup (id_eq id) es ≡ None → ⊥) → length (insert_entry id_eq es id what) ≤ length es)
      → length (cond b ((e.0, what) ∷ es) (e ∷ insert_entry id_eq es id what)) ≤ suc (length es)
  by true is rest = omega arith
  by false is rest =
      let less = rest (λ none. there (ap (λ b. cond b (Some e.1) (lookup (id_eq id) es)) is ∙ none)) in
      omega (arith, less)

pub count-again : (es new : List (Id × Known)) (id : Id) (what : Known) → new ≡ insert_entry id_eq es id what → (lookup (id_eq id) es ≡ None → ⊥) → length new ≤ length es
count-again es new id what is there = subst (λ list. length list ≤ length es) (sym is) (length-again es id what there)

-- ---- identities that ascend

pub sorted-ascending : (ids : List Id) → IsAscending ids → IsSorted id_cmp ids
sorted-ascending ids up k d low within = ap is_lt (id_cmp-total.antisymm (get_or ids (k + 1) d) (get_or ids k d) ∙ ap ordering_reverse (up k d within))

pub starts-self : (es : List (Id × Known)) → StartsWith (ids_of es) es
starts-self es = ([], sym (append-nil (ids_of es)))

-- what was in order first is so afterwards
pub starts-ascends : (old new : List (Id × Known)) (from : ℕ) → IsSorted id_cmp (ids_of old) → IsDistinct id_eq (ids_of old) → StartsWith (ids_of old) new
    → from ≡ length old → AscendsTo from (ids_of new)
starts-ascends old new from ordered distinct starts is k d within =
    let ids : List Id = ids_of old in
    let same : length ids ≡ length old = length-map old (λ (e : Id × Known). e.0) in
    let up = ascending ids ordered (subst (λ eq. IsDistinct eq ids) (λ i x y. id_ties x y i) distinct) k d (omega (arith, same, is, within)) in
    let at : (j : ℕ) → j < length ids → get_or (ids_of new) j d ≡ get_or ids j d = λ j lt. ap (λ xs. get_or xs j d) starts.1 ∙ get_or_append_left ids starts.0 d j lt in
    (λ i. id_cmp (at k (omega (arith, same, is, within)) i) (at (k + 1) (omega (arith, same, is, within)) i)) ∙ up

pub starts-longer : (old new : List (Id × Known)) → StartsWith (ids_of old) new → length old ≤ length new
starts-longer old new starts =
    let first = length-map old (λ (e : Id × Known). e.0) in
    let after = length-map new (λ (e : Id × Known). e.0) in
    let both = length-append (ids_of old) starts.0 in
    let same = ap length starts.1 in
    omega (arith, first, after, both, same)

-- ---- entries that are put into an order

-- the first entries have the identities of a list
abbrev pub Agrees : ℕ → List (Id × Known) → List Id → Type 0
Agrees n es ids = (k : ℕ) (d : Id) → k < n → get_or (ids_of es) k d ≡ get_or ids k d

item-of : (es : List (Id × Known)) (k : ℕ) (d : Id) → get_or (ids_of es) k d ≡ (get_or es k (d, knowns.Class)).0
item-of [] k d = refl
item-of (e ∷ es) zero d = refl
item-of (e ∷ es) (suc k) d = item-of es k d

-- the next entry is exchanged for that which belongs there
pub agrees-swap : (es : List (Id × Known)) (ids : List Id) (m at : ℕ) → Agrees m es ids → IsDistinct same_id ids → m < length ids → m < length es → at < length es
    → ((d : Id) → get_or (ids_of es) at d ≡ get_or ids m d) → Agrees (m + 1) (swap es m at) ids
agrees-swap es ids m at agrees distinct fits within below is k d lt =
    let swapped = swapped_from_swap es (swap es m at) m at (d, knowns.Class) within below refl in
    let other : k < m → k ≡ at → ⊥ = λ less e.
    let same : get_or ids k d ≡ get_or ids m d = sym (agrees k d less) ∙ ap (λ j. get_or (ids_of es) j d) e ∙ is d in
    true≢false (sym (same_id-own (get_or ids m d)) ∙ sym (ap (λ x. same_id x (get_or ids m d)) same) ∙ apart_from_distinct same_id ids k m d distinct less fits) in
    ⊎_elim
    (λ e. ap (λ j. get_or (ids_of (swap es m at)) j d) e ∙ item-of (swap es m at) m d ∙ ap (λ (x : Id × Known). x.0) swapped.0
    ∙ sym (item-of es at d) ∙ is d ∙ sym (ap (λ j. get_or ids j d) e))
    (λ less. item-of (swap es m at) k d ∙ ap (λ (x : Id × Known). x.0) (swapped.2 k (λ e. let no : k ≡ m = e in omega arith) (other less)) ∙ sym (item-of es k d) ∙ agrees k d less)
    (eq-or-lt_of_le (let low : k ≤ m = omega arith in low))

pub same-list : (xs ys : List Id) → length xs ≡ length ys → ((k : ℕ) (d : Id) → k < length xs → get_or xs k d ≡ get_or ys k d) → xs ≡ ys
same-list [] [] long same = refl
same-list [] (y ∷ ys) long same = absurd (omega (arith, long))
same-list (x ∷ xs) [] long same = absurd (omega (arith, long))
same-list (x ∷ xs) (y ∷ ys) long same =
    let rest : xs ≡ ys = same-list xs ys (omega (arith, long)) (λ k d lt. same (suc k) d (omega arith)) in
    (λ i. same 0 x (omega arith) i ∷ rest i)

pub same-knowns : (new old : List (Id × Known)) → ((q : Id) → lookup (id_eq q) new ≡ lookup (id_eq q) old) → knowns_of new ≡ knowns_of old
same-knowns new old same = same_map id_cmp-total id_cmp-IsAntisymmetric _ _ (λ q. sym (get_is id_cmp id_eq id_ties id_cmp-total q new) ∙ same q ∙ get_is id_cmp id_eq id_ties id_cmp-total q old)

any-at : (test : Id → Bool) (ids : List Id) (k : ℕ) (d : Id) → k < length ids → test (get_or ids k d) ≡ true → list_any test ids ≡ true
any-at test [] k d lt passes = absurd (omega (arith, lt))
any-at test (x ∷ ids) zero d lt passes = ap (λ b. b || list_any test ids) passes
any-at test (x ∷ ids) (suc k) d lt passes = ap (λ b. test x || b) (any-at test ids k d (omega (arith, lt)) passes) ∙ or-true (test x) where
  or-true : (b : Bool) → (b || true) ≡ true
  or-true true = refl
  or-true false = refl

module _ (old : List (Id × Known)) (order : List Id) (from : ℕ) (fits : from ≤ length old) (permuted : IsPermutation (drop from (ids_of old)) order) (distinct : IsDistinct id_eq (ids_of old)) where
  abbrev pub ordered_as : List Id
  ordered_as = take from (ids_of old) ++ order

  whole : IsPermutation (ids_of old) ordered_as
  whole = subst (λ ids. IsPermutation ids ordered_as) (take-append-drop from (ids_of old))
      (IsPermutation-append (take from (ids_of old)) (take from (ids_of old)) (drop from (ids_of old)) order (IsPermutation-refl (take from (ids_of old))) permuted)

  pub ordered-distinct : IsDistinct same_id ordered_as
  ordered-distinct = IsDistinct-IsPermutation same_id (eq_by_cmp_equiv id_cmp-total).symm (ids_of old) ordered_as whole (subst (λ eq. IsDistinct eq (ids_of old)) (λ i x y. id_ties x y i) distinct)

  pub ordered-long : length ordered_as ≡ length old
  ordered-long = length_permutation (ids_of old) ordered_as whole ∙ length-map old (λ (e : Id × Known). e.0)

  front-long : length (take from (ids_of old)) ≡ from
  front-long = length-take from (ids_of old) ∙ short (length (ids_of old)) (length-map old (λ (e : Id × Known). e.0)) where
    short : (m : ℕ) → m ≡ length old → min from m ≡ from
    short m e = omega (arith, e, fits)

  pub order-long : from + length order ≡ length old
  order-long = omega (arith, ordered-long, front-long, length-append (take from (ids_of old)) order)

  pub ordered-at : (place : ℕ) (d : Id) → get_or ordered_as (from + place) d ≡ get_or order place d
  ordered-at place d = ap (λ n. get_or ordered_as (n + place) d) (sym front-long) ∙ get_or-append-add (take from (ids_of old)) order place d

  -- each identity of the order is that of an entry
  pub ordered-there : (now : List (Id × Known)) → knowns_of now ≡ knowns_of old → (place : ℕ) (id : Id) → place < length order → id ≡ get_or order place id → is_some (lookup (id_eq id) now) ≡ true
  ordered-there now same place id within is =
      ap is_some (get_is id_cmp id_eq id_ties id_cmp-total id now ∙ ap (λ known. get known id) same) ∙ sym (keys-known old id)
      ∙ list_any-IsPermutation (same_id id) (ids_of old) ordered_as whole
      ∙ any-at (same_id id) ordered_as (from + place) id (omega (arith, within, ordered-long, order-long)) (sym (ap (same_id id) (is ∙ sym (ordered-at place id))) ∙ same_id-own id)

  -- the entry that the search found has the identity that comes next
  pub next-within : (now : List (Id × Known)) (at : ℕ) (id : Id) → position (id_eq id) (ids_of now) ≡ Some at → at < length now
  next-within now at id found = omega (arith, (position-Some (id_eq id) (ids_of now) at id found).0, length-map now (λ (e : Id × Known). e.0))

  pub next-found : (now : List (Id × Known)) (place at : ℕ) (id d : Id) → place < length order → id ≡ get_or order place id → position (id_eq id) (ids_of now) ≡ Some at
      → get_or (ids_of now) at d ≡ get_or ordered_as (from + place) d
  next-found now place at id d within is found =
      sym (id_tied id (get_or (ids_of now) at d) (sym (id_ties id (get_or (ids_of now) at d)) ∙ (position-Some (id_eq id) (ids_of now) at d found).1))
      ∙ is ∙ get_or_default order place id d within ∙ sym (ordered-at place d)
