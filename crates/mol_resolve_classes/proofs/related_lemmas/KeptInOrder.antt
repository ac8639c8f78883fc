-- Members as they are listed: one more of them, and their order.
use Rattle.std.proofs.Common.{◌≡◌, ℕ, ◌+◌, ◌<◌, ◌==◌, Bool, cond, List, [], ◌∷◌, ◌++◌, map, filter, take, length, get_or, refl, sym, ◌∙◌, ap, subst, arith, lt-ltb, nat_cmp, Less, Equal, Greater}
use Rattle.std.specs.List.{AllByRecursion, enumerate_from}
use Rattle.std.specs.List.Sorted.{IsStrictlySortedBy}
use Rattle.std.specs.Ordering.{on}
use Rattle.std.proofs.lemmas.List.{map-append, take_more}
use Rattle.std.proofs.lemmas.List.Elements.{filter-append}
use Rattle.std.proofs.lemmas.List.Kept.{IsStrictlySortedBy-filter}
use Rattle.std.proofs.lemmas.Simd.{map-map}
use Rattle.jav_tree.specs.declared.types.TypeName.{TypeName}
use Rattle.jav_tree.specs.declared.unit.Member.{Member}
use Rattle.jav_tree.specs.declared.unit.Member.TheVariants as member
use Rattle.jav_names.specs.Views.{ViewType}
use Rattle.mol_resolve_members.specs.members.Rows.{kept_row}
use Rattle.mol_resolve_members.specs.declared.members.member_row.MemberRow.{MemberRow}
use Rattle.mol_resolve_classes.specs.namesakes.Compared.{AreInOrder}
use Rattle.mol_resolve_classes.specs.declared.namesakes.declaration.Declaration.{Declaration}
use Rattle.mol_resolve_rules.specs.MemberFaults.{MemberKind, Row, row_of}
use Rattle.mol_resolve_classes.specs.related.Compared.{SeenDeclared, StandInOrder, is_kind, seen_declaration, seen_declared}

-- ---- one more

module _ (rows : List MemberRow) (i : ℕ) (row : MemberRow) (inside : i < length rows) (is : row ≡ get_or rows i row) where
  pub rows-more : map kept_row (take (i + 1) rows) ≡ map kept_row (take i rows) ++ kept_row row ∷ []
  rows-more = ap (map kept_row) (take_more rows i row inside ∙ ap (λ next. take i rows ++ next ∷ []) (sym is))
      ∙ map-append kept_row (take i rows) (row ∷ [])

  pub listed-more : {Y : Type 0} (f : Row ℕ → Y)
      → map f (map kept_row (take (i + 1) rows)) ≡ map f (map kept_row (take i rows)) ++ f (kept_row row) ∷ []
  listed-more f = ap (map f) rows-more ∙ map-append f (map kept_row (take i rows)) (kept_row row ∷ [])

  pub filtered-more : {Y : Type 0} (f : Row ℕ → Y) (p : Row ℕ → Bool) → map f (filter p (map kept_row (take (i + 1) rows)))
      ≡ map f (filter p (map kept_row (take i rows))) ++ map f (cond (p (kept_row row)) (kept_row row ∷ []) [])
  filtered-more f p =
      ap (λ all. map f (filter p all)) rows-more
      ∙ ap (map f) (filter-append p (map kept_row (take i rows)) (kept_row row ∷ []))
      ∙ map-append f (filter p (map kept_row (take i rows))) (filter p (kept_row row ∷ []))

-- ---- order

module _ {X : Type 0} (place : X → ℕ) where
  to_places : (xs : List X) → IsStrictlySortedBy (on place nat_cmp) xs → IsStrictlySortedBy nat_cmp (map place xs)
  unfolding IsStrictlySortedBy
  to_places [] up = up
  to_places (x ∷ xs) up = (above xs up.0, to_places xs up.1) where
    above : (ys : List X) → AllByRecursion (λ y. nat_cmp (place x) (place y) ≡ Less) ys
        → AllByRecursion (λ n. nat_cmp (place x) n ≡ Less) (map place ys)
    above [] all = all
    above (y ∷ ys) all = (all.0, above ys all.1)

  pub from_places : (xs : List X) → IsStrictlySortedBy nat_cmp (map place xs) → IsStrictlySortedBy (on place nat_cmp) xs
  unfolding IsStrictlySortedBy
  from_places [] up = up
  from_places (x ∷ xs) up = (above xs up.0, from_places xs up.1) where
    above : (ys : List X) → AllByRecursion (λ n. nat_cmp (place x) n ≡ Less) (map place ys)
        → AllByRecursion (λ y. nat_cmp (place x) (place y) ≡ Less) ys
    above [] all = all
    above (y ∷ ys) all = (all.0, above ys all.1)

pub less : (a b : ℕ) → a < b → nat_cmp a b ≡ Less
less a b below = ap (λ test. cond test Less (cond (a == b) Equal Greater)) (lt-ltb a b below)

-- declarations of a kind are in the order of their rows
pub declared-in_order : (kind : MemberKind) (rows : List (Row ℕ)) (declared : List Declaration) → StandInOrder rows
    → map seen_declaration declared ≡ map seen_declared (filter (is_kind kind) rows) → AreInOrder declared
declared-in_order kind rows declared up same =
    from_places (λ (d : Declaration). d.place) declared
    (subst (IsStrictlySortedBy nat_cmp) places
    (to_places (λ (row : Row ℕ). row.place) of_kind
    (IsStrictlySortedBy-filter (on (λ row. row.place) nat_cmp) (is_kind kind) rows up))) where
      of_kind : List (Row ℕ)
      of_kind = filter (is_kind kind) rows

      places : map (λ (row : Row ℕ). row.place) of_kind ≡ map (λ (d : Declaration). d.place) declared
      places = sym (map-map (λ (s : SeenDeclared). s.place) seen_declared of_kind)
          ∙ ap (map (λ (s : SeenDeclared). s.place)) (sym same)
          ∙ map-map (λ (s : SeenDeclared). s.place) seen_declaration declared

-- the rows of a class are in order
module _ (see : TypeName → ViewType ℕ) (class : ℕ) where
  placed : (place : ℕ) (kept : Member) → (row_of see class (place, kept)).place ≡ place
  placed place (member.Field field) = refl
  placed place (member.Method method) = refl
  placed place (member.Ctor constructor) = refl

  later : (n k : ℕ) (kept : Member) → n < k → (members : List Member)
      → AllByRecursion (λ row. nat_cmp (row_of see class (n, kept)).place row.place ≡ Less)
      (map (row_of see class) (enumerate_from k members))
  later n k kept below [] = tt
  later n k kept below (next ∷ members) = (
    (λ i. nat_cmp (placed n kept i) (placed k next i)) ∙ less n k below,
    later n (k + 1) kept (omega (arith, below)) members,
  )

  pub rows-in_order : (n : ℕ) (members : List Member) → StandInOrder (map (row_of see class) (enumerate_from n members))
  unfolding IsStrictlySortedBy
  rows-in_order n [] = tt
  rows-in_order n (kept ∷ members) = (later n (n + 1) kept (omega arith) members, rows-in_order (n + 1) members)
