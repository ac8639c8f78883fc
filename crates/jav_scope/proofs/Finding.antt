-- What is found in a list that is made of another, and what an entry that is looked for has.
use Rattle.std.proofs.Common.{◌≡◌, ◌≢◌, ℕ, ◌==◌, Bool, true, false, cond, ◌&&◌, List, [], ◌∷◌, ◌++◌, map, filter, Option, Some, None, option_map, option_copied, slice_get, find, refl, sym, ◌∙◌, ap, subst, eqb-true, eq-eqb, nat_cmp, Ordering, Less, Equal, Greater, bytes_eq}
use Rattle.std.specs.Bool.{Decides}
use Rattle.std.specs.Cmp.Lexicographic.{slice_cmp}
use Rattle.std.specs.FinMap.{nat_cmp-IsAntisymmetric, slice_cmp-IsAntisymmetric}
use denote.Ref.{Bor}
use Rattle.std.specs.Option.{option_or}
use Rattle.std.specs.Slice.{IsItemAt}
use Rattle.std.proofs.lemmas.Option.{slice_get_past, slice_get-get_or}
use Rattle.std.specs.Ordering.{is_eq, ordering_then}
use Rattle.std.proofs.lemmas.Bool.Decides.{same_from_decides}
use Rattle.std.proofs.lemmas.Cmp.{tied_itself, nat_list_cmp_total}
use Rattle.std.proofs.lemmas.Slice.Eq.{bytes_eq-Decides}
use Rattle.jav_names.specs.DottedNames.{Name}
use Rattle.jav_names.proofs.UnitsOrdered.{nat_cmp-IsKeyOrder}
use Rattle.jav_names.proofs.Ways.{same_key}
use Rattle.jav_names.specs.index.Seeking.{is_sought}
use Rattle.jav_names.specs.declared.index.entry.Entry.{Entry}
use Rattle.jav_names.proofs.index_lemmas.Searched.{find-same, equal-is}

-- ---- lists

pub find-map : {X Y : Type 0} (f : X → Y) (p : Y → Bool) (xs : List X) → find p (map f xs) ≡ option_map f (find (λ x. p (f x)) xs)
find-map f p [] = refl
find-map {X} {Y} f p (x ∷ xs) = by_test (p (f x)) (find-map f p xs) where
  by_test : (b : Bool) → find p (map f xs) ≡ option_map f (find (λ x. p (f x)) xs)
      → cond b (Some (f x)) (find p (map f xs)) ≡ option_map f (cond b (Some x) (find (λ x. p (f x)) xs))
  by_test true more = refl
  by_test false more = more

pub find-filter_both : {X : Type 0} (p q : X → Bool) (xs : List X) → find p (filter q xs) ≡ find (λ x. q x && p x) xs
find-filter_both p q [] = refl
find-filter_both {X} p q (x ∷ xs) = by_test (q x) (find-filter_both p q xs) where
  by_test : (b : Bool) → find p (filter q xs) ≡ find (λ x. q x && p x) xs
      → find p (cond b (x ∷ filter q xs) (filter q xs)) ≡ cond (b && p x) (Some x) (find (λ x. q x && p x) xs)
  by_test true more = ap (cond (p x) (Some x)) more
  by_test false more = more

pub find-append : {X : Type 0} (p : X → Bool) (xs ys : List X) → find p (xs ++ ys) ≡ option_or (find p xs) (find p ys)
find-append p [] ys = refl
find-append {X} p (x ∷ xs) ys = by_test (p x) (find-append p xs ys) where
  by_test : (b : Bool) → find p (xs ++ ys) ≡ option_or (find p xs) (find p ys)
      → cond b (Some x) (find p (xs ++ ys)) ≡ option_or (cond b (Some x) (find p xs)) (find p ys)
  by_test true more = refl
  by_test false more = more

pub find-never : {X : Type 0} (p : X → Bool) → ((x : X) → p x ≡ false) → (xs : List X) → find p xs ≡ None
find-never p fails [] = refl
find-never p fails (x ∷ xs) = rw (fails x) (find-never p fails xs)

pub option_map-twice : {X Y Z : Type 0} (f : X → Y) (g : Y → Z) (o : Option X) → option_map g (option_map f o) ≡ option_map (λ x. g (f x)) o
option_map-twice f g None = refl
option_map-twice f g (Some x) = refl

-- Found among entries that are made of a list's elements, by a test that says the same of each element.
pub found-made : {X : Type 0} (entry : X → Entry) (owner arity : ℕ) (name : Name) (passes : X → Bool)
    → ((x : X) → is_sought owner arity name (entry x) ≡ passes x) → (xs : List X)
    → find (is_sought owner arity name) (map entry xs) ≡ option_map entry (find passes xs)
found-made entry owner arity name passes same xs =
    find-map entry (is_sought owner arity name) xs
    ∙ ap (option_map entry) (find-same (λ x. is_sought owner arity name (entry x)) passes same xs)

-- And so among those of the elements that pass another test.
pub found-filtered : {X : Type 0} (entry : X → Entry) (owner arity : ℕ) (name : Name) (kept passes : X → Bool)
    → ((x : X) → (kept x && is_sought owner arity name (entry x)) ≡ passes x) → (xs : List X)
    → find (is_sought owner arity name) (map entry (filter kept xs)) ≡ option_map entry (find passes xs)
found-filtered entry owner arity name kept passes same xs =
    find-map entry (is_sought owner arity name) (filter kept xs)
    ∙ ap (option_map entry) (
    find-filter_both (λ x. is_sought owner arity name (entry x)) kept xs
    ∙ find-same (λ x. kept x && is_sought owner arity name (entry x)) passes same xs
    )

-- what a slice has at a place
pub lent-at : {X : Type 0} (xs : List X) (place : ℕ) (r : Option (Bor X)) → IsItemAt xs place r → option_copied r ≡ slice_get xs place
lent-at xs place None is = sym (slice_get_past xs place is.3)
lent-at xs place (Some x) is = sym (slice_get-get_or xs place x.now is.3.0 ∙ ap Some (sym is.1))

-- ---- tests

eq-then : (a b : Ordering) → is_eq (ordering_then a b) ≡ (is_eq a && is_eq b)
eq-then Less b = refl
eq-then Equal b = refl
eq-then Greater b = refl

-- numbers and texts tie just where they are equal
tied-numbers : (a b : ℕ) → is_eq (nat_cmp a b) ≡ (a == b)
tied-numbers a b = same_from_decides (is_eq (nat_cmp a b)) (a == b) (same_key nat_cmp-IsKeyOrder a b) (eqb-true a b, eq-eqb a b)

tied-bytes : (a b : List ℕ) → is_eq (slice_cmp nat_cmp a b) ≡ bytes_eq a b
tied-bytes a b = same_from_decides (is_eq (slice_cmp nat_cmp a b)) (bytes_eq a b) ties (bytes_eq-Decides a b) where
  ties : Decides (is_eq (slice_cmp nat_cmp a b)) (a ≡ b)
  ties = (
    λ is. slice_cmp-IsAntisymmetric nat_cmp-IsAntisymmetric a b (equal-is (slice_cmp nat_cmp a b) is),
    λ same. ap is_eq (subst (λ c. slice_cmp nat_cmp a c ≡ Equal) same (tied_itself nat_list_cmp_total a)),
  )

-- an entry that is looked for has the owner, the number of parameters and the name
pub sought-is : (owner arity : ℕ) (name : Name) (entry : Entry)
    → is_sought owner arity name entry ≡ (is_eq (nat_cmp entry.owner owner) && (entry.arity == arity && bytes_eq entry.name name))
sought-is owner arity name entry =
    eq-then (nat_cmp entry.owner owner) (ordering_then (nat_cmp entry.arity arity) (slice_cmp nat_cmp entry.name name))
    ∙ ap (λ b. is_eq (nat_cmp entry.owner owner) && b) (
    eq-then (nat_cmp entry.arity arity) (slice_cmp nat_cmp entry.name name)
    ∙ (λ i. tied-numbers entry.arity arity i && tied-bytes entry.name name i)
    )

-- that of another owner is not
pub sought-of_other : (owner arity : ℕ) (name : Name) (entry : Entry) → entry.owner ≢ owner → is_sought owner arity name entry ≡ false
sought-of_other owner arity name entry differs = by_order (nat_cmp entry.owner owner) refl where
  by_order : (o : Ordering) → nat_cmp entry.owner owner ≡ o
      → is_eq (ordering_then o (ordering_then (nat_cmp entry.arity arity) (slice_cmp nat_cmp entry.name name))) ≡ false
  by_order Less is = refl
  by_order Equal is = absurd (differs (nat_cmp-IsAntisymmetric entry.owner owner is))
  by_order Greater is = refl
