-- Types are in a total order, and their order tells which of them are equal.
use Rattle.std.proofs.Common.{◌≡◌, ℕ, Bool, true, false, ◌&&◌, ◌||◌, not, List, [], ◌∷◌, refl, sym, ◌∙◌, ap, subst, nat_cmp, Ordering, Less, Equal, Greater, bytes_eq}
use Rattle.std.specs.Bool.{Decides}
use Rattle.std.specs.Cmp.{IsTotalOrder}
use Rattle.std.specs.Cmp.Lexicographic.{slice_cmp}
use Rattle.std.specs.FinMap.{nat_cmp-IsAntisymmetric, slice_cmp-IsAntisymmetric}
use Rattle.std.specs.List.{list_any}
use Rattle.std.specs.Ordering.{is_eq, ordering_then}
use Rattle.std.proofs.lemmas.Bool.Decides.{same_from_decides}
use Rattle.std.proofs.lemmas.Cmp.{on_total, lists_total, nat_list_cmp_total, tied_itself}
use Rattle.std.proofs.lemmas.Slice.Eq.{bytes_eq-Decides}
use Rattle.jav_names.specs.StaticTypes.{same_type, is_unread}
use Rattle.jav_names.specs.Views.{ViewType, primitive_type, void_type, class_type, outside_type, array_type, unread_type}
use Rattle.jav_names.proofs.index_lemmas.Searched.{equal-is}
use Rattle.mol_resolve_rules.specs.FaultLists.{same_types}
use Rattle.mol_resolve_classes.specs.signatures.TypeOrder.{rank_of, numbers_of, type_cmp, types_cmp}

pub types_cmp-total : IsTotalOrder types_cmp
types_cmp-total = lists_total (on_total numbers_of nat_list_cmp_total)

-- ---- tests

pub eq-then : (a b : Ordering) → is_eq (ordering_then a b) ≡ (is_eq a && is_eq b)
eq-then Less b = refl
eq-then Equal b = refl
eq-then Greater b = refl

pub tied-bytes : (a b : List ℕ) → is_eq (slice_cmp nat_cmp a b) ≡ bytes_eq a b
tied-bytes a b = same_from_decides (is_eq (slice_cmp nat_cmp a b)) (bytes_eq a b) ties (bytes_eq-Decides a b) where
  ties : Decides (is_eq (slice_cmp nat_cmp a b)) (a ≡ b)
  ties = (
    λ is. slice_cmp-IsAntisymmetric nat_cmp-IsAntisymmetric a b (equal-is (slice_cmp nat_cmp a b) is),
    λ same. ap is_eq (subst (λ c. slice_cmp nat_cmp a c ≡ Equal) same (tied_itself nat_list_cmp_total a)),
  )

with-true : (b : Bool) → b ≡ (b && true)
with-true true = refl
with-true false = refl

then-equal : (o : Ordering) → is_eq o ≡ is_eq (ordering_then o Equal)
then-equal Less = refl
then-equal Equal = refl
then-equal Greater = refl

in-pairs : (a b c d : Bool) → ((a && not c) && (b && not d)) ≡ ((a && b) && not (c || d))
in-pairs false b c d = refl
in-pairs true true true d = refl
in-pairs true true false d = refl
in-pairs true false true d = refl
in-pairs true false false d = refl

-- ---- types that are equal

same-type : (a b : ViewType ℕ) → same_type nat_cmp a b ≡ (is_eq (type_cmp a b) && not (is_unread b))
same-type (primitive_type a) (primitive_type b) = sym (tied-bytes a b) ∙ with-true (is_eq (slice_cmp nat_cmp a b))
same-type void_type void_type = refl
same-type (class_type a) (class_type b) =
    then-equal (nat_cmp a b) ∙ with-true (is_eq (ordering_then (nat_cmp a b) Equal))
same-type (outside_type a) (outside_type b) = sym (tied-bytes a b) ∙ with-true (is_eq (slice_cmp nat_cmp a b))
same-type (array_type a) (array_type b) = same-type a b
same-type unread_type unread_type = refl
same-type a b = refl

-- lists of types are equal where they tie and each of the types is known
pub same-types : (xs ys : List (ViewType ℕ)) → same_types nat_cmp xs ys ≡ (is_eq (types_cmp xs ys) && not (list_any is_unread ys))
same-types [] [] = refl
same-types [] (y ∷ ys) = refl
same-types (x ∷ xs) [] = refl
same-types (x ∷ xs) (y ∷ ys) =
    (λ i. same-type x y i && same-types xs ys i)
    ∙ in-pairs (is_eq (type_cmp x y)) (is_eq (types_cmp xs ys)) (is_unread y) (list_any is_unread ys)
    ∙ ap (λ b. b && not (is_unread y || list_any is_unread ys)) (sym (eq-then (type_cmp x y) (types_cmp xs ys)))

-- types of different ranks compare by these
pub by-rank : (a b : ViewType ℕ) → (rank_of a ≡ rank_of b → type_cmp a b ≡ Equal) → nat_cmp (rank_of a) (rank_of b) ≡ type_cmp a b
by-rank (primitive_type a) (primitive_type b) same = sym (same refl)
by-rank void_type void_type same = refl
by-rank (class_type a) (class_type b) same = sym (same refl)
by-rank (outside_type a) (outside_type b) same = sym (same refl)
by-rank (array_type a) (array_type b) same = sym (same refl)
by-rank unread_type unread_type same = refl
by-rank a b same = refl
