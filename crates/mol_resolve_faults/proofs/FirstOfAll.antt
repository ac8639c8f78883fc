-- What is kept of several faults is the first of them.
use Rattle.std.proofs.Common.{◌≡◌, ◌≢◌, ◌⊎◌, inl, inr, true, false, List, [], ◌∷◌, Contains, Option, Some, None, refl, sym, ◌∙◌, ap, subst, if◌then◌else◌, Ordering, Less, Equal, Greater}
use Rattle.std.specs.Ordering.{is_gt, is_lt, ordering_reverse}
use Rattle.std.proofs.lemmas.Bool.{false≢true}
use Rattle.std.proofs.lemmas.Cmp.{tied_itself, upto}
use Rattle.std.proofs.lemmas.Option.{none-some, same_Some}
use Rattle.jav_names.proofs.Lists.{stands_first, stands_later, stands_where, stands_nowhere}
use Rattle.mol_resolve_rules.specs.Outcomes.{TreeFault}
use Rattle.mol_resolve_faults.specs.First.{tree_fault_cmp, all_noted, IsFirst, FirstKept}
use Rattle.mol_resolve_faults.proofs.KindOrder.{tree_fault_cmp-total}

not_after : (x z : TreeFault) → tree_fault_cmp z x ≢ Less → is_gt (tree_fault_cmp x z) ≡ false
not_after x z not_less = by (tree_fault_cmp z x) refl where
  by : (o : Ordering) → tree_fault_cmp z x ≡ o → is_gt (tree_fault_cmp x z) ≡ false
  by Less is = absurd (not_less is)
  by Equal is = ap is_gt (tree_fault_cmp-total.antisymm x z ∙ ap ordering_reverse is)
  by Greater is = ap is_gt (tree_fault_cmp-total.antisymm x z ∙ ap ordering_reverse is)

after : (x z : TreeFault) → tree_fault_cmp z x ≡ Less → is_gt (tree_fault_cmp x z) ≡ true
after x z is = ap is_gt (tree_fault_cmp-total.antisymm x z ∙ ap ordering_reverse is)

itself : (x : TreeFault) → tree_fault_cmp x x ≢ Less
itself x is = let no : Less ≡ Equal = sym is ∙ tied_itself tree_fault_cmp-total x in absurd cc

-- what is found is the first of these
abbrev Kept : List TreeFault → Option TreeFault → Type 0
Kept faults found = (first : TreeFault) × ((found ≡ Some first) × IsFirst faults first)

alone : (x : TreeFault) → Kept (x ∷ []) (Some x)
alone x = (x, (refl, record { among = stands_first x []; none_before = λ y there. by y (stands_where x y [] there) })) where
  by : (y : TreeFault) → (x ≡ y) ⊎ Contains [] y → tree_fault_cmp y x ≢ Less
  by y (inl same) = subst (λ z. tree_fault_cmp z x ≢ Less) same (itself x)
  by y (inr there) = absurd (stands_nowhere y there)

-- one more, that goes before what was the first
before : (x z : TreeFault) (xs : List TreeFault) → tree_fault_cmp z x ≡ Less → Kept (z ∷ xs) (all_noted (Some z) xs)
    → Kept (x ∷ z ∷ xs) (all_noted (Some x) (z ∷ xs))
before x z xs less (first, (found, rest)) = (
  first,
  (
    ap (λ o. all_noted (if is_lt o then Some z else Some x) xs) less ∙ found,
    record { among = stands_later x first (z ∷ xs) rest.among; none_before = λ y there. by y (stands_where x y (z ∷ xs) there) },
  ),
) where
  by : (y : TreeFault) → (x ≡ y) ⊎ Contains (z ∷ xs) y → tree_fault_cmp y first ≢ Less
  by y (inl same) = subst (λ w. tree_fault_cmp w first ≢ Less) same
      (λ earlier. rest.none_before z (stands_first z xs) (tree_fault_cmp-total.trans z x first less earlier))
  by y (inr there) = rest.none_before y there

-- one more, that does not
behind : (x z : TreeFault) (xs : List TreeFault) → tree_fault_cmp z x ≢ Less → all_noted (Some x) (z ∷ xs) ≡ all_noted (Some x) xs
    → Kept (x ∷ xs) (all_noted (Some x) xs) → Kept (x ∷ z ∷ xs) (all_noted (Some x) (z ∷ xs))
behind x z xs not_less same (first, (found, rest)) = (
  first,
  (
    same ∙ found,
    record {
      among = met (stands_where x first xs rest.among);
      none_before = λ y there. by y (stands_where x y (z ∷ xs) there);
    },
  ),
)
  where
    met : (x ≡ first) ⊎ Contains xs first → Contains (x ∷ z ∷ xs) first
    met (inl same) = subst (λ w. Contains (x ∷ z ∷ xs) w) same (stands_first x (z ∷ xs))
    met (inr there) = stands_later x first (z ∷ xs) (stands_later z first xs there)

    not_last : tree_fault_cmp z first ≢ Less
    not_last less = absurd (false≢true (sym (upto tree_fault_cmp-total first x z
        (not_after first x (rest.none_before x (stands_first x xs))) (not_after x z not_less)) ∙ after first z less))

    next : (y : TreeFault) → (z ≡ y) ⊎ Contains xs y → tree_fault_cmp y first ≢ Less
    next y (inl same) = subst (λ w. tree_fault_cmp w first ≢ Less) same not_last
    next y (inr there) = rest.none_before y (stands_later x y xs there)

    by : (y : TreeFault) → (x ≡ y) ⊎ Contains (z ∷ xs) y → tree_fault_cmp y first ≢ Less
    by y (inl same) = rest.none_before y (subst (λ w. Contains (x ∷ xs) w) same (stands_first x xs))
    by y (inr there) = next y (stands_where z y xs there)

first_among : (xs : List TreeFault) (x : TreeFault) → Kept (x ∷ xs) (all_noted (Some x) xs)
first_among [] x = alone x
first_among (z ∷ xs) x = by (tree_fault_cmp z x) refl (first_among xs z) (first_among xs x) where
  by : (o : Ordering) → tree_fault_cmp z x ≡ o → Kept (z ∷ xs) (all_noted (Some z) xs) → Kept (x ∷ xs) (all_noted (Some x) xs)
      → Kept (x ∷ z ∷ xs) (all_noted (Some x) (z ∷ xs))
  by Less is here rest = before x z xs is here
  by Equal is here rest =
      behind x z xs (λ less. let no : Less ≡ Equal = sym less ∙ is in absurd cc)
      (ap (λ o. all_noted (if is_lt o then Some z else Some x) xs) is) rest
  by Greater is here rest =
      behind x z xs (λ less. let no : Less ≡ Greater = sym less ∙ is in absurd cc)
      (ap (λ o. all_noted (if is_lt o then Some z else Some x) xs) is) rest

pub kept_first : (faults : List TreeFault) (first : TreeFault) → all_noted None faults ≡ Some first → IsFirst faults first
kept_first [] first is = absurd cc
kept_first (x ∷ xs) first is =
    let found = first_among xs x in
    let same : found.0 ≡ first = same_Some found.0 first (sym found.1.0 ∙ is) in subst (λ y. IsFirst (x ∷ xs) y) same found.1.1

pub kept_none : (faults : List TreeFault) → all_noted None faults ≡ None → faults ≡ []
kept_none [] is = refl
kept_none (x ∷ xs) is = let found = first_among xs x in absurd (none-some found.0 (sym is ∙ found.1.0))

pub first_kept : FirstKept
first_kept = record { some = kept_first; none = kept_none }
