-- What is looked for in an index is in a total order; and what an entry that is looked for has.
use Rattle.std.proofs.Common.{◌≡◌, ℕ, ◌==◌, ◌&&◌, List, ◌∙◌, ap, subst, refl, nat_cmp, Ordering, Less, Equal, Greater, bytes_eq}
use Rattle.std.specs.Bool.{Decides}
use Rattle.std.specs.Cmp.{IsTotalOrder, unsigned_tied}
use Rattle.std.specs.Cmp.Lexicographic.{slice_cmp}
use Rattle.std.specs.FinMap.{nat_cmp-IsAntisymmetric, slice_cmp-IsAntisymmetric}
use Rattle.std.specs.Ordering.{is_eq, ordering_then}
use Rattle.std.proofs.lemmas.Bool.Decides.{same_from_decides}
use Rattle.std.proofs.lemmas.Cmp.{on_total, then_total, nat_cmp_total, nat_list_cmp_total, tied_itself}
use Rattle.std.proofs.lemmas.Slice.Eq.{bytes_eq-Decides}
use Rattle.mol_base.specs.Order.{id_cmp, id_cmp-total}
use Rattle.mol_base.specs.declared.ident.Id.{Id}
use Rattle.jav_names.specs.DottedNames.{Name}
use Rattle.jav_names.proofs.index_lemmas.Searched.{equal-is}
use Rattle.jav_names.specs.id_index.Seeking.{Sought, sought_cmp, is_sought}
use Rattle.jav_names.specs.declared.id_index.entry.Entry.{Entry}

pub sought_cmp-total : IsTotalOrder sought_cmp
sought_cmp-total = then_total (on_total (λ (s : Sought). s.owner) id_cmp-total)
    (then_total (on_total (λ (s : Sought). s.arity) nat_cmp_total) (on_total (λ (s : Sought). s.name) nat_list_cmp_total))

eq-then : (a b : Ordering) → is_eq (ordering_then a b) ≡ (is_eq a && is_eq b)
eq-then Less b = refl
eq-then Equal b = refl
eq-then Greater b = refl

-- texts tie just where they are equal
tied-bytes : (a b : List ℕ) → is_eq (slice_cmp nat_cmp a b) ≡ bytes_eq a b
tied-bytes a b = same_from_decides (is_eq (slice_cmp nat_cmp a b)) (bytes_eq a b) ties (bytes_eq-Decides a b) where
  ties : Decides (is_eq (slice_cmp nat_cmp a b)) (a ≡ b)
  ties = (
    λ is. slice_cmp-IsAntisymmetric nat_cmp-IsAntisymmetric a b (equal-is (slice_cmp nat_cmp a b) is),
    λ same. ap is_eq (subst (λ c. slice_cmp nat_cmp a c ≡ Equal) same (tied_itself nat_list_cmp_total a)),
  )

-- an entry that is looked for has the owner, the number of parameters and the name
pub sought-is : (owner : Id) (arity : ℕ) (name : Name) (entry : Entry)
    → is_sought owner arity name entry ≡ (is_eq (id_cmp entry.owner owner) && (entry.arity == arity && bytes_eq entry.name name))
sought-is owner arity name entry =
    eq-then (id_cmp entry.owner owner) (ordering_then (nat_cmp entry.arity arity) (slice_cmp nat_cmp entry.name name))
    ∙ ap (λ b. is_eq (id_cmp entry.owner owner) && b) (
    eq-then (nat_cmp entry.arity arity) (slice_cmp nat_cmp entry.name name)
    ∙ (λ i. unsigned_tied entry.arity arity i && tied-bytes entry.name name i)
    )
