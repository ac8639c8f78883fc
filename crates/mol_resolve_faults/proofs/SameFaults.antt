-- What is kept of several faults depends alone on which there are.
use Rattle.std.proofs.Common.{◌≡◌, ◌≢◌, ◌⊎◌, inl, inr, List, [], ◌∷◌, ◌++◌, Contains, Option, Some, None, refl, sym, ◌∙◌, ap, subst, Ordering, Less, Equal, Greater, nat_cmp, slice_index_or}
use Rattle.std.specs.FinMap.{nat_cmp-IsAntisymmetric}
use Rattle.std.specs.Ordering.{ordering_reverse, ordering_then}
use Rattle.jav_names.proofs.Lists.{stands_first, stands_later, stands_where, stands_nowhere}
use Rattle.mol_resolve_rules.specs.FaultKinds.{FaultKind, every_kind, rank_of, path_differs, duplicate_class, package_is_class, super_cycle, import_clash, duplicate_member, overload_by_type, result_differs, static_hidden, redeclared, unknown_name, unknown_member, static_by_instance, receiver_type}
use Rattle.mol_resolve_rules.specs.Outcomes.{TreeFault}
use Rattle.mol_resolve_faults.specs.First.{tree_fault_cmp, noted, all_noted, KeptAlike}
use Rattle.mol_resolve_faults.proofs.FirstOfAll.{kept_first, kept_none}
use Rattle.mol_resolve_faults.proofs.KindOrder.{tree_fault_cmp-total}

kind_at : (kind default : FaultKind) → slice_index_or every_kind (rank_of kind) default ≡ kind
kind_at path_differs default = refl
kind_at duplicate_class default = refl
kind_at package_is_class default = refl
kind_at super_cycle default = refl
kind_at import_clash default = refl
kind_at duplicate_member default = refl
kind_at overload_by_type default = refl
kind_at result_differs default = refl
kind_at static_hidden default = refl
kind_at redeclared default = refl
kind_at unknown_name default = refl
kind_at unknown_member default = refl
kind_at static_by_instance default = refl
kind_at receiver_type default = refl

kind_same : (first second : FaultKind) → rank_of first ≡ rank_of second → first ≡ second
kind_same first second is = sym (kind_at first first) ∙ ap (λ rank. slice_index_or every_kind rank first) is ∙ kind_at second first

then_both : (a b : Ordering) → ordering_then a b ≡ Equal → (a ≡ Equal) × (b ≡ Equal)
then_both Less b e = absurd cc
then_both Equal b e = (refl, e)
then_both Greater b e = absurd cc

tied-same : (a b : TreeFault) → tree_fault_cmp a b ≡ Equal → a ≡ b
tied-same a b is =
    let parts = then_both (nat_cmp a.at b.at) (nat_cmp (rank_of a.kind) (rank_of b.kind)) is in
    let at : a.at ≡ b.at = nat_cmp-IsAntisymmetric a.at b.at parts.0 in
    let kind : a.kind ≡ b.kind = kind_same a.kind b.kind (nat_cmp-IsAntisymmetric (rank_of a.kind) (rank_of b.kind) parts.1) in
    λ i. record { kind = kind i; at = at i }

ties : (a b : TreeFault) → tree_fault_cmp a b ≢ Less → tree_fault_cmp b a ≢ Less → a ≡ b
ties a b not_before not_after = tied-same a b (by (tree_fault_cmp a b) refl) where
  by : (o : Ordering) → tree_fault_cmp a b ≡ o → tree_fault_cmp a b ≡ Equal
  by Less is = absurd (not_before is)
  by Equal is = is
  by Greater is = absurd (not_after (tree_fault_cmp-total.antisymm b a ∙ ap ordering_reverse is))

abbrev Within : List TreeFault → List TreeFault → Type 0
Within faults others = (fault : TreeFault) → Contains faults fault → Contains others fault

none-within : (faults : List TreeFault) → Within faults [] → all_noted None faults ≡ None
none-within [] within = refl
none-within (x ∷ xs) within = absurd (stands_nowhere x (within x (stands_first x xs)))

alike : (faults others : List TreeFault) → Within faults others → Within others faults → all_noted None faults ≡ all_noted None others
alike faults others there back = by (all_noted None faults) refl (all_noted None others) refl where
  by : (a : Option TreeFault) → all_noted None faults ≡ a → (b : Option TreeFault) → all_noted None others ≡ b
      → all_noted None faults ≡ all_noted None others
  by None is b isnt = is ∙ sym (none-within others (subst (λ xs. Within others xs) (kept_none faults is) back))
  by (Some a) is None isnt = none-within faults (subst (λ xs. Within faults xs) (kept_none others isnt) there) ∙ sym isnt
  by (Some a) is (Some b) isnt =
      let one = kept_first faults a is in
      let two = kept_first others b isnt in
      is ∙ ap (λ x. Some x) (ties a b (two.none_before a (there a one.among)) (one.none_before b (back b two.among))) ∙ sym isnt

longer : (first : TreeFault) (faults others : List TreeFault) → Within faults others → Within (first ∷ faults) (first ∷ others)
longer first faults others within fault at = by (stands_where first fault faults at) where
  by : (first ≡ fault) ⊎ Contains faults fault → Contains (first ∷ others) fault
  by (inl same) = subst (λ x. Contains (first ∷ others) x) same (stands_first first others)
  by (inr there) = stands_later first fault others (within fault there)

all-alike : (first : Option TreeFault) (faults others : List TreeFault) → Within faults others → Within others faults
    → all_noted first faults ≡ all_noted first others
all-alike None faults others there back = alike faults others there back
all-alike (Some first) faults others there back =
    alike (first ∷ faults) (first ∷ others) (longer first faults others there) (longer first others faults back)

in_turn : (first : Option TreeFault) (faults others : List TreeFault)
    → all_noted first (faults ++ others) ≡ all_noted (all_noted first faults) others
in_turn first [] others = refl
in_turn first (fault ∷ faults) others = in_turn (noted first fault) faults others

pub kept_alike : KeptAlike
kept_alike = record { alike = all-alike; in_turn = in_turn }
