use Rattle.std.proofs.Common.{rules, ◌≡◌, ◌∙◌, sym, ap, List, length, Some, None, slice_get, subst, refl, ℕ}
use Rattle.std.specs.List.{list_any}
use Rattle.std.specs.List.Sorted.{IsSortedBy}
use Rattle.std.specs.Ordering.{is_lt}
use Rattle.std.proofs.lemmas.List.Sorted.{IsPartitionPoint-from_clause}
use Rattle.std.proofs.lemmas.Option.{slice_get_past, slice_get_read}
use Rattle.jav_names.proofs.index_lemmas.Searched.{parted}
use Rattle.mol_resolve_classes.specs.signatures.Repeats.{repeats}
use Rattle.mol_resolve_classes.specs.signatures.SignatureOrder.{signature_cmp}
use Rattle.mol_resolve_classes.specs.declared.signatures.signature.Signature.{Signature}
use Rattle.mol_resolve_classes.proofs.signatures_lemmas.Repeated.{signature_cmp-total, least, nothing-there, told-by_first}
use Rattle.mol_resolve_classes.proofs.signatures.signatures.Signatures.is_repeated.Goals as goal

pub returns-in-Some : goal.returns-in-Some
returns-in-Some c =
    let s : Signature = c.args.member.now in
    let xs : List Signature = c.as_slice-members.result.now in
    let i : ℕ = c.partition_point-start.result in
    let value : xs ≡ c.args.self.now = c.as_slice-members.ensures.value ∙ c.self.view_is in
    let up : IsSortedBy (λ (x y : Signature). is_lt (signature_cmp x y)) xs =
    subst (λ (zs : List Signature). IsSortedBy (λ (x y : Signature). is_lt (signature_cmp x y)) zs)
    (sym c.as_slice-members.ensures.value) c.self.invariant in
    let start = IsPartitionPoint-from_clause (λ (x : Signature). is_lt (signature_cmp x (least s))) xs i
    c.partition_point-start.ensures.partitioned (parted signature_cmp signature_cmp-total (λ (z : Signature). z) (least s) xs up)
    (λ a r q k. search rules) in
    let there : slice_get xs i ≡ Some c.in-Some.first.now =
    slice_get_read xs (length xs) i c.in-Some.first.now refl c.in-Some.ensures.lookup.3.0 c.in-Some.ensures.lookup.1 in
    c.repeats.ensures ∙ told-by_first s xs up i start c.in-Some.first.now there ∙ ap (list_any (repeats s)) value

pub returns-in-None : goal.returns-in-None
returns-in-None c =
    let s : Signature = c.args.member.now in
    let xs : List Signature = c.as_slice-members.result.now in
    let i : ℕ = c.partition_point-start.result in
    let value : xs ≡ c.args.self.now = c.as_slice-members.ensures.value ∙ c.self.view_is in
    let up : IsSortedBy (λ (x y : Signature). is_lt (signature_cmp x y)) xs =
    subst (λ (zs : List Signature). IsSortedBy (λ (x y : Signature). is_lt (signature_cmp x y)) zs)
    (sym c.as_slice-members.ensures.value) c.self.invariant in
    let start = IsPartitionPoint-from_clause (λ (x : Signature). is_lt (signature_cmp x (least s))) xs i
    c.partition_point-start.ensures.partitioned (parted signature_cmp signature_cmp-total (λ (z : Signature). z) (least s) xs up)
    (λ a r q k. search rules) in
    let past : slice_get xs i ≡ None = slice_get_past xs i c.in-None.ensures.lookup.3 in
    sym (nothing-there s xs up i start past) ∙ ap (list_any (repeats s)) value
