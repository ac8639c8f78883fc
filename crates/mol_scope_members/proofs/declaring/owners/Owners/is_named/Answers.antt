use Rattle.std.proofs.Common.{◌≡◌, ◌∙◌, ℕ, Bool, rules, List, length, Some, slice_get, refl, sym, ap, subst, false}
use Rattle.std.specs.List.Sorted.{IsSorted}
use Rattle.std.specs.Ordering.{is_eq, is_lt}
use Rattle.std.specs.Prelude.{◌↔◌, IsTrue}
use Rattle.std.proofs.lemmas.List.Sorted.{IsPartitionPoint-from_clause}
use Rattle.std.proofs.lemmas.Option.{slice_get_past, slice_get_read}
use Rattle.jav_names.proofs.index_lemmas.Searched.{parted}
use Rattle.jav_names.specs.DottedNames.{Name}
use Rattle.mol_scope_members.specs.declaring.Owners.{IsNamed, Naming, naming_cmp, naming_of, place_cmp}
use Rattle.mol_scope_members.specs.declared.declaring.owner.PlacedOwner.{PlacedOwner}
use Rattle.mol_scope_members.proofs.declaring_lemmas.OwnersNamed.{named-past, named-there}
use Rattle.mol_scope_members.proofs.declaring_lemmas.OwnersPlaced.{by-naming, naming_cmp-total}
use Rattle.mol_scope_members.proofs.declaring.owners.Owners.is_named.Goals as goal

-- of the same owners and the same name
as-told : (b : Bool) (owners kept : List PlacedOwner) → owners ≡ kept → (arity : ℕ) (bytes name : Name) → bytes ≡ name
    → IsTrue b ↔ IsNamed owners (record { arity = arity; name = bytes }) → IsTrue b ↔ IsNamed kept (record { arity = arity; name = name })
as-told b owners kept same arity bytes name named is =
    subst (λ (os : List PlacedOwner). IsTrue b ↔ IsNamed os (record { arity = arity; name = name })) same
    (subst (λ (n : Name). IsTrue b ↔ IsNamed owners (record { arity = arity; name = n })) named is)

pub returns-in-Some : goal.returns-in-Some
returns-in-Some c =
    let owners : List PlacedOwner = c.as_slice-placed.result.now in
    let k : Naming = record { arity = c.args.arity; name = c.as_bytes-bytes.result.now } in
    let start = c.partition_point-start.result in
    let up = subst (IsSorted place_cmp) (sym c.as_slice-placed.ensures.value) c.requires in
    let point = IsPartitionPoint-from_clause (λ (o : PlacedOwner). is_lt (naming_cmp (naming_of o) k)) owners start
    c.partition_point-start.ensures.partitioned (parted naming_cmp naming_cmp-total naming_of k owners (by-naming owners up))
    (λ a r q k. search rules) in
    let there : slice_get owners start ≡ Some c.in-Some.owner.now =
    slice_get_read owners (length owners) start c.in-Some.owner.now refl c.in-Some.ensures.lookup.3.0 c.in-Some.ensures.lookup.1 in
    as-told c.is_eq.result owners _ c.as_slice-placed.ensures.value c.args.arity _ _ c.as_bytes-bytes.ensures.value
    (named-there owners up k start point c.in-Some.owner.now there c.is_eq.result (c.is_eq.ensures ∙ ap is_eq c.compare_naming.ensures))

pub returns-in-None : goal.returns-in-None
returns-in-None c =
    let owners : List PlacedOwner = c.as_slice-placed.result.now in
    let k : Naming = record { arity = c.args.arity; name = c.as_bytes-bytes.result.now } in
    let start = c.partition_point-start.result in
    let up = subst (IsSorted place_cmp) (sym c.as_slice-placed.ensures.value) c.requires in
    let point = IsPartitionPoint-from_clause (λ (o : PlacedOwner). is_lt (naming_cmp (naming_of o) k)) owners start
    c.partition_point-start.ensures.partitioned (parted naming_cmp naming_cmp-total naming_of k owners (by-naming owners up))
    (λ a r q k. search rules) in
    as-told false owners _ c.as_slice-placed.ensures.value c.args.arity _ _ c.as_bytes-bytes.ensures.value
    (named-past owners up k start point (slice_get_past owners start c.in-None.ensures.lookup.3))
