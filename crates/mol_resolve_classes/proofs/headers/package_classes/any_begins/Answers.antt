use Rattle.std.proofs.Common.{rules, ◌≡◌, List, length, Some, slice_get, ℕ, refl, sym, ◌∙◌, ap, nat_cmp}
use Rattle.std.specs.Cmp.Lexicographic.{slice_cmp}
use Rattle.std.specs.Ordering.{is_lt}
use Rattle.std.proofs.lemmas.Cmp.{nat_list_cmp_total}
use Rattle.std.proofs.lemmas.List.Sorted.{IsPartitionPoint-from_clause}
use Rattle.std.proofs.lemmas.Option.{slice_get_past, slice_get_read}
use Rattle.jav_names.proofs.index_lemmas.Searched.{parted}
use Rattle.mol_resolve_classes.specs.headers.Packages.{begins}
use Rattle.mol_resolve_classes.proofs.headers_lemmas.Begun.{none-begins, first-begins}
use Rattle.mol_resolve_classes.proofs.headers.package_classes.any_begins.Goals as goal

pub returns-in-Some : goal.returns-in-Some
returns-in-Some c =
    let texts : List (List ℕ) = c.args.sorted.now in
    let front : List ℕ = c.args.front.now in
    let i : ℕ = c.partition_point-place.result in
    let start = IsPartitionPoint-from_clause (λ (text : List ℕ). is_lt (slice_cmp nat_cmp text front)) texts i
    c.partition_point-place.ensures.partitioned (parted (slice_cmp nat_cmp) nat_list_cmp_total (λ (z : List ℕ). z) front texts c.requires)
    (λ a r q k. search rules) in
    let there : slice_get texts i ≡ Some c.in-Some.text.now =
    slice_get_read texts (length texts) i c.in-Some.text.now refl c.in-Some.ensures.lookup.3.0 c.in-Some.ensures.lookup.1 in
    c.starts_with.ensures.value ∙ ap (begins front) c.bytes.ensures.bytes ∙ first-begins front texts c.requires i start c.in-Some.text.now there

pub returns-in-None : goal.returns-in-None
returns-in-None c =
    let texts : List (List ℕ) = c.args.sorted.now in
    let front : List ℕ = c.args.front.now in
    let i : ℕ = c.partition_point-place.result in
    let start = IsPartitionPoint-from_clause (λ (text : List ℕ). is_lt (slice_cmp nat_cmp text front)) texts i
    c.partition_point-place.ensures.partitioned (parted (slice_cmp nat_cmp) nat_list_cmp_total (λ (z : List ℕ). z) front texts c.requires)
    (λ a r q k. search rules) in
    sym (none-begins front texts c.requires i start (slice_get_past texts i c.in-None.ensures.lookup.3))
