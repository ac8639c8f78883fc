use Rattle.std.proofs.Common.{rules, ◌≡◌, ◌∙◌, sym, ap, find, true, false, List, length, Some, None, slice_get, subst, refl, ℕ}
use Rattle.std.specs.List.Sorted.{IsSortedBy}
use Rattle.std.specs.Ordering.{is_lt, is_eq}
use Rattle.std.proofs.lemmas.List.Sorted.{IsPartitionPoint-from_clause}
use Rattle.std.proofs.lemmas.Option.{slice_get_past, slice_get_read}
use Rattle.jav_names.specs.index.Spelled.{spelled}
use Rattle.jav_names.specs.index.Seeking.{Sought, sought_of, sought_cmp, is_sought}
use Rattle.jav_names.specs.declared.index.entry.Entry.{Entry}
use Rattle.jav_names.proofs.index_lemmas.Searched.{parted, found-there, found-past, found-nowhere}
use Rattle.jav_names.proofs.index_lemmas.Sought.{sought_cmp-total}
use Rattle.jav_names.proofs.index.index.Index.first.Goals.{in_default-via-in-Some+else-is_eq, in_default-via-in_default}
use Rattle.jav_names.proofs.index.index.Index.first.Goals as goal

pub returns-in-Some : goal.returns-in-Some
returns-in-Some c =
    let k : Sought = record { owner = c.args.owner; arity = c.args.arity; name = spelled c.args.name.now } in
    let xs : List Entry = c.as_slice-entries.result.now in
    let place : ℕ = c.partition_point-place.result in
    let value : xs ≡ c.args.self.now = c.as_slice-entries.ensures.value ∙ c.self.view_is in
    let up : IsSortedBy (λ (x y : Entry). is_lt (sought_cmp (sought_of x) (sought_of y))) xs =
    subst (λ (es : List Entry). IsSortedBy (λ (x y : Entry). is_lt (sought_cmp (sought_of x) (sought_of y))) es)
    (sym c.as_slice-entries.ensures.value) c.self.invariant in
    let point = IsPartitionPoint-from_clause (λ (e : Entry). is_lt (sought_cmp (sought_of e) k)) xs place
    c.partition_point-place.ensures.partitioned (parted sought_cmp sought_cmp-total sought_of k xs up) (λ a r q k. search rules) in
    let here : is_eq (sought_cmp (sought_of c.in-Some.entry.now) k) ≡ true =
    ap is_eq (sym c.compare.ensures) ∙ sym (c.if-is_eq.ensures) in
    let there : slice_get xs place ≡ Some c.in-Some.entry.now =
    slice_get_read xs (length xs) place c.in-Some.entry.now refl c.in-Some.ensures.lookup.3.0 c.in-Some.ensures.lookup.1 in
    sym (found-there sought_cmp sought_cmp-total sought_of k xs place point c.in-Some.entry.now there here)
    ∙ ap (find (is_sought k.owner k.arity k.name)) value

pub returns-in_default : goal.returns-in_default
returns-in_default c =
    let k : Sought = record { owner = c.args.owner; arity = c.args.arity; name = spelled c.args.name.now } in
    let xs : List Entry = c.as_slice-entries.result.now in
    let place : ℕ = c.partition_point-place.result in
    let value : xs ≡ c.args.self.now = c.as_slice-entries.ensures.value ∙ c.self.view_is in
    let up : IsSortedBy (λ (x y : Entry). is_lt (sought_cmp (sought_of x) (sought_of y))) xs =
    subst (λ (es : List Entry). IsSortedBy (λ (x y : Entry). is_lt (sought_cmp (sought_of x) (sought_of y))) es)
    (sym c.as_slice-entries.ensures.value) c.self.invariant in
    let point = IsPartitionPoint-from_clause (λ (e : Entry). is_lt (sought_cmp (sought_of e) k)) xs place
    c.partition_point-place.ensures.partitioned (parted sought_cmp sought_cmp-total sought_of k xs up) (λ a r q k. search rules) in
    elim c.in_default.branch [
      | in_default-via-in-Some+else-is_eq w ↦
          let here : is_eq (sought_cmp (sought_of w.in-Some.entry.now) k) ≡ false =
          ap is_eq (sym w.compare.ensures) ∙ sym w.if-is_eq.ensures in
          let there : slice_get xs place ≡ Some w.in-Some.entry.now =
          slice_get_read xs (length xs) place w.in-Some.entry.now refl w.in-Some.ensures.lookup.3.0 w.in-Some.ensures.lookup.1 in
          sym (found-nowhere sought_cmp sought_cmp-total sought_of k xs place point w.in-Some.entry.now there here up)
          ∙ ap (find (is_sought k.owner k.arity k.name)) value
      | in_default-via-in_default w ↦
          let past : slice_get xs place ≡ None = slice_get_past xs place w.in_default.ensures.lookup.3 in
          sym (found-past sought_cmp sought_cmp-total sought_of k xs place point past)
          ∙ ap (find (is_sought k.owner k.arity k.name)) value
    ]
