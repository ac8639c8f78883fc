use Rattle.std.proofs.Common.{◌≡◌, ◌∙◌, ◌-◌, ℕ, rules, List, length, map, take, Some, Contains, Equal, slice_get, sym, ap, subst, true≢false}
use Rattle.std.specs.Ordering.{is_eq, is_le}
use Rattle.std.proofs.lemmas.Cmp.{tied_itself}
use Rattle.std.proofs.lemmas.List.Sorted.{IsPartitionPoint-from_clause}
use Rattle.jav_names.proofs.index_lemmas.Searched.{equal-is}
use Rattle.jav_names.specs.DottedNames.{Name}
use Rattle.mol_base.specs.declared.ident.Id.{Id}
use Rattle.mol_table_rules.proofs.Counts.{none-some, some-same}
use Rattle.mol_scope_members.specs.declaring.Owners.{ArePlaced, IsNearest, path_cmp, path_of, place_cmp, placed_row}
use Rattle.mol_scope_members.specs.declared.declaring.nearest.Nearest.{Nearest}
use Rattle.mol_scope_members.specs.declared.declaring.owner.PlacedOwner.{PlacedOwner}
use Rattle.mol_scope_members.proofs.declaring_lemmas.OwnersNear.{found-low, nearest-found, nearest-top}
use Rattle.mol_scope_members.proofs.declaring_lemmas.OwnersPlaced.{parted-up-to, path-same, path_cmp-total}
use Rattle.mol_table_rules.specs.Program.{Program}
use Rattle.mol_scope_members.proofs.declaring.owners.Owners.nearest.Goals.{in_default-via-in-Some+else-is_eq, in_default-via-in_default}
use Rattle.mol_scope_members.proofs.declaring.owners.Owners.nearest.Goals as goal

-- of the same owners and the same name
as-told : (program : Program) (owners kept : List PlacedOwner) → owners ≡ kept → (arity : ℕ) (bytes name : Name) → bytes ≡ name
    → (class : Id) (nearest : Nearest)
    → IsNearest program (λ above. Contains (map placed_row owners) (record { arity = arity; name = bytes; class = above }) → ⊥) class nearest
    → IsNearest program (λ above. Contains (map placed_row kept) (record { arity = arity; name = name; class = above }) → ⊥) class nearest
as-told program owners kept same arity bytes name named class nearest is =
    subst (λ (os : List PlacedOwner). IsNearest program
    (λ above. Contains (map placed_row os) (record { arity = arity; name = name; class = above }) → ⊥) class nearest) same
    (subst (λ (n : Name). IsNearest program
    (λ above. Contains (map placed_row owners) (record { arity = arity; name = n; class = above }) → ⊥) class nearest) named is)

pub overflow_sub-result : goal.overflow_sub-result
overflow_sub-result c =
    let positions = c.args.paths.now.positions.entries in
    let sought : PlacedOwner = record {
      arity = c.args.arity;
      name = c.as_bytes.result;
      class = c.args.class.now;
      position = c.position.result;
    } in
    let owners : List PlacedOwner = c.as_slice-placed.result.now in
    let count = c.partition_point-count.result in
    let are = subst (ArePlaced positions) (sym c.as_slice-placed.ensures.value) c.requires in
    let point = IsPartitionPoint-from_clause (λ (o : PlacedOwner). is_le (place_cmp o sought)) owners count
    c.partition_point-count.ensures.partitioned (parted-up-to owners sought are.sorted) (λ a r q k. search rules) in
    let same = path-same (path_of c.in-Some.owner.now) (path_of sought)
    (equal-is (path_cmp (path_of c.in-Some.owner.now) (path_of sought)) (ap is_eq (sym c.compare_path.ensures) ∙ sym c.if-is_eq.ensures)) in
    found-low positions owners are c.args.class.now sought c.position.ensures count c.partition_point-count.ensures.bound point
    c.in-Some.owner.now (sym c.in-Some.ensures.value) same

pub returns-in-Some : goal.returns-in-Some
returns-in-Some c = λ program paths.
    let positions = c.args.paths.now.positions.entries in
    let sought : PlacedOwner = record {
      arity = c.args.arity;
      name = c.as_bytes.result;
      class = c.args.class.now;
      position = c.position.result;
    } in
    let owners : List PlacedOwner = c.as_slice-placed.result.now in
    let count = c.partition_point-count.result in
    let are = subst (ArePlaced positions) (sym c.as_slice-placed.ensures.value) c.requires in
    let point = IsPartitionPoint-from_clause (λ (o : PlacedOwner). is_le (place_cmp o sought)) owners count
    c.partition_point-count.ensures.partitioned (parted-up-to owners sought are.sorted) (λ a r q k. search rules) in
    let same = path-same (path_of c.in-Some.owner.now) (path_of sought)
    (equal-is (path_cmp (path_of c.in-Some.owner.now) (path_of sought)) (ap is_eq (sym c.compare_path.ensures) ∙ sym c.if-is_eq.ensures)) in
    as-told program owners _ c.as_slice-placed.ensures.value c.args.arity _ _ c.as_bytes.ensures.value c.args.class.now _
    (nearest-found positions owners are c.args.class.now sought c.position.ensures count c.partition_point-count.ensures.bound point
    program paths c.in-Some.owner.now (sym c.in-Some.ensures.value) same)

pub returns-in_default : goal.returns-in_default
returns-in_default c = λ program paths.
    let positions = c.args.paths.now.positions.entries in
    let sought : PlacedOwner = record {
      arity = c.args.arity;
      name = c.as_bytes.result;
      class = c.args.class.now;
      position = c.position.result;
    } in
    let owners : List PlacedOwner = c.as_slice-placed.result.now in
    let count = c.partition_point-count.result in
    let are = subst (ArePlaced positions) (sym c.as_slice-placed.ensures.value) c.requires in
    let point = IsPartitionPoint-from_clause (λ (o : PlacedOwner). is_le (place_cmp o sought)) owners count
    c.partition_point-count.ensures.partitioned (parted-up-to owners sought are.sorted) (λ a r q k. search rules) in
    let other : (last : PlacedOwner) → slice_get (take count owners) (length (take count owners) - 1) ≡ Some last
    → path_of last ≡ path_of sought → ⊥ = elim c.in_default.branch [
      | in_default-via-in-Some+else-is_eq w ↦ λ last is same.
          let equal : last ≡ w.in-Some.owner.now = some-same last w.in-Some.owner.now (sym is ∙ sym w.in-Some.ensures.value) in
          let tied : path_cmp (path_of w.in-Some.owner.now) (path_of sought) ≡ Equal =
          ap (path_cmp (path_of w.in-Some.owner.now)) (sym same ∙ ap path_of equal)
          ∙ tied_itself path_cmp-total (path_of w.in-Some.owner.now) in
          true≢false (sym (ap is_eq tied) ∙ ap is_eq (sym w.compare_path.ensures) ∙ sym w.if-is_eq.ensures)
      | in_default-via-in_default w ↦ λ last is same. none-some last (w.in_default.ensures.value ∙ is)
    ] in
    as-told program owners _ c.as_slice-placed.ensures.value c.args.arity _ _ c.as_bytes.ensures.value c.args.class.now _
    (nearest-top positions owners are c.args.class.now sought c.position.ensures count c.partition_point-count.ensures.bound point
    program paths other)
