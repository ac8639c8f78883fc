use Rattle.std.proofs.Common.{◌-◌, List, length, take, drop, rules}
use Rattle.std.specs.Ordering.{is_eq, is_lt}
use Rattle.std.proofs.lemmas.List.{take_rest}
use Rattle.std.proofs.lemmas.List.Sorted.{IsPartitionPoint-from_clause}
use Rattle.jav_names.proofs.index_lemmas.Searched.{parted}
use Rattle.mol_faults_entities.specs.override_faults.Declarations.{Naming, key_of, naming_cmp, naming_of}
use Rattle.mol_faults_entities.specs.override_faults.Overridden.{naming_at}
use Rattle.mol_faults_entities.specs.declared.override_faults.declaration.Declaration.{Declaration}
use Rattle.mol_faults_entities.proofs.override_faults_lemmas.Keys.{naming-order}
use Rattle.mol_faults_entities.proofs.override_faults_lemmas.NamedAlike.{by_naming, group-is, rivals-told, ties-first}
use Rattle.mol_faults_entities.proofs.override_faults.rivals.are_rivals.Goals as goal

pub returns : goal.returns
returns c =
    let rows = c.args.by_method.now in
    let k : Naming = naming_of (key_of c.args.key.now) in
    let start = c.partition_point-start.result in
    let count = c.partition_point-count.result in
    let later : List Declaration = take (length rows - start) (drop start rows) in
    let first = IsPartitionPoint-from_clause (λ (r : Declaration). is_lt (naming_cmp (naming_at r) k)) rows start
    c.partition_point-start.ensures.partitioned
    (parted naming_cmp naming-order.total naming_at k rows (by_naming rows c.requires)) (λ a r q k. search rules) in
    let is = take_rest rows start in
    let point = IsPartitionPoint-from_clause (λ (r : Declaration). is_eq (naming_cmp (naming_at r) k)) later count
    c.partition_point-count.ensures.partitioned (ties-first rows c.requires k start first later is) (λ a r q k. search rules) in
    rivals-told rows c.requires k (take count later) (group-is rows c.requires k start first later is count point) c.ends_differ.result
    c.ends_differ.ensures
