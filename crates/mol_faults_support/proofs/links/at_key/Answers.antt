use Rattle.std.proofs.Common.{◌-◌, List, length, take, drop, rules}
use Rattle.std.specs.Ordering.{is_eq, is_lt}
use Rattle.std.proofs.lemmas.List.{take_rest}
use Rattle.std.proofs.lemmas.List.Sorted.{IsPartitionPoint-from_clause}
use Rattle.jav_names.proofs.index_lemmas.Searched.{parted}
use Rattle.mol_base.specs.Order.{id_cmp, id_cmp-total}
use Rattle.mol_base.specs.declared.ident.Id.{Id}
use Rattle.mol_faults_support.specs.declared.link.Link.{Link}
use Rattle.mol_faults_support.proofs.Linked.{id-order}
use Rattle.mol_faults_support.proofs.Runs.{run-is, ties-first}
use Rattle.mol_faults_support.proofs.links.at_key.Goals as goal

pub returns : goal.returns
returns c =
    let links = c.args.links.now in
    let k = c.args.key.now in
    let key : Link → Id = λ (l : Link). l.key in
    let start = c.partition_point-start.result in
    let count = c.partition_point-count.result in
    let later : List Link = take (length links - start) (drop start links) in
    let first = IsPartitionPoint-from_clause (λ (l : Link). is_lt (id_cmp l.key k)) links start c.partition_point-start.ensures.partitioned
    (parted id_cmp id_cmp-total key k links c.requires) (λ a r q k. search rules) in
    let is = take_rest links start in
    let point = IsPartitionPoint-from_clause (λ (l : Link). is_eq (id_cmp l.key k)) later count
    c.partition_point-count.ensures.partitioned (ties-first id_cmp id-order key k links c.requires start first later is)
    (λ a r q k. search rules) in
    run-is id_cmp id-order key k links c.requires start first later is count c.partition_point-count.ensures.bound point
