use Rattle.std.proofs.Common.{◌-◌, List, length, take, drop, rules}
use Rattle.std.specs.Ordering.{is_eq, is_lt}
use Rattle.std.proofs.lemmas.List.{take_rest}
use Rattle.std.proofs.lemmas.List.Sorted.{IsPartitionPoint-from_clause}
use Rattle.jav_names.proofs.index_lemmas.Searched.{parted}
use Rattle.mol_faults.specs.Names.{Place, place, place_cmp, place_of}
use Rattle.mol_faults.proofs.NamesSorted.{place-order}
use Rattle.mol_faults_misread.specs.declared.misread_faults.names.MisreadName.{MisreadName}
use Rattle.mol_faults_support.proofs.Runs.{run-is, ties-first}
use Rattle.mol_faults.proofs.names.names_at.Goals as goal

pub returns : goal.returns
returns c =
    let names = c.args.names.now in
    let k : Place = place c.args.at.now c.args.number in
    let start = c.partition_point-start.result in
    let count = c.partition_point-count.result in
    let later : List MisreadName = take (length names - start) (drop start names) in
    let first = IsPartitionPoint-from_clause (λ (n : MisreadName). is_lt (place_cmp (place_of n) k)) names start
    c.partition_point-start.ensures.partitioned (parted place_cmp place-order.total place_of k names c.requires)
    (λ a r q k. search rules) in
    let is = take_rest names start in
    let point = IsPartitionPoint-from_clause (λ (n : MisreadName). is_eq (place_cmp (place_of n) k)) later count
    c.partition_point-count.ensures.partitioned (ties-first place_cmp place-order place_of k names c.requires start first later is)
    (λ a r q k. search rules) in
    run-is place_cmp place-order place_of k names c.requires start first later is count c.partition_point-count.ensures.bound point
