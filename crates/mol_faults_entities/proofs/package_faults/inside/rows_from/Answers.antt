use Rattle.std.proofs.Common.{rules, List, ℕ, nat_cmp}
use Rattle.std.specs.Cmp.Lexicographic.{slice_cmp}
use Rattle.std.specs.Ordering.{is_lt}
use Rattle.std.proofs.lemmas.Cmp.{nat_list_cmp_total}
use Rattle.std.proofs.lemmas.List.Sorted.{IsPartitionPoint-from_clause}
use Rattle.jav_names.proofs.index_lemmas.Searched.{parted}
use Rattle.mol_faults_entities.specs.declared.package_faults.package_rows.PackageRow.{PackageRow}
use Rattle.mol_faults_entities.proofs.package_faults.inside.rows_from.Goals as goal

pub returns : goal.returns
returns c =
    let rows : List PackageRow = c.args.rows.now in
    let name : List ℕ = c.args.name.now in
    let place : ℕ = c.partition_point-place.result in
    record {
      place = place;
      within = c.partition_point-place.ensures.bound;
      parts = IsPartitionPoint-from_clause (λ (row : PackageRow). is_lt (slice_cmp nat_cmp row.dotted name)) rows place
          c.partition_point-place.ensures.partitioned (parted (slice_cmp nat_cmp) nat_list_cmp_total
          (λ (row : PackageRow). row.dotted) name rows c.requires)
          (λ a r q k. search rules);
      is = c.split_at.ensures.back;
    }
