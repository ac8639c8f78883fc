use Rattle.std.proofs.Common.{rules}
use Rattle.std.specs.Cmp.Lexicographic.{slice_cmp}
use Rattle.std.specs.Ordering.{nat_cmp}
use Rattle.std.proofs.lemmas.Cmp.{nat_list_cmp_total}
use Rattle.jav_names.proofs.index_lemmas.Searched.{sorted-by_closure}
use Rattle.mol_faults_entities.specs.declared.package_faults.package_rows.PackageRow.{PackageRow}
use Rattle.mol_faults_entities.proofs.package_faults_lemmas.PairsOrdered.{rows-permuted}
use Rattle.mol_faults_entities.proofs.package_faults.package_rows.package_rows.Goals as goal

pub returns-clause-sorted : goal.returns-clause-sorted
returns-clause-sorted c =
    sorted-by_closure (slice_cmp nat_cmp) nat_list_cmp_total (λ (row : PackageRow). row.dotted) (λ a r q k. search rules) _
    c.in_ok-sort_by.ensures.sorted

pub returns-clause-rows : goal.returns-clause-rows
returns-clause-rows c =
    rows-permuted c.args.table.now c.in_ok-rows.rows.items c.sort_by.new.self.items c.sort_by.ensures.permutation c.in_ok-rows.ensures
