use Rattle.std.proofs.Common.{◌≡◌, List, map, sym, subst}
use Rattle.std.specs.List.Sorted.{IsSortedBy}
use Rattle.std.specs.Prelude.{Result, Ok, Err, IfOk}
use Rattle.mol_faults_rules.specs.Kept.{kept_fault}
use Rattle.mol_faults_rules.specs.OfKind.{AreOfKind}
use Rattle.mol_faults_rules.specs.declared.fault.Fault.{Fault as Kept}
use Rattle.mol_faults_entities.specs.package_faults.Packages.{comes_before, HasRows}
use Rattle.mol_faults_entities.specs.package_faults.Pairs.{fault_of}
use Rattle.mol_faults_entities.specs.declared.package_faults.inside.Inside.{Inside}
use Rattle.mol_faults_entities.specs.declared.package_faults.package_rows.PackageRow.{PackageRow}
use Rattle.mol_faults_entities.proofs.package_faults_lemmas.PackagesListed.{packages-listed}
use Rattle.mol_faults_entities.proofs.package_faults_lemmas.PairsOrdered.{inside-same}
use Rattle.mol_faults_entities.proofs.package_faults.package_classes.package_is_class.Goals as goal

if-ok : {A E : Type 0} (r : Result A E) (P Q : A → Type 0) → ((x : A) → P x → Q x) → IfOk r P → IfOk r Q
if-ok (Ok x) P Q from is = from x is
if-ok (Err e) P Q from is = is

pub pairs-requires-clause-sorted : goal.pairs-requires-clause-sorted
pairs-requires-clause-sorted c =
    subst (λ (rows : List PackageRow). IsSortedBy comes_before rows) (sym c.as_slice.ensures.value) c.in_ok-rows.ensures.sorted

pub pairs-requires-clause-rows : goal.pairs-requires-clause-rows
pairs-requires-clause-rows c =
    subst (HasRows c.args.table.now) (sym c.as_slice.ensures.value) c.in_ok-rows.ensures.rows

pub in_order-requires : goal.in_order-requires
in_order-requires c = inside-same

pub returns : goal.returns
returns c =
    let program = c.args.table.now in
    let found : List Inside = c.in_ok-found.found.items in
    let ordered : List Inside = c.in_order.result.items in
    if-ok c.faults_of.result (λ (faults : List Kept). map kept_fault faults ≡ map fault_of ordered)
    (λ (faults : List Kept). AreOfKind program 7 (map kept_fault faults))
    (λ faults is. subst (AreOfKind program 7) (sym is) (packages-listed program found ordered c.in_ok-found.ensures
    c.in_order.ensures.ascending c.in_order.ensures.same))
    c.faults_of.ensures
