-- Pairs that `==` takes for equal are one; and rows in another order.
use Rattle.std.proofs.Common.{◌≡◌, Bool, true, List, sym, ◌∙◌}
use Rattle.std.proofs.lemmas.Bool.{and_parts}
use Rattle.std.proofs.lemmas.List.Sorted.{Contains-permutation, IsPermutation-sym}
use Rattle.std.specs.List.Sorted.{IsPermutation}
use Rattle.mol_table_rules.proofs.Living.{id_tied}
use Rattle.mol_table_rules.specs.Program.{Program}
use Rattle.mol_values_types.proofs.Ties.{id_ties}
use Rattle.mol_values_types.specs.Order.{id_eq}
use Rattle.mol_faults_entities.specs.package_faults.Packages.{HasRows}
use Rattle.mol_faults_entities.specs.contracts.package_faults.inside.InsidePartialEq as insides
use Rattle.mol_faults_entities.specs.declared.package_faults.inside.Inside.{Inside}
use Rattle.mol_faults_entities.specs.declared.package_faults.package_rows.PackageRow.{PackageRow}

abbrev inside_eq : Inside → Inside → Bool
inside_eq = insides.TheImpl.eq-value.it

pub inside-same : (x y : Inside) → inside_eq x y ≡ true → x ≡ y
inside-same x y is =
    let both = and_parts (id_eq x.class y.class) (id_eq x.inside y.inside) is in
    let class = id_tied x.class y.class (sym (id_ties x.class y.class) ∙ both.0) in
    let inside = id_tied x.inside y.inside (sym (id_ties x.inside y.inside) ∙ both.1) in
    λ i. record { class = class i; inside = inside i }

-- rows in another order
pub rows-permuted : (program : Program) (rows sorted : List PackageRow) → IsPermutation rows sorted → HasRows program rows
    → HasRows program sorted
rows-permuted program rows sorted permuted has row = (
  λ stands. (has row).0 (Contains-permutation sorted rows row (IsPermutation-sym rows sorted permuted) stands),
  λ is. Contains-permutation rows sorted row permuted ((has row).1 is),
)
