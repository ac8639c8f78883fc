-- Rows that `==` takes for equal are one.
use Rattle.std.proofs.Common.{◌≡◌, Bool, true, ◌==◌, sym, ◌∙◌}
use Rattle.std.specs.Cmp.Lexicographic.{pointwise, bytes_decides}
use Rattle.std.proofs.lemmas.Bool.{and_parts}
use Rattle.mol_faults_values.specs.contracts.local_faults.clash.ClashPartialEq as rows
use Rattle.mol_faults_values.specs.declared.local_faults.clash.Clash.{Clash}
use Rattle.mol_table_rules.proofs.Living.{id_tied}
use Rattle.mol_values_types.proofs.Ties.{id_ties}
use Rattle.mol_values_types.specs.Order.{id_eq}

abbrev pub clash_eq : Clash → Clash → Bool
clash_eq = rows.TheImpl.eq-value.it

pub clash-same : (first second : Clash) → clash_eq first second ≡ true → first ≡ second
clash-same first second is =
    let both = and_parts (id_eq first.declaration second.declaration) (pointwise ◌==◌ first.name second.name) is in
    let declaration = id_tied first.declaration second.declaration
    (sym (id_ties first.declaration second.declaration) ∙ both.0) in
    let name = (bytes_decides first.name second.name).0 both.1 in
    λ i. record { declaration = declaration i; name = name i }
