-- Rows that `==` takes for equal are one, and rows are ordered as their faults are.
use Rattle.std.proofs.Common.{◌≡◌, Bool, true, refl, sym, ap, ◌∙◌, true≢false}
use Rattle.std.proofs.lemmas.Bool.{and_parts}
use Rattle.std.specs.Ordering.{is_eq, on, ordering_then, then_cmp}
use Rattle.std.specs.declared.cmp.Ordering.{Ordering}
use Rattle.std.specs.declared.cmp.Ordering.TheVariants.{Less, Equal, Greater}
use Rattle.mol_base.specs.Order.{id_cmp}
use Rattle.mol_faults_values.proofs.missing_faults_lemmas.Slots.{slot_cmp, slots-alike}
use Rattle.mol_faults_values.specs.missing_faults.Gone.{fault_of}
use Rattle.mol_faults_values.specs.contracts.missing_faults.gone.GonePartialEq as rows
use Rattle.mol_faults_values.specs.declared.missing_faults.gone.Gone.{Gone}
use Rattle.mol_spell_rules.specs.FaultList.{fault_cmp}
use Rattle.mol_table_rules.proofs.CellOrder.{cell_cmp-IsAntisymmetric}
use Rattle.mol_table_rules.proofs.Living.{id_tied}
use Rattle.mol_values_types.proofs.Ties.{cell_eq, cell_ties, id_ties}
use Rattle.mol_values_types.specs.Order.{cell_cmp, id_eq}
use Rattle.mol_values_types.specs.declared.cell.Cell.{Cell}

-- ---- equal rows

abbrev pub gone_eq : Gone → Gone → Bool
gone_eq = rows.TheImpl.eq-value.it

is-equal : (o : Ordering) → is_eq o ≡ true → o ≡ Equal
is-equal Less is = absurd (true≢false (sym is))
is-equal Equal is = refl
is-equal Greater is = absurd (true≢false (sym is))

cell-same : (first second : Cell) → cell_eq first second ≡ true → first ≡ second
cell-same first second is =
    cell_cmp-IsAntisymmetric first second (is-equal (cell_cmp first second) (sym (cell_ties first second) ∙ is))

pub gone-same : (first second : Gone) → gone_eq first second ≡ true → first ≡ second
gone-same first second is =
    let both = and_parts (cell_eq first.at second.at) (id_eq first.target second.target) is in
    let at = cell-same first.at second.at both.0 in
    let target = id_tied first.target second.target (sym (id_ties first.target second.target) ∙ both.1) in
    λ i. record { at = at i; target = target i }

-- ---- the order of rows

abbrev pub gone_cmp : Gone → Gone → Ordering
gone_cmp = then_cmp (on (λ gone. gone.at) (then_cmp (on (λ at. at.id) id_cmp) (on (λ at. at.slot) slot_cmp)))
    (on (λ gone. gone.target) id_cmp)

then-equal : (o : Ordering) → ordering_then o Equal ≡ o
then-equal Less = refl
then-equal Equal = refl
then-equal Greater = refl

then-assoc : (a b c : Ordering) → ordering_then a (ordering_then b c) ≡ ordering_then (ordering_then a b) c
then-assoc Less b c = refl
then-assoc Equal b c = refl
then-assoc Greater b c = refl

pub ordered-alike : (first second : Gone) → fault_cmp (fault_of first) (fault_of second) ≡ gone_cmp first second
ordered-alike first second =
    let at = id_cmp first.at.id second.at.id in
    let target = id_cmp first.target second.target in
    (λ i. ordering_then at (ordering_then (sym (slots-alike first.at.slot second.at.slot) i) (then-equal target i)))
    ∙ then-assoc at (slot_cmp first.at.slot second.at.slot) target
