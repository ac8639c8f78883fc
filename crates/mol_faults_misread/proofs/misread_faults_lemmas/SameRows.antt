-- Rows that `==` takes for equal are one, and rows are ordered as their faults are.
use Rattle.std.proofs.Common.{◌≡◌, ◌≢◌, ◌⊎◌, inl, inr, ℕ, Bool, true, false, ◌==◌, ◌&&◌, refl, sym, ap, ◌∙◌, true≢false, nat_cmp}
use Rattle.std.proofs.lemmas.Bool.{and_parts}
use Rattle.std.proofs.lemmas.Bool.Decides.{eqb_tells}
use Rattle.std.specs.Cmp.Lexicographic.{bytes_decides, slice_cmp}
use Rattle.std.specs.Ordering.{is_eq, ordering_then}
use Rattle.std.specs.declared.cmp.Ordering.{Ordering}
use Rattle.std.specs.declared.cmp.Ordering.TheVariants.{Less, Equal, Greater}
use Rattle.mol_base.specs.Order.{id_cmp}
use Rattle.mol_faults_misread.specs.misread_faults.Found.{fault_of, named_of}
use Rattle.mol_faults_misread.specs.contracts.misread_faults.row.NamedOrd as named_order
use Rattle.mol_faults_misread.specs.contracts.misread_faults.row.NamedPartialEq as named_equality
use Rattle.mol_faults_misread.specs.contracts.misread_faults.row.RowOrd as row_order
use Rattle.mol_faults_misread.specs.contracts.misread_faults.row.RowPartialEq as row_equality
use Rattle.mol_faults_misread.specs.declared.misread_faults.row.Named.{Named}
use Rattle.mol_faults_misread.specs.declared.misread_faults.row.Named.TheVariants.{Entity, Default, Local, Outside}
use Rattle.mol_faults_misread.specs.declared.misread_faults.row.Row.{Row}
use Rattle.mol_faults_values.proofs.missing_faults_lemmas.Slots.{slot_cmp, slots-alike}
use Rattle.mol_spell_rules.specs.FaultList.{FaultKey, fault_cmp, fault_key, fault_key_cmp, misread, no_id, pair_key, target_key}
use Rattle.mol_table_rules.proofs.CellOrder.{cell_cmp-IsAntisymmetric}
use Rattle.mol_table_rules.proofs.Living.{id_tied}
use Rattle.mol_values_types.proofs.Ties.{cell_eq, cell_ties, id_ties}
use Rattle.mol_values_types.specs.Order.{cell_cmp, slot_number}
use Rattle.mol_values_types.specs.declared.cell.Cell.{Cell}

-- ---- equal rows

abbrev pub named_eq : Named → Named → Bool
named_eq = named_equality.TheImpl.eq-value.it

abbrev pub row_eq : Row → Row → Bool
row_eq = row_equality.TheImpl.eq-value.it

pub number-same : (first second : ℕ) → (first == second) ≡ true → first ≡ second
number-same first second is = by (eqb_tells first second) where
  by : (((first == second) ≡ true) × (first ≡ second)) ⊎ (((first == second) ≡ false) × (first ≢ second)) → first ≡ second
  by (inl same) = same.1
  by (inr apart) = absurd (true≢false (sym is ∙ apart.0))

named-same : (first second : Named) → named_eq first second ≡ true → first ≡ second
named-same (Entity first) (Entity second) is = ap (λ id. Entity id) (id_tied first second (sym (id_ties first second) ∙ is))
named-same (Default first) (Default second) is = ap (λ id. Default id) (id_tied first second (sym (id_ties first second) ∙ is))
named-same (Local first) (Local second) is = ap (λ number. Local number) (number-same first second is)
named-same (Outside first) (Outside second) is = ap (λ text. Outside text) ((bytes_decides first second).0 is)
named-same first second is = absurd (true≢false (sym is))

pub is-equal : (o : Ordering) → is_eq o ≡ true → o ≡ Equal
is-equal Less is = absurd (true≢false (sym is))
is-equal Equal is = refl
is-equal Greater is = absurd (true≢false (sym is))

cell-same : (first second : Cell) → cell_eq first second ≡ true → first ≡ second
cell-same first second is =
    cell_cmp-IsAntisymmetric first second (is-equal (cell_cmp first second) (sym (cell_ties first second) ∙ is))

pub row-same : (first second : Row) → row_eq first second ≡ true → first ≡ second
row-same first second is =
    let both = and_parts (cell_eq first.at second.at) ((first.number == second.number) && named_eq first.target second.target) is in
    let rest = and_parts (first.number == second.number) (named_eq first.target second.target) both.1 in
    λ i. record {
      at = cell-same first.at second.at both.0 i;
      number = number-same first.number second.number rest.0 i;
      target = named-same first.target second.target rest.1 i;
    }

-- ---- the order of rows

abbrev pub named_cmp : Named → Named → Ordering
named_cmp = named_order.TheImpl.cmp-value.it

abbrev pub row_cmp : Row → Row → Ordering
row_cmp = row_order.TheImpl.cmp-value.it

then-equal : (o : Ordering) → ordering_then o Equal ≡ o
then-equal Less = refl
then-equal Equal = refl
then-equal Greater = refl

then-assoc : (a b c : Ordering) → ordering_then a (ordering_then b c) ≡ ordering_then (ordering_then a b) c
then-assoc Less b c = refl
then-assoc Equal b c = refl
then-assoc Greater b c = refl

-- the key of a target alone
abbrev own_key : Named → FaultKey
own_key target = target_key (named_of target) (pair_key 5 no_id no_id)

abbrev whole_key : Row → FaultKey
whole_key row = record (own_key row.target) {
  kind = 5;
  first = row.at.id;
  slot = slot_number row.at.slot;
  number = row.number;
}

key-is : (at : Cell) (number : ℕ) (target : Named)
    → fault_key (misread at number (named_of target)) ≡ whole_key (record { at = at; number = number; target = target })
key-is at number (Entity id) = refl
key-is at number (Default class) = refl
key-is at number (Local local) = refl
key-is at number (Outside text) = refl

-- the order of targets, by the parts of their keys
abbrev own_cmp : FaultKey → FaultKey → Ordering
own_cmp first second = ordering_then (nat_cmp first.target second.target) (ordering_then (id_cmp first.second second.second)
    (ordering_then (nat_cmp first.local second.local) (slice_cmp nat_cmp first.text second.text)))

targets-alike : (first second : Named) → own_cmp (own_key first) (own_key second) ≡ named_cmp first second
targets-alike (Entity first) (Entity second) = then-equal (id_cmp first second)
targets-alike (Default first) (Default second) = then-equal (id_cmp first second)
targets-alike (Local first) (Local second) = then-equal (nat_cmp first second)
targets-alike (Outside first) (Outside second) = refl
targets-alike first second = refl

pub ordered-alike : (first second : Row) → fault_cmp (fault_of first) (fault_of second) ≡ row_cmp first second
ordered-alike first second =
    let at = id_cmp first.at.id second.at.id in
    let slot = slot_cmp first.at.slot second.at.slot in
    let number = nat_cmp first.number second.number in
    (λ i. fault_key_cmp (key-is first.at first.number first.target i) (key-is second.at second.number second.target i))
    ∙ (λ i. ordering_then at (ordering_then (sym (slots-alike first.at.slot second.at.slot) i)
    (ordering_then number (targets-alike first.target second.target i))))
    ∙ then-assoc at slot (ordering_then number (named_cmp first.target second.target))
