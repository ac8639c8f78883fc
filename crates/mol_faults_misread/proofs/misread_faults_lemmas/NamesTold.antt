-- Whether a misread name is this one.
use Rattle.std.proofs.Common.{◌≡◌, ◌⊎◌, ◌≢◌, inl, inr, ℕ, ◌==◌, Bool, true, false, ◌&&◌, refl, sym, ◌∙◌, ap, true≢false}
use Rattle.std.proofs.lemmas.Bool.{and_parts}
use Rattle.std.proofs.lemmas.Bool.Decides.{eqb_tells}
use Rattle.std.proofs.lemmas.Slice.Eq.{bytes_eq-Decides}
use Rattle.std.specs.Cmp.{eq_by_cmp_equiv}
use Rattle.std.specs.Ordering.{eq_by_cmp}
use Rattle.mol_faults_misread.proofs.misread_faults_lemmas.SameRows.{is-equal, number-same}
use Rattle.mol_faults_misread.specs.misread_faults.Found.{Found, is_name, same_target}
use Rattle.mol_spell_rules.specs.FaultList.{FaultTarget, entity, default_of, local_of, outside_of}
use Rattle.mol_table_rules.proofs.CellOrder.{cell_cmp-IsAntisymmetric, cell_cmp-total}
use Rattle.mol_table_rules.proofs.Living.{same_id-own, id_tied}
use Rattle.mol_values_types.specs.Order.{cell_cmp}
use Rattle.mol_values_types.specs.declared.cell.Cell.{Cell}

number-own : (number : ℕ) → (number == number) ≡ true
number-own number = by (eqb_tells number number) where
  by : (((number == number) ≡ true) × (number ≡ number)) ⊎ (((number == number) ≡ false) × (number ≢ number)) → (number == number) ≡ true
  by (inl same) = same.0
  by (inr apart) = absurd (apart.1 refl)

target-own : (target : FaultTarget) → same_target target target ≡ true
target-own (entity id) = same_id-own id
target-own (default_of class) = same_id-own class
target-own (local_of number) = number-own number
target-own (outside_of text) = (bytes_eq-Decides text text).1 refl

target-same : (first second : FaultTarget) → same_target first second ≡ true → first ≡ second
target-same (entity first) (entity second) is = ap (λ id. entity id) (id_tied first second is)
target-same (default_of first) (default_of second) is = ap (λ id. default_of id) (id_tied first second is)
target-same (local_of first) (local_of second) is = ap (λ number. local_of number) (number-same first second is)
target-same (outside_of first) (outside_of second) is = ap (λ text. outside_of text) ((bytes_eq-Decides first second).0 is)
target-same first second is = absurd (true≢false (sym is))

-- it is
pub record Is (at : Cell) (number : ℕ) (target : FaultTarget) (found : Found) : Type 0 where
  pub same_at : at ≡ found.at
  pub same_number : number ≡ found.name.number
  pub same_target : target ≡ found.name.target

pub name-same : (at : Cell) (number : ℕ) (target : FaultTarget) (found : Found) → is_name at number target found ≡ true
    → Is at number target found
name-same at number target found is =
    let both = and_parts _ _ is in
    let rest = and_parts (number == found.name.number) (same_target target found.name.target) both.1 in
    record {
      same_at = cell_cmp-IsAntisymmetric at found.at (is-equal (cell_cmp at found.at) both.0);
      same_number = number-same number found.name.number rest.0;
      same_target = target-same target found.name.target rest.1;
    }

pub name-own : (found : Found) → is_name found.at found.name.number found.name.target found ≡ true
name-own found = (λ i. own-cell found.at i && (number-own found.name.number i && target-own found.name.target i)) where
  own-cell : (at : Cell) → eq_by_cmp cell_cmp at at ≡ true
  own-cell at = (eq_by_cmp_equiv cell_cmp-total).refl at
