-- The order of faults, and clean programs as those without a fault.
use Rattle.std.proofs.Common.{◌≡◌, ℕ, ◌==◌, List, [], ◌∷◌, Contains, refl, sym, ◌∙◌, ap, subst, rules, slice_index_or, if◌then◌else◌}
use Rattle.std.specs.Cmp.{IsTotalOrder}
use Rattle.std.specs.Cmp.Rules.{comparing}
use Rattle.std.specs.FinMap.{IsAntisymmetric, nat_cmp-IsAntisymmetric, slice_cmp-IsAntisymmetric}
use Rattle.jav_names.specs.Views.{IsKeyOrder}
use Rattle.mol_base.specs.Order.{id_cmp-IsAntisymmetric}
use Rattle.mol_base.specs.declared.ident.Id.{Id}
use Rattle.mol_table_rules.specs.Program.{Program}
use Rattle.mol_table_rules.proofs.CellOrder.{every_slot, slot_at}
use Rattle.mol_values_types.specs.Order.{slot_number}
use Rattle.mol_values_types.specs.declared.cell.Cell.{Cell}
use Rattle.mol_values_types.specs.declared.cell.Slot.{Slot}
use Rattle.mol_values_types.specs.declared.cell.Slot.TheVariants as slots
use Rattle.mol_spell_rules.proofs.FilesOrdered.{then_both}
use Rattle.mol_spell_rules.specs.Clean.{Clean}
use Rattle.mol_spell_rules.specs.FaultList.{FaultTarget, entity, default_of, local_of, outside_of, fault_target, Fault, same_address, false_override, apart, outside_name, missing, misread, local_clash, package_is_class, IsFault, by_address, by_override, by_place, by_outside_name, by_absence, by_reading, by_local, by_package, FaultKey, fault_key_cmp, fault_key}

-- ---- keys of faults

fault_key_cmp-total : IsTotalOrder fault_key_cmp
fault_key_cmp-total = search (comparing, rules) depth 24

fault_key_cmp-IsAntisymmetric : IsAntisymmetric fault_key_cmp
fault_key_cmp-IsAntisymmetric x y e =
    let a = then_both _ _ e in
    let b = then_both _ _ a.1 in
    let c = then_both _ _ b.1 in
    let d = then_both _ _ c.1 in
    let f = then_both _ _ d.1 in
    let g = then_both _ _ f.1 in
    let h = then_both _ _ g.1 in
    let kind = nat_cmp-IsAntisymmetric x.kind y.kind a.0 in
    let first = id_cmp-IsAntisymmetric x.first y.first b.0 in
    let slot = nat_cmp-IsAntisymmetric x.slot y.slot c.0 in
    let number = nat_cmp-IsAntisymmetric x.number y.number d.0 in
    let target = nat_cmp-IsAntisymmetric x.target y.target f.0 in
    let second = id_cmp-IsAntisymmetric x.second y.second g.0 in
    let local = nat_cmp-IsAntisymmetric x.local y.local h.0 in
    let text = slice_cmp-IsAntisymmetric nat_cmp-IsAntisymmetric x.text y.text h.1 in
    λ i. record {
      kind = kind i;
      first = first i;
      slot = slot i;
      number = number i;
      target = target i;
      second = second i;
      local = local i;
      text = text i;
    }

-- ---- a fault is told by its key

abbrev slot_of : ℕ → Slot
slot_of number = slice_index_or every_slot number slots.Live

abbrev cell_of : FaultKey → Cell
cell_of key = record { id = key.first; slot = slot_of key.slot }

abbrev target_by : ℕ → FaultKey → FaultTarget
target_by kind key = if kind == 0 then entity key.second else if kind == 1 then default_of key.second
    else if kind == 2 then local_of key.local else outside_of key.text

abbrev fault_by : ℕ → FaultKey → Fault
fault_by kind key = if kind == 0 then same_address key.first key.second else if kind == 1 then false_override key.first key.second
    else if kind == 2 then apart key.first else if kind == 3 then outside_name key.first
    else if kind == 4 then missing (cell_of key) key.second
    else if kind == 5 then misread (cell_of key) key.number (target_by key.target key)
    else if kind == 6 then local_clash (cell_of key) key.text else package_is_class key.first key.second

abbrev fault_of : FaultKey → Fault
fault_of key = fault_by key.kind key

abbrev cell_at : Id → ℕ → Cell
cell_at id slot = record { id = id; slot = slot_of slot }

cell-kept : (at : Cell) → cell_at at.id (slot_number at.slot) ≡ at
cell-kept at = λ i. record { id = at.id; slot = slot_at at.slot slots.Live i }

misread-kept : (at : Cell) (number : ℕ) (target : FaultTarget) → fault_of (fault_key (misread at number target)) ≡ misread at number target
misread-kept at number (entity id) = ap (λ at. misread at number (entity id)) (cell-kept at)
misread-kept at number (default_of class) = ap (λ at. misread at number (default_of class)) (cell-kept at)
misread-kept at number (local_of local) = ap (λ at. misread at number (local_of local)) (cell-kept at)
misread-kept at number (outside_of text) = ap (λ at. misread at number (outside_of text)) (cell-kept at)

fault-kept : (fault : Fault) → fault_of (fault_key fault) ≡ fault
fault-kept (same_address first second) = refl
fault-kept (false_override first second) = refl
fault-kept (apart method) = refl
fault-kept (outside_name method) = refl
fault-kept (missing at target) = ap (λ at. missing at target) (cell-kept at)
fault-kept (misread at number target) = misread-kept at number target
fault-kept (local_clash at name) = ap (λ at. local_clash at name) (cell-kept at)
fault-kept (package_is_class class inside) = refl

pub fault-IsKeyOrder : IsKeyOrder fault_key_cmp
fault-IsKeyOrder = record { total = fault_key_cmp-total; same = fault_key_cmp-IsAntisymmetric }

pub fault-same : (first second : Fault) → fault_key first ≡ fault_key second → first ≡ second
fault-same first second same = sym (fault-kept first) ∙ ap fault_of same ∙ fault-kept second

-- ---- clean programs

pub is-clean : (program : Program) → ((fault : Fault) → ¬ (IsFault program fault)) → Clean program
is-clean program none = record {
  addresses = λ first second h. none (same_address first second) (by_address h);
  overrides = λ first second h. none (false_override first second) (by_override h);
  together = λ method h. none (apart method) (by_place h);
  names = λ method h. none (outside_name method) (by_outside_name h);
  present = λ at target h. none (missing at target) (by_absence h);
  read = λ at number target h. none (misread at number (fault_target target)) (by_reading h);
  locals = λ at name h. none (local_clash at name) (by_local h);
  packages = λ class inside h. none (package_is_class class inside) (by_package h);
}

pub has-none : (program : Program) → Clean program → (fault : Fault) → ¬ (IsFault program fault)
has-none program clean (same_address first second) (by_address h) = clean.addresses first second h
has-none program clean (false_override first second) (by_override h) = clean.overrides first second h
has-none program clean (apart method) (by_place h) = clean.together method h
has-none program clean (outside_name method) (by_outside_name h) = clean.names method h
has-none program clean (missing at target) (by_absence h) = clean.present at target h
has-none program clean (misread at number target) (by_reading {target = recorded} h) = clean.read at number recorded h
has-none program clean (local_clash at name) (by_local h) = clean.locals at name h
has-none program clean (package_is_class class inside) (by_package h) = clean.packages class inside h
