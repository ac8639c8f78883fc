-- A list of cells in the order of the code, each once.
use Rattle.std.proofs.Common.{◌≡◌, ◌<◌, Bool, true, false, List, length, Contains, refl, sym, ap, ◌∙◌, subst, arith, true≢false, nat_cmp}
use Rattle.std.proofs.lemmas.List.Folds.{list_all_at}
use Rattle.std.specs.List.{list_all}
use Rattle.std.specs.List.Sorted.{IsStrictlySortedBy}
use Rattle.std.specs.Prelude.{◌↔◌}
use Rattle.std.specs.declared.cmp.Ordering.{Ordering}
use Rattle.std.specs.declared.cmp.Ordering.TheVariants.{Less, Equal, Greater}
use Rattle.mol_spell_rules.specs.FaultList.{Fault}
use Rattle.mol_spell_rules.specs.Support.{IsSupport}
use Rattle.mol_faults_support.specs.Rests.{RestsOn}
use Rattle.mol_table_rules.proofs.CellOrder.{every_slot, slot_at, cell_cmp-IsAntisymmetric}
use Rattle.mol_table_rules.proofs.Counts.{tied}
use Rattle.mol_table_rules.specs.Program.{Program}
use Rattle.mol_values_types.proofs.Ties.{cell_eq, cell_ties}
use Rattle.mol_values_types.specs.Order.{slot_number, cell_cmp}
use Rattle.mol_values_types.specs.contracts.cell.CellOrd as cells
use Rattle.mol_values_types.specs.contracts.cell.SlotOrd as slots
use Rattle.mol_values_types.specs.declared.cell.Cell.{Cell}
use Rattle.mol_values_types.specs.declared.cell.Slot.{Slot}
use Rattle.mol_values_types.specs.declared.cell.Slot.TheVariants.{Live, Package, Owner, Method, Name, Super, Result, Params, Kind, Fixed, Words, Notes, Body, Value}

-- ---- the order of slots, tried at each two of them

abbrev slot_order : Slot → Slot → Ordering
slot_order = slots.TheImpl.cmp-value.it

abbrev same : Ordering → Ordering → Bool
same Less Less = true
same Equal Equal = true
same Greater Greater = true
same first second = false

same-is : (first second : Ordering) → same first second ≡ true → first ≡ second
same-is Less Less is = refl
same-is Equal Equal is = refl
same-is Greater Greater is = refl
same-is first second is = absurd (true≢false (sym is))

abbrev alike : Slot → Slot → Bool
alike first second = same (slot_order first second) (nat_cmp (slot_number first) (slot_number second))

all-alike : list_all (λ first. list_all (alike first) every_slot) every_slot ≡ true
all-alike = refl

slot-below : (slot : Slot) → slot_number slot < length every_slot
slot-below Live = omega arith
slot-below Package = omega arith
slot-below Owner = omega arith
slot-below Method = omega arith
slot-below Name = omega arith
slot-below Super = omega arith
slot-below Result = omega arith
slot-below Params = omega arith
slot-below Kind = omega arith
slot-below Fixed = omega arith
slot-below Words = omega arith
slot-below Notes = omega arith
slot-below Body = omega arith
slot-below Value = omega arith

passes : (test : Slot → Bool) → list_all test every_slot ≡ true → (slot : Slot) → test slot ≡ true
passes test all slot = by (test slot) refl where
  by : (b : Bool) → test slot ≡ b → test slot ≡ true
  by true is = is
  by false is = absurd (true≢false (sym all
      ∙ list_all_at test every_slot (slot_number slot) slot (slot-below slot) (ap test (slot_at slot slot) ∙ is)))

slots-alike : (first second : Slot) → slot_order first second ≡ nat_cmp (slot_number first) (slot_number second)
slots-alike first second =
    same-is (slot_order first second) (nat_cmp (slot_number first) (slot_number second))
    (passes (alike first) (passes (λ own. list_all (alike own) every_slot) all-alike first) second)

-- ---- cells

abbrev cell_order : Cell → Cell → Ordering
cell_order = cells.TheImpl.cmp-value.it

cells-alike : (first second : Cell) → cell_order first second ≡ cell_cmp first second
cells-alike first second = rw (slots-alike first.slot second.slot) refl

pub same-cell : (first second : Cell) → cell_eq first second ≡ true → first ≡ second
same-cell first second is =
    cell_cmp-IsAntisymmetric first second (tied (cell_cmp first second) (sym (cell_ties first second) ∙ is))

module _ (program : Program) (fault : Fault) (found kept : List Cell) (rests : RestsOn program fault found)
    (ascends : IsStrictlySortedBy cell_order kept) (same : (at : Cell) → Contains kept at ↔ Contains found at) where
  pub support-is : IsSupport program fault kept
  support-is = record {
    ascending = subst (λ order. IsStrictlySortedBy order kept) (λ i first second. cells-alike first second i) ascends;
    each = λ at. (
      λ stands. (rests at).0 ((same at).0 stands),
      λ supports. (same at).1 ((rests at).1 supports),
    );
  }
