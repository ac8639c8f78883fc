-- The order of slots as the code has it.
use Rattle.std.proofs.Common.{◌≡◌, ◌<◌, Bool, true, false, length, refl, sym, ap, ◌∙◌, arith, true≢false, nat_cmp}
use Rattle.std.proofs.lemmas.List.Folds.{list_all_at}
use Rattle.std.specs.List.{list_all}
use Rattle.std.specs.declared.cmp.Ordering.{Ordering}
use Rattle.std.specs.declared.cmp.Ordering.TheVariants.{Less, Equal, Greater}
use Rattle.mol_table_rules.proofs.CellOrder.{every_slot, slot_at}
use Rattle.mol_values_types.specs.Order.{slot_number}
use Rattle.mol_values_types.specs.contracts.cell.SlotOrd as slots
use Rattle.mol_values_types.specs.declared.cell.Slot.{Slot}
use Rattle.mol_values_types.specs.declared.cell.Slot.TheVariants.{Live, Package, Owner, Method, Name, Super, Result, Params, Kind, Fixed, Words, Notes, Body, Value}

abbrev pub slot_order : Slot → Slot → Ordering
slot_order = slots.TheImpl.cmp-value.it

abbrev same : Ordering → Ordering → Bool
same Less Less = true
same Equal Equal = true
same Greater Greater = true
same first second = false

same-is : (first second : Ordering) → same first second ≡ true → first ≡ second
same-is Less Less is = refl
same-is Equal Equal is = refl
same-is Greater Greater is = refl
same-is first second is = absurd (true≢false (sym is))

abbrev alike : Slot → Slot → Bool
alike first second = same (slot_order first second) (nat_cmp (slot_number first) (slot_number second))

all-alike : list_all (λ first. list_all (alike first) every_slot) every_slot ≡ true
all-alike = refl

slot-below : (slot : Slot) → slot_number slot < length every_slot
slot-below Live = omega arith
slot-below Package = omega arith
slot-below Owner = omega arith
slot-below Method = omega arith
slot-below Name = omega arith
slot-below Super = omega arith
slot-below Result = omega arith
slot-below Params = omega arith
slot-below Kind = omega arith
slot-below Fixed = omega arith
slot-below Words = omega arith
slot-below Notes = omega arith
slot-below Body = omega arith
slot-below Value = omega arith

passes : (test : Slot → Bool) → list_all test every_slot ≡ true → (slot : Slot) → test slot ≡ true
passes test all slot = by (test slot) refl where
  by : (b : Bool) → test slot ≡ b → test slot ≡ true
  by true is = is
  by false is = absurd (true≢false (sym all
      ∙ list_all_at test every_slot (slot_number slot) slot (slot-below slot) (ap test (slot_at slot slot) ∙ is)))

pub slots-alike : (first second : Slot) → slot_order first second ≡ nat_cmp (slot_number first) (slot_number second)
slots-alike first second =
    same-is (slot_order first second) (nat_cmp (slot_number first) (slot_number second))
    (passes (alike first) (passes (λ own. list_all (alike own) every_slot) all-alike first) second)
