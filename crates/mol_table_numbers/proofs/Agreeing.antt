-- Agreement at what lives, and sameness.
use Rattle.std.specs.Prelude.{◌≡◌, ℕ, ◌+◌, ◌<◌, ◌≤◌, Bool, true, false, ◌&&◌, List, length, Option, None, Some, is_some, IsTrue}
use Rattle.std.proofs.Common.{refl, sym, ap, subst, ◌∙◌, arith, get_or}
use Rattle.std.proofs.Math.Nat.{eq-or-lt_of_le}
use Rattle.std.proofs.Math.Seq.{drop-cons}
use mathlib.Core.Logic.{inl, inr}
use Rattle.std.specs.List.{All}
use Rattle.std.specs.FinMap.{get}
use Rattle.mol_base.specs.declared.ident.Id.{Id}
use Rattle.mol_table_numbers.specs.Agreement.{LivingAgree}
use Rattle.mol_table_rules.specs.Life.{entity_in, is_living_entity, lives}
use Rattle.mol_values_types.specs.Order.{slot_number}
use Rattle.mol_table_rules.proofs.CellOrder.{every_slot, slot_at}
use Rattle.mol_table_rules.specs.Program.{Program}
use Rattle.mol_table_rules.specs.Sameness.{Same}
use Rattle.mol_values_types.specs.declared.cell.Slot.{Slot}
use Rattle.mol_values_types.specs.declared.cell.Slot.TheVariants as slots
use Rattle.mol_values_types.specs.declared.known.Known.{Known}

slot_below : (slot : Slot) → slot_number slot < 14
slot_below slots.Live = omega arith
slot_below slots.Package = omega arith
slot_below slots.Owner = omega arith
slot_below slots.Method = omega arith
slot_below slots.Name = omega arith
slot_below slots.Super = omega arith
slot_below slots.Result = omega arith
slot_below slots.Params = omega arith
slot_below slots.Kind = omega arith
slot_below slots.Fixed = omega arith
slot_below slots.Words = omega arith
slot_below slots.Notes = omega arith
slot_below slots.Body = omega arith
slot_below slots.Value = omega arith

pub all_slots : (P : Slot → Type 0) → All P every_slot → (slot : Slot) → P slot
all_slots P all slot = subst P (slot_at slot slot) (all (slot_number slot) slot (slot_below slot))

-- an entity that lives is known
pub living-known : (program : Program) (id : Id) → IsTrue (is_living_entity program id) → is_some (get program.known id) ≡ true
living-known program id living = by (get program.known id) (lives program id) living where
  by : (o : Option Known) (b : Bool) → IsTrue (is_some (entity_in o) && b) → is_some o ≡ true
  by None b is = absurd cc
  by (Some known) b is = refl

pub same_from : (first second : Program) → LivingAgree first second → LivingAgree second first → Same first second
same_from first second there back = record {
  living = λ id. by id (is_living_entity first id) refl (is_living_entity second id) refl;
  agree = λ id slot living. (there id).agree living slot;
} where
  by : (id : Id) (b : Bool) → is_living_entity first id ≡ b → (c : Bool) → is_living_entity second id ≡ c → is_living_entity first id ≡ is_living_entity second id
  by id true is c other = is ∙ sym ((there id).living is)
  by id false is true other = (back id).living other ∙ sym other
  by id false is false other = is ∙ sym other

pub agree_from : (first second : Program) → Same first second → LivingAgree first second
agree_from first second same id = record { living = λ living. sym (same.living id) ∙ living; agree = λ living slot. same.agree id slot living }

pub agree_back : (first second : Program) → Same first second → LivingAgree second first
agree_back first second same id = record { living = λ living. same.living id ∙ living; agree = λ living slot. sym (same.agree id slot (same.living id ∙ living)) }

-- what holds at each place below one, and at that place, holds below the next
pub below-next : (P : Id → Type 0) (ids : List Id) (i : ℕ) (at : Id) → i < length ids → at ≡ get_or ids i at → P at
    → ((k : ℕ) (d : Id) → k < i → P (get_or ids k d)) → (k : ℕ) (d : Id) → k < i + 1 → P (get_or ids k d)
below-next P ids i at within is here below k d next =
    let most : k ≤ i = omega (arith, next) in
    elim (eq-or-lt_of_le most) [
      | inl e ↦ subst P (is ∙ any-default i at d within ∙ ap (λ n. get_or ids n d) (sym e)) here
      | inr l ↦ below k d l
    ]
  where
    any-default : (n : ℕ) (x y : Id) → n < length ids → get_or ids n x ≡ get_or ids n y
    any-default n x y within = ap (λ xs. get_or xs 0 x) (sym (drop-cons ids n x within) ∙ drop-cons ids n y within)
