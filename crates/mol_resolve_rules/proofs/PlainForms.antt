-- Files read as at most one program in plain form.
use Rattle.std.proofs.Common.{◌≡◌, Bool, true, false, Option, Some, None, is_some, refl, sym, ◌∙◌, ap, subst, true≢false}
use Rattle.std.specs.FinMap.{get, same_map}
use Rattle.mol_base.specs.Order.{id_cmp-total, id_cmp-IsAntisymmetric}
use Rattle.mol_base.specs.declared.ident.Id.{Id}
use Rattle.mol_table_rules.specs.Program.{Program, value_at}
use Rattle.mol_table_rules.proofs.CellOrder.{cell_cmp-total, cell_cmp-IsAntisymmetric}
use Rattle.mol_values_types.specs.Slots.{has_slot}
use Rattle.mol_values_types.specs.declared.cell.Slot.{Slot}
use Rattle.mol_values_types.specs.declared.known.Known.{Known}
use Rattle.mol_resolve_rules.specs.Expected.{known_of, value_of}
use Rattle.mol_resolve_rules.specs.Files.{Files}
use Rattle.mol_resolve_rules.specs.Laws.{PlainForms}
use Rattle.mol_resolve_rules.specs.Numbering.{Numbered, id_at}
use Rattle.mol_resolve_rules.specs.ReadAs.{SaysValue, equal_value, Holds, HoldsWhatIsSaid, IsPlain}

none-is : {A : Type 0} (o : Option A) → is_some o ≡ false → o ≡ None
none-is None is = refl
none-is (Some a) is = absurd (true≢false is)

module _ (files : Files) where
  -- what one program in plain form knows, each of them knows
  known-too : (first second : Program) → IsPlain files first → IsPlain files second → (id : Id) (known : Known)
      → get first.known id ≡ Some known → get second.known id ≡ Some known
  known-too first second plain other id known is =
      let found = plain.numbered.only id known is in
      let here = plain.numbered.each found.0 found.1.0 in
      let there = other.numbered.each found.0 found.1.0 in
      subst (λ at. get second.known at ≡ Some known) found.1.1
      (there.1.1 ∙ sym there.1.0 ∙ here.1.0 ∙ sym here.1.1 ∙ ap (get first.known) found.1.1 ∙ is)

  known-same : (first second : Program) → IsPlain files first → IsPlain files second → (id : Id)
      → get first.known id ≡ get second.known id
  known-same first second plain other id = by (get first.known id) refl (get second.known id) refl where
    by : (a : Option Known) → get first.known id ≡ a → (b : Option Known) → get second.known id ≡ b → a ≡ b
    by None none None absent = refl
    by (Some known) is b is-b = sym (known-too first second plain other id known is) ∙ is-b
    by None none (Some known) is = sym none ∙ known-too second first other plain id known is

  -- a cell of a program in plain form holds what the files say
  cell-said : (program : Program) → IsPlain files program → (id : Id) (slot : Slot) (item : Numbered) → id_at files item ≡ id
      → Holds (λ said held. held ≡ said) program (id_at files item) slot (value_of files item slot)
      → value_at program id slot ≡ value_of files item slot
  cell-said program plain id slot item at held =
      subst (λ here. value_at program here slot ≡ value_of files item slot) at
      (held.holds ∙ ap (λ value. Some value) held.agree ∙ sym held.says)

  module _ (first second : Program) (plain : IsPlain files first) (other : IsPlain files second) where
    cell-same : (id : Id) (slot : Slot) → value_at first id slot ≡ value_at second id slot
    cell-same id slot = by (get first.known id) refl (has_slot (get first.known id) slot) refl where
      -- neither has such a cell
      neither : has_slot (get first.known id) slot ≡ false → value_at first id slot ≡ value_at second id slot
      neither lacks = none-is (value_at first id slot) (plain.whole id slot ∙ lacks)
          ∙ sym (none-is (value_at second id slot)
          (other.whole id slot ∙ ap (λ known. has_slot known slot) (sym (known-same first second plain other id)) ∙ lacks))

      by : (known : Option Known) → get first.known id ≡ known → (b : Bool) → has_slot (get first.known id) slot ≡ b
          → value_at first id slot ≡ value_at second id slot
      by known is false lacks = neither lacks
      by None is true has = absurd (true≢false (sym has ∙ ap (λ known. has_slot known slot) is))
      by (Some known) is true has =
          let found = plain.numbered.only id known is in
          let here = plain.numbered.each found.0 found.1.0 in
          let slotted : has_slot (known_of files found.0) slot ≡ true
          = ap (λ known. has_slot known slot) (here.1.0 ∙ sym here.1.1 ∙ ap (get first.known) found.1.1) ∙ has in
          cell-said first plain id slot found.0 found.1.1 (plain.holds found.0 found.1.0 slot slotted)
          ∙ sym (cell-said second other id slot found.0 found.1.1 (other.holds found.0 found.1.0 slot slotted))

    one_plain : first ≡ second
    one_plain =
        let cells = same_map cell_cmp-total cell_cmp-IsAntisymmetric first.cells second.cells (λ cell. cell-same cell.id cell.slot) in
        let known = same_map id_cmp-total id_cmp-IsAntisymmetric first.known second.known (known-same first second plain other) in
        λ i. record { cells = cells i; known = known i }

plain_holds : (files : Files) (program : Program) → IsPlain files program → HoldsWhatIsSaid files program
plain_holds files program plain item stands slot has =
    let held = plain.holds item stands slot has in record {
      text = held.text;
      held = held.held;
      says = held.says;
      holds = held.holds;
      agree = subst (λ value. SaysValue held.text value) (sym held.agree) equal_value;
    }

pub plain_forms : PlainForms
plain_forms = record { holds = plain_holds; unique = one_plain }
