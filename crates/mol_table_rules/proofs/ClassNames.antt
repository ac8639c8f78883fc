-- A class may be given another name.
use Rattle.std.proofs.Common.{◌≡◌, ◌==◌, ℕ, List, refl, sym, ap, subst, ◌∙◌, Bool, true, false, cond, ◌&&◌, Some, is_some, IsTrue}
use Rattle.std.specs.Ordering.{eq_by_cmp}
use Rattle.std.specs.FinMap.{get, get-insert}
use Rattle.mol_base.specs.Order.{id_cmp}
use Rattle.mol_base.specs.declared.ident.Id.{Id}
use Rattle.mol_table_rules.specs.Forms.{has_form}
use Rattle.mol_values_types.specs.Order.{cell_cmp, slot_number}
use Rattle.mol_table_rules.proofs.CellOrder.{cell_cmp-total, cell_cmp-IsAntisymmetric}
use Rattle.mol_table_rules.specs.Program.{Program, same_id, cell, value_at}
use Rattle.mol_table_rules.specs.Rules.{IsProgram, is_declared, refers_rightly}
use Rattle.mol_values_types.specs.Slots.{has_slot}
use Rattle.mol_values_types.specs.TokenForms.{is_name}
use Rattle.mol_table_rules.specs.Writes.{with_value}
use Rattle.mol_values_types.specs.declared.cell.Cell.{Cell}
use Rattle.mol_values_types.specs.declared.cell.Slot.{Slot}
use Rattle.mol_values_types.specs.declared.cell.Slot.TheVariants as slots
use Rattle.mol_values_types.specs.declared.known.Known.{Known}
use Rattle.mol_values_types.specs.declared.known.Known.TheVariants as knowns
use Rattle.mol_values_types.specs.declared.value.Value.{Value}
use Rattle.mol_values_types.specs.declared.value.Value.TheVariants as values
use Rattle.mol_table_rules.proofs.Counts.{tied}
use Rattle.mol_table_rules.proofs.NewClasses.{both-tied}
use Rattle.mol_table_rules.proofs.Writing.{cells-kept}

module _ (program : Program) (rules : IsProgram program) (id : Id) (class : get program.known id ≡ Some knowns.Class) (name : List ℕ) (named : is_name name ≡ true) where
  abbrev at : Cell
  at = cell id slots.Name

  abbrev after : Program
  after = with_value program at (values.Name name)

  -- a class has a name
  pub name-there : is_some (get program.cells at) ≡ true
  name-there = rules.whole id slots.Name ∙ ap (λ o. has_slot o slots.Name) class

  -- the other slots keep their values
  kept : (q : Id) (slot : Slot) → (slot_number slot == 4) ≡ false → value_at after q slot ≡ value_at program q slot
  kept q slot apart =
      get-insert cell_cmp-total program.cells at (values.Name name) (cell q slot)
      ∙ ap (λ b. cond b (Some (values.Name name)) (value_at program q slot)) (both-tied (id_cmp q id) (slot_number slot) 4 ∙ ap (λ b. same_id q id && b) apart ∙ none (same_id q id))
    where
      none : (b : Bool) → (b && false) ≡ false
      none true = refl
      none false = refl

  -- a value in a cell is the new name, or stood there
  by-value : {A : Type 0} (here : Cell) (value : Value) → get after.cells here ≡ Some value → (here ≡ at → values.Name name ≡ value → A) → (get program.cells here ≡ Some value → A) → A
  by-value {A = A} here value holds new old = by (eq_by_cmp cell_cmp here at) refl (sym (get-insert cell_cmp-total program.cells at (values.Name name) here) ∙ holds) where
    by : (b : Bool) → eq_by_cmp cell_cmp here at ≡ b → cond b (Some (values.Name name)) (get program.cells here) ≡ Some value → A
    by true e is = new (cell_cmp-IsAntisymmetric here at (tied _ e)) (same is) where
      same : Some (values.Name name) ≡ Some value → values.Name name ≡ value
      same both = cc
    by false e is = old is

  forms-after : (q : Id) (slot : Slot) (known : Known) (value : Value) → get after.known q ≡ Some known → value_at after q slot ≡ Some value → IsTrue (has_form known slot value)
  forms-after q slot known value is holds =
      by-value (cell q slot) value holds
      (λ here same. subst (λ v. IsTrue (has_form known slot v)) same
      (subst (λ s. IsTrue (has_form known s (values.Name name))) (sym (ap (λ (c : Cell). c.slot) here))
      (subst (λ k. IsTrue (has_form k slots.Name (values.Name name))) (class-is (sym class ∙ ap (get program.known) (sym (ap (λ (c : Cell). c.id) here)) ∙ is)) named)))
      (λ before. rules.forms q slot known value is before)
    where
      class-is : Some knowns.Class ≡ Some known → knowns.Class ≡ known
      class-is e = cc

  pub rules-named : IsProgram after
  rules-named = record {
    whole = λ q slot. cells-kept program.cells at (cell q slot) (values.Name name) name-there ∙ rules.whole q slot;
    forms = forms-after;
    references = λ q slot value holds.
        by-value (cell q slot) value holds
        (λ here same. subst (λ v. IsTrue (refers_rightly program.known q v)) same refl)
        (rules.references q slot value);
    kinds = λ q kind holds. rules.kinds q kind (sym (kept q slots.Kind refl) ∙ holds);
    methods = λ q method holds. rules.methods q method (sym (kept q slots.Method refl) ∙ holds);
    decls = rules.decls;
    params = rules.params;
    single = rules.single;
    declarations = λ q method kind is of.
        ap (λ o. is_declared kind o (value_at after q slots.Body)) (kept q slots.Words refl)
        ∙ ap (λ o. is_declared kind (value_at program q slots.Words) o) (kept q slots.Body refl) ∙ rules.declarations q method kind is of;
  }
