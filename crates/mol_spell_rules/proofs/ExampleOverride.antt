-- An accidental override: one branch adds a method `m()` to `Till` (`:3`), the other to `Desk` (`:2`), which `Till` extends.
use Rattle.std.proofs.Common.{true≢false, ◌≡◌, ◌≢◌, inl, true, false, List, [], ◌∷◌, Option, Some, None, codes, refl, ap, sym, ◌∙◌}
use Rattle.std.specs.FinMap.{find, get, len}
use Rattle.mol_base.specs.Order.{id_cmp}
use Rattle.mol_base.specs.declared.ident.Id.{Id}
use Rattle.mol_table_rules.specs.Ancestors.{is_on_way}
use Rattle.mol_table_rules.specs.Program.{same_id, Program, value_at, cell, class_step, class_of_type}
use Rattle.mol_values_types.specs.Order.{cell_cmp}
use Rattle.mol_values_types.specs.declared.cell.Cell.{Cell}
use Rattle.mol_values_types.specs.declared.cell.Slot.{Slot}
use Rattle.mol_values_types.specs.declared.cell.Slot.TheVariants as slots
use Rattle.mol_values_types.specs.declared.itype.IType.TheFolds.{fold-roll-IType}
use Rattle.mol_values_types.specs.declared.itype.IType.TheOpen.{IType-F}
use Rattle.mol_values_types.specs.declared.itype.IType.TheVariants as types
use Rattle.mol_values_types.specs.declared.kind.MethodKind.TheVariants.{Instance}
use Rattle.mol_values_types.specs.declared.known.Known.{Known}
use Rattle.mol_values_types.specs.declared.known.Known.TheVariants as knowns
use Rattle.mol_values_types.specs.declared.value.Value.{Value}
use Rattle.mol_values_types.specs.declared.value.Value.TheVariants as values
use Rattle.mol_spell_rules.specs.FaultList.{IsFault, by_override, false_override}
use Rattle.mol_spell_rules.specs.NameFaults.{FalseOverride}
use Rattle.mol_spell_rules.proofs.ExamplePrograms.{base, ann, bob, is-instance, program_of, holds-in, known-in, len-in}

abbrev known : List (Id × Known)
known = (base 2, knowns.Class) ∷ (base 3, knowns.Class) ∷ (ann 1, knowns.Method Instance) ∷ (ann 2, knowns.Decl (ann 1))
    ∷ (bob 1, knowns.Method Instance) ∷ (bob 2, knowns.Decl (bob 1)) ∷ []

abbrev cells : List (Cell × Value)
cells = (cell (base 2) slots.Live, values.Live true) ∷ (cell (base 2) slots.Super, values.Super None)
    ∷ (cell (base 3) slots.Live, values.Live true) ∷ (cell (base 3) slots.Super, values.Super (Some (types.Class (base 2))))
    ∷ (cell (ann 1) slots.Name, values.Name (codes "m")) ∷ (cell (ann 1) slots.Params, values.Params [])
    ∷ (cell (ann 2) slots.Live, values.Live true) ∷ (cell (ann 2) slots.Owner, values.Owner (base 3))
    ∷ (cell (bob 1) slots.Name, values.Name (codes "m")) ∷ (cell (bob 1) slots.Params, values.Params [])
    ∷ (cell (bob 2) slots.Live, values.Live true) ∷ (cell (bob 2) slots.Owner, values.Owner (base 2)) ∷ []

abbrev program : Program
program = program_of known cells

holds-at : (id : Id) (slot : Slot) → value_at program id slot ≡ find cell_cmp (cell id slot) cells
holds-at id slot = holds-in known cells tt id slot

known-at : (id : Id) → get program.known id ≡ find id_cmp id known
known-at id = known-in known cells tt id

six : len program.known ≡ 6
six = len-in known cells tt

desk-named : class_of_type (types.Class (base 2)) ≡ Some (base 2)
desk-named = ap class_of_type (sym (types.rolls-Class (base 2)))
    ∙ fold-roll-IType (Option Id) class_step (IType-F.Class (base 2))

on-way : is_on_way program (base 3) (base 2) ≡ true
on-way = simp (six, holds-at (base 3) slots.Super, holds-at (base 2) slots.Live, desk-named) refl

-- what a test tells apart is not one
told-apart : (first second : Id) → same_id first first ≡ true → same_id first second ≡ false → first ≢ second
told-apart first second itself differ same = true≢false (sym itself ∙ ap (same_id first) same ∙ differ)

override : FalseOverride program (ann 2) (bob 2)
override = record {
  ordered = refl;
  first_method = ann 1;
  second_method = bob 1;
  first_owner = base 3;
  second_owner = base 2;
  first_kind = Instance;
  second_kind = Instance;
  first_lives = record {
    declares = known-at (ann 2);
    declaration_lives = simp (holds-at (ann 2) slots.Live) refl;
    is_kind = known-at (ann 1);
    owned = simp (holds-at (ann 2) slots.Owner) refl;
  };
  second_lives = record {
    declares = known-at (bob 2);
    declaration_lives = simp (holds-at (bob 2) slots.Live) refl;
    is_kind = known-at (bob 1);
    owned = simp (holds-at (bob 2) slots.Owner) refl;
  };
  first_is_method = is-instance;
  second_is_method = is-instance;
  alike = record {
    apart = told-apart (ann 1) (bob 1) refl refl;
    named = simp (holds-at (ann 1) slots.Name, holds-at (bob 1) slots.Name) refl;
    as_many = simp (holds-at (ann 1) slots.Params, holds-at (bob 1) slots.Params) refl;
  };
  related = inl (record { on_way = on-way; apart = told-apart (base 3) (base 2) refl refl });
}

is-fault : IsFault program (false_override (ann 2) (bob 2))
is-fault = by_override override
