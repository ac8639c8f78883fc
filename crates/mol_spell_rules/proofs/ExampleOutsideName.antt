-- A name of `Object`: the method `:17`, which had none of these, is renamed to `toString`.
use Rattle.std.proofs.Common.{◌≡◌, ◌≢◌, true, false, List, [], ◌∷◌, codes, refl}
use Rattle.std.specs.FinMap.{find, entries-from_sorted}
use Rattle.mol_base.specs.Order.{id_cmp}
use Rattle.mol_base.specs.declared.ident.Id.{Id}
use Rattle.mol_table_rules.specs.Program.{Program, value_at, cell}
use Rattle.mol_values_types.specs.Order.{cell_cmp}
use Rattle.mol_values_types.specs.declared.cell.Cell.{Cell}
use Rattle.mol_values_types.specs.declared.cell.Slot.{Slot}
use Rattle.mol_values_types.specs.declared.cell.Slot.TheVariants as slots
use Rattle.mol_values_types.specs.declared.kind.MethodKind.TheVariants.{Instance}
use Rattle.mol_values_types.specs.declared.known.Known.{Known}
use Rattle.mol_values_types.specs.declared.known.Known.TheVariants as knowns
use Rattle.mol_values_types.specs.declared.value.Value.{Value}
use Rattle.mol_values_types.specs.declared.value.Value.TheVariants as values
use Rattle.mol_spell_rules.specs.FaultList.{IsFault, by_outside_name, outside_name}
use Rattle.mol_spell_rules.proofs.ExamplePrograms.{base, is-instance, program_of, holds-in, known-in}

abbrev known : List (Id × Known)
known = (base 9, knowns.Decl (base 17)) ∷ (base 17, knowns.Method Instance) ∷ []

abbrev cells : List (Cell × Value)
cells = (cell (base 9) slots.Live, values.Live true) ∷ (cell (base 17) slots.Name, values.Name (codes "toString"))
    ∷ (cell (base 17) slots.Params, values.Params []) ∷ (cell (base 17) slots.Fixed, values.Fixed false) ∷ []

abbrev program : Program
program = program_of known cells

holds-at : (id : Id) (slot : Slot) → value_at program id slot ≡ find cell_cmp (cell id slot) cells
holds-at id slot = holds-in known cells tt id slot

differ : false ≢ true
differ same = absurd cc

is-fault : IsFault program (outside_name (base 17))
is-fault = by_outside_name (record {
  kind = Instance;
  is_kind = known-in known cells tt (base 17);
  is_method = is-instance;
  method_lives = simp (entries-from_sorted id_cmp known tt, holds-at (base 9) slots.Live) refl;
  fixed = false;
  holds = holds-at (base 17) slots.Fixed;
  differs = simp (holds-at (base 17) slots.Name, holds-at (base 17) slots.Params) differ;
})
