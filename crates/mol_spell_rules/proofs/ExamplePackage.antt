-- A package inside of what is a class: the class `p.A`, and one of the package `p.A.q`.
use Rattle.std.proofs.Common.{◌≡◌, inr, true, List, [], ◌∷◌, codes, refl}
use Rattle.std.specs.FinMap.{find}
use Rattle.mol_base.specs.declared.ident.Id.{Id}
use Rattle.mol_table_rules.specs.Program.{Program, value_at, cell}
use Rattle.mol_values_types.specs.Order.{cell_cmp}
use Rattle.mol_values_types.specs.declared.cell.Cell.{Cell}
use Rattle.mol_values_types.specs.declared.cell.Slot.{Slot}
use Rattle.mol_values_types.specs.declared.cell.Slot.TheVariants as slots
use Rattle.mol_values_types.specs.declared.known.Known.{Known}
use Rattle.mol_values_types.specs.declared.known.Known.TheVariants as knowns
use Rattle.mol_values_types.specs.declared.value.Value.{Value}
use Rattle.mol_values_types.specs.declared.value.Value.TheVariants as values
use Rattle.mol_spell_rules.specs.FaultList.{IsFault, by_package, package_is_class}
use Rattle.mol_spell_rules.proofs.ExamplePrograms.{base, program_of, holds-in, known-in}

abbrev known : List (Id × Known)
known = (base 1, knowns.Class) ∷ (base 2, knowns.Class) ∷ []

abbrev cells : List (Cell × Value)
cells = (cell (base 1) slots.Live, values.Live true) ∷ (cell (base 1) slots.Package, values.Package (codes "p"))
    ∷ (cell (base 1) slots.Name, values.Name (codes "A")) ∷ (cell (base 2) slots.Live, values.Live true)
    ∷ (cell (base 2) slots.Package, values.Package (codes "p.A.q")) ∷ (cell (base 2) slots.Name, values.Name (codes "B")) ∷ []

abbrev program : Program
program = program_of known cells

holds-at : (id : Id) (slot : Slot) → value_at program id slot ≡ find cell_cmp (cell id slot) cells
holds-at id slot = holds-in known cells tt id slot

is-fault : IsFault program (package_is_class (base 1) (base 2))
is-fault = by_package (record {
  class_lives = simp (known-in known cells tt (base 1), holds-at (base 1) slots.Live) refl;
  inside_lives = simp (known-in known cells tt (base 2), holds-at (base 2) slots.Live) refl;
  is = inr (record {
    rest = codes "q";
    is = simp (holds-at (base 1) slots.Package, holds-at (base 1) slots.Name, holds-at (base 2) slots.Package) refl;
  });
})
