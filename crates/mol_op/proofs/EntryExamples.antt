-- Worked lists of entries. The method `:11` total is renamed twice, and `:99` is not known.
use Rattle.std.specs.Prelude.{◌≡◌, ℕ, List, [], ◌∷◌, codes, None, Some}
use Rattle.std.proofs.Common.{refl, ap}
use Rattle.std.specs.FinMap.{get}
use Rattle.mol_base.specs.declared.ident.Id.{Id}
use Rattle.mol_table_rules.specs.Program.{Program, cell}
use Rattle.mol_values_types.specs.declared.cell.Slot.TheVariants as slots
use Rattle.mol_values_types.specs.declared.kind.MethodKind.TheVariants.{Instance}
use Rattle.mol_values_types.specs.declared.known.Known.TheVariants as knowns
use Rattle.mol_values_types.specs.declared.value.Value.TheVariants as values
use Rattle.mol_op.specs.Changes.{written}
use Rattle.mol_op.specs.Entries.{Change, last_value, IsStopped}
use Rattle.mol_op.specs.Tests.{need_fault}
use Rattle.mol_op.specs.declared.conditions.Want.TheVariants as wants
use Rattle.mol_op.specs.declared.fault.ApplyFault.TheVariants.{Refused}
use Rattle.mol_op.specs.declared.fault.OpFault.TheVariants.{Unknown}

abbrev base : ℕ → Id
base n = record { tag = []; num = n }

abbrev renamed : ℕ → List ℕ → Change
renamed n name = record {
  fault = λ known. need_fault wants.Called (base n) (get known (base n));
  writes = (cell (base n) slots.Name, values.Name name) ∷ [];
  names = [];
}

abbrev twice : List Change
twice = renamed 11 (codes "sum") ∷ renamed 11 (codes "all") ∷ []

last_name : last_value twice (cell (base 11) slots.Name) ≡ Some (values.Name (codes "all"))
last_name = refl

name_elsewhere : last_value twice (cell (base 12) slots.Name) ≡ None
name_elsewhere = refl

-- the second entry is refused, and what the first wrote stays
stops_at_the_second : (old : Program) → get old.known (base 11) ≡ Some (knowns.Method Instance) → get old.known (base 99) ≡ None
    → IsStopped old (renamed 11 (codes "sum") ∷ renamed 99 (codes "all") ∷ []) 1 (Refused (Unknown (base 99)))
    (written old ((cell (base 11) slots.Name, values.Name (codes "sum")) ∷ []) [])
stops_at_the_second old total none = (ap (need_fault wants.Called (base 11)) total, (refl, ap (need_fault wants.Called (base 99)) none))
