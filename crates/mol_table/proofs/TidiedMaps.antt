-- Maps of tidied values are those of the tidied program.
use Rattle.std.specs.Prelude.{◌≡◌, List, Option, map}
use Rattle.std.proofs.Common.{ap, ◌∙◌}
use Rattle.std.specs.FinMap.{entries, from_entries}
use Rattle.mol_base.specs.declared.ident.Id.{Id}
use Rattle.mol_table.specs.Maps.{program_in}
use Rattle.mol_table_rules.specs.Program.{Program, Cells, Knowns, params_at}
use Rattle.mol_table_rules.specs.Tidy.{tidy_value, bare_constructor, tidy}
use Rattle.mol_table.specs.Tidying.{bare_in, entry_by}
use Rattle.mol_table.specs.declared.maps.Maps.{Maps}
use Rattle.mol_values_types.specs.declared.cell.Cell.{Cell}
use Rattle.mol_values_types.specs.declared.value.Value.{Value}

-- maps of the tidied values, and of what was known, are the tidied program
pub tidied-program : (maps : Maps) (index : List (Id × Id)) (cells : Cells) (known : Knowns) → ((class : Id) → bare_in index class ≡ bare_constructor (program_in maps) class)
    → cells ≡ from_entries (map (entry_by maps index) (entries (program_in maps).cells)) → known ≡ (program_in maps).known → ◌≡◌ {A = Program} (record { cells = cells; known = known }) (tidy (program_in maps))
tidied-program maps index cells known is at same =
    let program = program_in maps in
    let bare : bare_in index ≡ bare_constructor program = λ i class. is class i in
    let all : cells ≡ (tidy program).cells = at ∙ ap (λ (bare : Id → Option Id). from_entries (map (λ (e : Cell × Value). (e.0, tidy_value (params_at program) bare e.1)) (entries program.cells))) bare in
    λ i. record { cells = all i; known = same i }
