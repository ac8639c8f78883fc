-- Cells of identities, as lists.
use Rattle.std.specs.Prelude.{List, [], ◌∷◌, ◌++◌, map, Option, None, Some, if◌then◌else◌}
use Rattle.std.specs.FinMap.{get}
use Rattle.mol_base.specs.declared.ident.Id.{Id}
use Rattle.mol_table_rules.specs.Program.{Program, cell}
use Rattle.mol_values_types.specs.Slots.{has_slot}
use Rattle.mol_values_types.specs.declared.cell.Cell.{Cell}
use Rattle.mol_values_types.specs.declared.cell.Slot.{Slot}
use Rattle.mol_values_types.specs.declared.cell.Slot.TheVariants as slots
use Rattle.mol_values_types.specs.declared.known.Known.{Known}
use Rattle.mol_values_types.specs.declared.known.Known.TheVariants as knowns

-- an identity in these slots
abbrev pub cells_of : List Slot → Id → List Cell
cells_of these id = map (cell id) these

-- ---- where something is found

abbrev pub declaration_address : Id → Id → List Cell
declaration_address id method =
    cells_of (slots.Live ∷ slots.Owner ∷ slots.Method ∷ []) id ++ cells_of (slots.Name ∷ slots.Params ∷ []) method

abbrev pub address_as : Id → Option Known → List Cell
address_as id (Some knowns.Class) = cells_of (slots.Live ∷ slots.Package ∷ slots.Name ∷ []) id
address_as id (Some knowns.Field) = cells_of (slots.Live ∷ slots.Owner ∷ slots.Name ∷ []) id
address_as id (Some (knowns.Decl method)) = declaration_address id method
address_as id known = []

abbrev pub address_of : Program → Id → List Cell
address_of program id = address_as id (get program.known id)

-- ---- whether something lives

abbrev pub own_life : Program → Id → List Cell
own_life program id = if has_slot (get program.known id) slots.Live then cell id slots.Live ∷ [] else []

-- ---- of a method

-- the parameters of the method of a declaration
abbrev pub declared_params : Option Known → List Cell
declared_params (Some (knowns.Decl method)) = cell method slots.Params ∷ []
declared_params known = []

-- those of the method of a parameter
abbrev pub params_beside : Option Id → List Cell
params_beside None = []
params_beside (Some method) = cell method slots.Params ∷ []

-- the method that a declaration names
abbrev pub declared_method : Id → Option Known → List Cell
declared_method id (Some (knowns.Decl method)) = cell id slots.Method ∷ []
declared_method id known = []
