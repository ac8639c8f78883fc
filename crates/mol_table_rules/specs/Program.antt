-- Programs: a finite map from cells to values, and what each identity is known as.
use Rattle.std.specs.Prelude.{ℕ, Bool, false, List, [], Option, None, Some, option_map, refl}
use Rattle.std.specs.Coded.{Coded, code_by, coded×}
use Rattle.std.specs.Ordering.{eq_by_cmp}
use Rattle.std.specs.FinMap.{FinMap, code, empty, get}
use Rattle.mol_base.specs.Order.{id_cmp}
use Rattle.mol_base.specs.declared.ident.Id.{Id}
use Rattle.mol_values_types.specs.Order.{cell_cmp}
use Rattle.mol_values_types.specs.Slots.{kind_of_known}
use Rattle.mol_values_types.specs.declared.cell.Cell.{Cell}
use Rattle.mol_values_types.specs.declared.cell.Slot.{Slot}
use Rattle.mol_values_types.specs.declared.cell.Slot.TheVariants as slots
use Rattle.mol_values_types.specs.declared.itype.IType.{IType, fold-IType}
use Rattle.mol_values_types.specs.declared.itype.IType.TheOpen.{IType-F}
use Rattle.mol_values_types.specs.declared.kind.Kind.{Kind}
use Rattle.mol_values_types.specs.declared.known.Known.{Known}
use Rattle.mol_values_types.specs.declared.known.Known.TheVariants as knowns
use Rattle.mol_values_types.specs.declared.param.Param.{Param}
use Rattle.mol_values_types.specs.declared.value.Value.{Value}
use Rattle.mol_values_types.specs.declared.value.Value.TheVariants as values

abbrev pub Cells : Type 0
Cells = FinMap cell_cmp Value

abbrev pub Knowns : Type 0
Knowns = FinMap id_cmp Known

pub record Program : Type 0 where
  pub cells : Cells
  pub known : Knowns

-- a program as a number, by the numbers of what its maps hold
abbrev pub program_code : Coded Cell → Coded Value → Coded Id → Coded Known → Coded Program
program_code cells values ids knowns =
    code_by (Cells × Knowns) (coded× (code cells values) (code ids knowns)) (λ program. (program.cells, program.known)) (λ both. record { cells = both.0; known = both.1 }) (λ _. refl)

-- the program that knows nothing
abbrev pub nothing : Program
nothing = record { cells = empty; known = empty }

abbrev pub same_id : Id → Id → Bool
same_id = eq_by_cmp id_cmp

-- the cell of an identity and a slot
abbrev pub cell : Id → Slot → Cell
cell id slot = record { id = id; slot = slot }

-- what a program holds in a slot of an identity
abbrev pub value_at : Program → Id → Slot → Option Value
value_at program id slot = get program.cells (cell id slot)

-- what an identity names
abbrev pub kind_of : Program → Id → Option Kind
kind_of program id = option_map kind_of_known (get program.known id)

-- the method that a known parameter belongs to
abbrev pub method_in : Option Known → Option Id
method_in (Some (knowns.Param method)) = Some method
method_in other = None

abbrev pub method_of_param : Program → Id → Option Id
method_of_param program id = method_in (get program.known id)

-- ---- what single cells hold

abbrev pub is_yes : Option Value → Bool
is_yes (Some (values.Live live)) = live
is_yes other = false

-- whether the cell `live` of an identity is yes
abbrev pub living_at : Program → Id → Bool
living_at program id = is_yes (value_at program id slots.Live)

abbrev pub package_in : Option Value → List ℕ
package_in (Some (values.Package name)) = name
package_in other = []

abbrev pub package_at : Program → Id → List ℕ
package_at program id = package_in (value_at program id slots.Package)

abbrev pub name_in : Option Value → List ℕ
name_in (Some (values.Name name)) = name
name_in other = []

abbrev pub name_at : Program → Id → List ℕ
name_at program id = name_in (value_at program id slots.Name)

abbrev pub owner_in : Option Value → Option Id
owner_in (Some (values.Owner owner)) = Some owner
owner_in other = None

abbrev pub owner_at : Program → Id → Option Id
owner_at program id = owner_in (value_at program id slots.Owner)

abbrev pub params_in : Option Value → List Param
params_in (Some (values.Params params)) = params
params_in other = []

-- the present parameters of a method
abbrev pub params_at : Program → Id → List Param
params_at program id = params_in (value_at program id slots.Params)

-- the class of the program that a type is
abbrev pub class_step : IType-F (Option Id) → Option Id
class_step (IType-F.Class id) = Some id
class_step other = None

abbrev pub class_of_type : IType → Option Id
class_of_type = fold-IType (Option Id) class_step

abbrev pub parent_in : Option Value → Option Id
parent_in (Some (values.Super (Some parent))) = class_of_type parent
parent_in other = None

-- the superclass of a class, where that is a class of the program
abbrev pub parent_at : Program → Id → Option Id
parent_at program id = parent_in (value_at program id slots.Super)
