-- The names that clash in declarations of a program.
use Rattle.std.specs.Prelude.{List, [], ◌∷◌, map, Option, None, Some}
use Rattle.std.specs.List.{flat_map}
use Rattle.jav_names.specs.DottedNames.{Name, Names}
use Rattle.mol_base.specs.declared.ident.Id.{Id}
use Rattle.mol_faults_values.specs.local_faults.PartScopes.{params_scopes}
use Rattle.mol_faults_values.specs.declared.local_faults.clash.Clash.{Clash}
use Rattle.mol_spell_rules.specs.FaultList.{Fault, local_clash}
use Rattle.mol_spell_rules.specs.LocalClashes.{Scopes, unscoped, then_next, block_scopes}
use Rattle.mol_table_rules.specs.Counting.{living_of}
use Rattle.mol_table_rules.specs.Program.{Program, value_at, params_at, cell}
use Rattle.mol_values_types.specs.declared.cell.Slot.TheVariants as slots
use Rattle.mol_values_types.specs.declared.iblock.IBody.{IBody}
use Rattle.mol_values_types.specs.declared.param.Param.{Param}
use Rattle.mol_values_types.specs.declared.value.Value.{Value}
use Rattle.mol_values_types.specs.declared.value.Value.TheVariants as values

abbrev pub body_in : Option Value → Option IBody
body_in (Some (values.Body body)) = body
body_in value = None

abbrev pub body_scopes : Option IBody → Scopes
body_scopes None names = unscoped names
body_scopes (Some body) names = block_scopes body.block names

-- The parameters are declared, and then the locals of the body, if there is one.
abbrev pub clashes_of : List Param → Option IBody → Names
clashes_of params body = (then_next (params_scopes params []) (body_scopes body)).clashes

-- those of a declaration that lives, with its method
abbrev pub clashes_by : Program → Id → Option Id → Names
clashes_by program id None = []
clashes_by program id (Some method) = clashes_of (params_at program method) (body_in (value_at program id slots.Body))

abbrev pub clash_of : Id → Name → Clash
clash_of declaration name = record { declaration = declaration; name = name }

abbrev pub clashes_at : Program → Id → List Clash
clashes_at program id = map (clash_of id) (clashes_by program id (living_of program id))

abbrev pub clashes_among : Program → List Id → List Clash
clashes_among program ids = flat_map (clashes_at program) ids

abbrev pub fault_of : Clash → Fault
fault_of clash = local_clash (cell clash.declaration slots.Body) clash.name
