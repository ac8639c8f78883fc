-- What a misread reference is to be, and what is read instead.
use Rattle.std.specs.Prelude.{◌↔◌, IsTrue, List, [], ◌∷◌, Option, None, Some, Contains}
use Rattle.std.specs.FinMap.{get}
use Rattle.mol_base.specs.declared.ident.Id.{Id}
use Rattle.mol_spell_rules.specs.references.References.{Target, class_target, field_target, method_target, param_target, default_target, local_target, outside_target}
use Rattle.mol_spell_rules.specs.FaultList.{Fault, same_address, false_override, apart, outside_name, missing, misread, local_clash, package_is_class}
use Rattle.mol_spell_rules.specs.Support.{IsMetBy}
use Rattle.mol_faults_support.specs.Cells.{cells_of}
use Rattle.mol_faults_rules.specs.Met.{is_of_program}
use Rattle.mol_table_rules.specs.Program.{Program, method_of_param}
use Rattle.mol_values_types.specs.declared.cell.Cell.{Cell}
use Rattle.mol_values_types.specs.declared.cell.Slot.{Slot}
use Rattle.mol_values_types.specs.declared.cell.Slot.TheVariants as slots
use Rattle.mol_values_types.specs.declared.known.Known.{Known}
use Rattle.mol_values_types.specs.declared.known.Known.TheVariants as knowns

-- Where the fault is of a misread reference, these are the targets of the program that it has to do with: the one that is recorded, and
-- those that are read instead in some file.
abbrev pub HasMet : Program → Fault → List Target → Type 0
HasMet program (misread at number recorded) met =
    (target : Target) → Contains met target ↔ (IsMetBy program at number recorded target × IsTrue (is_of_program target))
HasMet program (same_address first second) met = Unit {0}
HasMet program (false_override first second) met = Unit {0}
HasMet program (apart method) met = Unit {0}
HasMet program (outside_name method) met = Unit {0}
HasMet program (missing at target) met = Unit {0}
HasMet program (local_clash at name) met = Unit {0}
HasMet program (package_is_class class inside) met = Unit {0}

-- ---- what it is about

-- the entity of a target; of a parameter its method
abbrev pub entity_of : Program → Target → Option Id
entity_of program (class_target class) = Some class
entity_of program (field_target field) = Some field
entity_of program (method_target method) = Some method
entity_of program (param_target param) = method_of_param program param
entity_of program (default_target class) = Some class
entity_of program (local_target number) = None
entity_of program (outside_target text) = None

-- the method of a target
abbrev pub method_for : Program → Target → Option Id
method_for program (method_target method) = Some method
method_for program (param_target param) = method_of_param program param
method_for program target = None

-- ---- cells that say where something is and what it is

abbrev pub header_slots : Option Known → List Slot
header_slots (Some knowns.Class) = slots.Live ∷ slots.Package ∷ slots.Name ∷ slots.Super ∷ []
header_slots (Some (knowns.Method kind)) = slots.Name ∷ slots.Result ∷ slots.Params ∷ slots.Kind ∷ slots.Fixed ∷ []
header_slots (Some (knowns.Decl method)) = slots.Live ∷ slots.Owner ∷ slots.Method ∷ []
header_slots (Some knowns.Field) = slots.Live ∷ slots.Owner ∷ slots.Name ∷ []
header_slots (Some (knowns.Param method)) = []
header_slots None = []

abbrev pub header_of : Program → Id → List Cell
header_of program id = cells_of (header_slots (get program.known id)) id
