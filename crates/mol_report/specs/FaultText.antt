-- The texts of faults.
use Rattle.std.specs.Prelude.{ℕ, List, ◌∷◌, ◌++◌, codes}
use Rattle.std.specs.Fmt.{decimal}
use Rattle.mol_base.specs.declared.ident.Id.{Id}
use Rattle.mol_report.specs.Labels.{id_text, cell_text}
use Rattle.mol_spell_rules.specs.FaultList.{FaultTarget, entity, default_of, local_of, outside_of, Fault, same_address, false_override, apart, outside_name, missing, misread, local_clash, package_is_class}
use Rattle.mol_table_rules.specs.Program.{Program}

-- two identities
abbrev pub pair_text : Program → Id → Id → List ℕ
pair_text base first second = id_text base first ++ 32 ∷ id_text base second

abbrev pub target_text : Program → FaultTarget → List ℕ
target_text base (entity id) = id_text base id
target_text base (default_of class) = codes "default " ++ id_text base class
target_text base (local_of number) = codes "local " ++ decimal number
target_text base (outside_of text) = text

-- the name of a fault, and what it is about
abbrev pub fault_text : Program → Fault → List ℕ
fault_text base (same_address first second) = codes "same-address " ++ pair_text base first second
fault_text base (false_override first second) = codes "false-override " ++ pair_text base first second
fault_text base (apart method) = codes "apart " ++ id_text base method
fault_text base (outside_name method) = codes "outside-name " ++ id_text base method
fault_text base (missing at target) = codes "missing " ++ cell_text base at ++ 32 ∷ id_text base target
fault_text base (misread at number target) = codes "misread " ++ cell_text base at ++ 32 ∷ decimal number ++ 32 ∷ target_text base target
fault_text base (local_clash at name) = codes "local-clash " ++ cell_text base at ++ 32 ∷ name
fault_text base (package_is_class class inside) = codes "package-is-class " ++ pair_text base class inside
