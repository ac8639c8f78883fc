-- Faults, as the code keeps them.
use Rattle.mol_faults_rules.specs.declared.fault.Fault.{Fault as Kept}
use Rattle.mol_faults_rules.specs.declared.fault.Fault.TheVariants as kept
use Rattle.mol_faults_rules.specs.declared.target.Target.{Target as KeptTarget}
use Rattle.mol_faults_rules.specs.declared.target.Target.TheVariants as targets
use Rattle.mol_spell_rules.specs.FaultList.{FaultTarget, entity, default_of, local_of, outside_of, Fault, same_address, false_override, apart, outside_name, missing, misread, local_clash, package_is_class}

abbrev pub kept_target : KeptTarget → FaultTarget
kept_target (targets.Entity id) = entity id
kept_target (targets.Default class) = default_of class
kept_target (targets.Local number) = local_of number
kept_target (targets.Outside text) = outside_of text

abbrev pub kept_fault : Kept → Fault
kept_fault (kept.SameAddress first second) = same_address first second
kept_fault (kept.FalseOverride first second) = false_override first second
kept_fault (kept.Apart method) = apart method
kept_fault (kept.OutsideName method) = outside_name method
kept_fault (kept.Missing at target) = missing at target
kept_fault (kept.Misread at number target) = misread at number (kept_target target)
kept_fault (kept.LocalClash at name) = local_clash at name
kept_fault (kept.PackageIsClass class inside) = package_is_class class inside
