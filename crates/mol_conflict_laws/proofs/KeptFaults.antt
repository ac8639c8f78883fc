-- Faults as the code keeps them are faults, and each fault can be kept.
use Rattle.std.proofs.Common.{◌≡◌, refl, sym, ◌∙◌, ap}
use Rattle.mol_faults_rules.specs.Kept.{kept_fault, kept_target}
use Rattle.mol_faults_rules.specs.declared.fault.Fault.{Fault as Kept}
use Rattle.mol_faults_rules.specs.declared.fault.Fault.TheVariants as kept
use Rattle.mol_faults_rules.specs.declared.target.Target.{Target as KeptTarget}
use Rattle.mol_faults_rules.specs.declared.target.Target.TheVariants as targets
use Rattle.mol_spell_rules.specs.FaultList.{Fault, FaultTarget, apart, default_of, entity, false_override, local_clash, local_of, misread, missing, outside_name, outside_of, package_is_class, same_address}

target_of : FaultTarget → KeptTarget
target_of (entity id) = targets.Entity id
target_of (default_of class) = targets.Default class
target_of (local_of number) = targets.Local number
target_of (outside_of text) = targets.Outside text

target-kept : (target : FaultTarget) → kept_target (target_of target) ≡ target
unfolding target_of
target-kept (entity id) = refl
target-kept (default_of class) = refl
target-kept (local_of number) = refl
target-kept (outside_of text) = refl

target-back : (target : KeptTarget) → target_of (kept_target target) ≡ target
unfolding target_of
target-back (targets.Entity id) = refl
target-back (targets.Default class) = refl
target-back (targets.Local number) = refl
target-back (targets.Outside text) = refl

pub fault_of : Fault → Kept
fault_of (same_address first second) = kept.SameAddress first second
fault_of (false_override first second) = kept.FalseOverride first second
fault_of (apart method) = kept.Apart method
fault_of (outside_name method) = kept.OutsideName method
fault_of (missing at target) = kept.Missing at target
fault_of (misread at number target) = kept.Misread at number (target_of target)
fault_of (local_clash at name) = kept.LocalClash at name
fault_of (package_is_class class inside) = kept.PackageIsClass class inside

pub fault-kept : (fault : Fault) → kept_fault (fault_of fault) ≡ fault
unfolding fault_of
fault-kept (same_address first second) = refl
fault-kept (false_override first second) = refl
fault-kept (apart method) = refl
fault-kept (outside_name method) = refl
fault-kept (missing at target) = refl
fault-kept (misread at number target) = ap (misread at number) (target-kept target)
fault-kept (local_clash at name) = refl
fault-kept (package_is_class class inside) = refl

fault-back : (fault : Kept) → fault_of (kept_fault fault) ≡ fault
unfolding fault_of
fault-back (kept.SameAddress first second) = refl
fault-back (kept.FalseOverride first second) = refl
fault-back (kept.Apart method) = refl
fault-back (kept.OutsideName method) = refl
fault-back (kept.Missing at target) = refl
fault-back (kept.Misread at number target) = ap (λ (t : KeptTarget). kept.Misread at number t) (target-back target)
fault-back (kept.LocalClash at name) = refl
fault-back (kept.PackageIsClass class inside) = refl

pub kept-same : (first second : Kept) → kept_fault first ≡ kept_fault second → first ≡ second
kept-same first second same = sym (fault-back first) ∙ ap fault_of same ∙ fault-back second
