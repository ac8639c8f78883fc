use Rattle.std.proofs.Common.{◌≡◌, filter_map, map, take}
use Rattle.mol_faults_rules.specs.Kept.{kept_fault}
use Rattle.mol_spell_rules.specs.FaultList.{apart}
use Rattle.mol_faults_entities.specs.method_faults.ApartMethods.{is_apart}
use Rattle.mol_faults_entities.proofs.method_faults_lemmas.Listed.{fault_of}
use Rattle.mol_faults_entities.proofs.method_faults.apart_methods.apart.Given as goal

abbrev pub invariant-loop-id : goal.invariant-loop-id
invariant-loop-id l = map kept_fault l.faults.items ≡ filter_map (fault_of apart (is_apart l.table))
    (take l.id-index l.id-items)
