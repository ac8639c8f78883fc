-- Faults of one address.
use Rattle.std.proofs.Common.{◌≡◌, refl, arith}
use Rattle.mol_base.specs.declared.ident.Id.{Id}
use Rattle.mol_faults_entities.specs.pair_faults.Sharing.{address_fault}
use Rattle.mol_faults_entities.specs.declared.pair_faults.pair.Pair.{Pair}
use Rattle.mol_faults_entities.proofs.pair_faults_lemmas.PairFaults.{IsMade}
use Rattle.mol_spell_rules.specs.FaultList.{entity, default_of, local_of, outside_of, Fault, same_address, false_override, apart, outside_name, missing, misread, local_clash, package_is_class, IsFault, by_address, fault_key}
use Rattle.mol_table_rules.specs.Faults.{SameAddress}
use Rattle.mol_table_rules.specs.Program.{Program}

fault-is : (program : Program) (first second : Id) → IsFault program (same_address first second) → SameAddress program first second
fault-is program first second (by_address is) = is

only-these : (fault : Fault) → (fault_key fault).kind ≡ 0 → (pair : Pair) × (address_fault pair ≡ fault)
only-these (same_address first second) is = (record { first = first; second = second }, refl)
only-these (false_override first second) is = let e : 1 ≡ 0 = is in absurd (omega (arith, e))
only-these (apart method) is = let e : 2 ≡ 0 = is in absurd (omega (arith, e))
only-these (outside_name method) is = let e : 3 ≡ 0 = is in absurd (omega (arith, e))
only-these (missing at target) is = let e : 4 ≡ 0 = is in absurd (omega (arith, e))
only-these (misread at number (entity id)) is = let e : 5 ≡ 0 = is in absurd (omega (arith, e))
only-these (misread at number (default_of class)) is = let e : 5 ≡ 0 = is in absurd (omega (arith, e))
only-these (misread at number (local_of local)) is = let e : 5 ≡ 0 = is in absurd (omega (arith, e))
only-these (misread at number (outside_of text)) is = let e : 5 ≡ 0 = is in absurd (omega (arith, e))
only-these (local_clash at name) is = let e : 6 ≡ 0 = is in absurd (omega (arith, e))
only-these (package_is_class class inside) is = let e : 7 ≡ 0 = is in absurd (omega (arith, e))

pub address-made : (program : Program) → IsMade program 0 (SameAddress program) address_fault
address-made program = record {
  keyed = λ pair. refl;
  known = λ pair. (fault-is program pair.first pair.second, λ is. by_address is);
  only = only-these;
}
