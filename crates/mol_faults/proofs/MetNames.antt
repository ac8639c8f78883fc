-- What the misread names of a fault have to do with is what the fault has.
use Rattle.std.proofs.Common.{◌≡◌, ◌≢◌, ◌↔◌, ◌⊎◌, inl, inr, ℕ, Bool, true, false, if◌then◌else◌, List, [], ◌∷◌, map, Option, None, Some, Contains, IsTrue, refl, sym, ap, ◌∙◌, subst}
use Rattle.std.specs.List.{flat_map}
use Rattle.std.specs.Option.{option_and_then, option_to_list}
use Rattle.jav_names.proofs.Lists.{stands_first, stands_nowhere, stands_where}
use Rattle.mol_base.specs.declared.ident.Id.{Id}
use Rattle.mol_faults_misread.specs.body_misreads.Readings.{program_target}
use Rattle.mol_faults_rules.specs.Kept.{kept_fault}
use Rattle.mol_faults_rules.specs.declared.fault.Fault.{Fault}
use Rattle.mol_faults_rules.specs.declared.fault.Fault.TheVariants as faults
use Rattle.mol_faults_rules.specs.declared.target.Target.{Target as KeptTarget}
use Rattle.mol_faults.specs.Met.{met_among, met_by, met_in}
use Rattle.mol_faults.proofs.NamesSorted.{AreThere}
use Rattle.mol_faults_misread.proofs.misread_faults_lemmas.NamesTold.{Is, name-own, name-same}
use Rattle.mol_faults_misread.specs.misread_faults.Found.{Found, IsMisread, is_name}
use Rattle.mol_spell_rules.specs.references.References.{Target}
use Rattle.mol_resolve_rules.proofs.Stands.{behind, from_each, in_each, in_either, in_front}
use Rattle.mol_spell_rules.specs.FaultList.{FaultTarget, fault_target, misread}
use Rattle.mol_spell_rules.specs.NameFaults.{unit_reader, MisreadIn}
use Rattle.mol_spell_rules.specs.ReadInstead.{instead}
use Rattle.mol_spell_rules.specs.Support.{IsMetBy, is_recorded, read_instead}
use Rattle.mol_faults_rules.specs.Met.{is_of_program}
use Rattle.mol_faults_support.specs.Met.{HasMet}
use Rattle.mol_table_rules.specs.Program.{Program}
use Rattle.mol_table_rules.specs.Tidy.{tidy}
use Rattle.mol_values_types.specs.declared.cell.Cell.{Cell}

-- ---- targets of the program

of-program : (target met : Target) → program_target target ≡ Some met → (target ≡ met) × IsTrue (is_of_program met)
of-program target met is = by (is_of_program target) refl where
  by : (b : Bool) → is_of_program target ≡ b → (target ≡ met) × IsTrue (is_of_program met)
  by true own =
      let same : target ≡ met = let some : Some target ≡ Some met = ap (λ b. if b then Some target else None) (sym own) ∙ is in cc in
      (same, subst (λ t. is_of_program t ≡ true) same own)
  by false own = let none : None ≡ Some met = ap (λ b. if b then Some target else None) (sym own) ∙ is in absurd cc

program-own : (target : Target) → IsTrue (is_of_program target) → program_target target ≡ Some target
program-own target is = ap (λ b. if b then Some target else None) is

instead-of-program : (read : Option Target) (met : Target) → option_and_then program_target read ≡ Some met
    → (read ≡ Some met) × IsTrue (is_of_program met)
instead-of-program None met is = absurd cc
instead-of-program (Some target) met is = let own = of-program target met is in (ap Some own.0, own.1)

from-option : {X : Type 0} (o : Option X) (x : X) → Contains (option_to_list o) x → o ≡ Some x
from-option None x stands = absurd (stands_nowhere x stands)
from-option (Some y) x stands = by (stands_where y x [] stands) where
  by : (y ≡ x) ⊎ Contains [] x → Some y ≡ Some x
  by (inl same) = ap Some same
  by (inr none) = absurd (stands_nowhere x none)

in-option : {X : Type 0} (o : Option X) (x : X) → o ≡ Some x → Contains (option_to_list o) x
in-option o x is = subst (λ o. Contains (option_to_list o) x) (sym is) (stands_first x [])

-- ---- names of a fault

module _ (program : Program) where
  abbrev MetBy : Cell → ℕ → FaultTarget → Target → Type 0
  MetBy at number target met = IsMetBy program at number target met × IsTrue (is_of_program met)

  from-found : (met : Target) (found : Found) → IsMisread (tidy program) found → Contains (met_by found.name) met
      → MetBy found.at found.name.number found.name.target met
  from-found met found reads stands = by (in_either (option_to_list found.name.named) (option_to_list found.name.instead) met stands) where
    by : Contains (option_to_list found.name.named) met ⊎ Contains (option_to_list found.name.instead) met
        → MetBy found.at found.name.number found.name.target met
    by (inl named) =
        let own = of-program reads.target met (reads.is_named ∙ from-option found.name.named met named) in (
          is_recorded {class = reads.class} (ap fault_target (sym own.0) ∙ reads.is_target)
              (subst (λ (t : Target). MisreadIn (tidy program) reads.class found.at found.name.number t) own.0 reads.misread),
          own.1,
        )
    by (inr read) =
        let own = instead-of-program (instead (unit_reader (tidy program) reads.class found.at) reads.misread.reference) met
        (reads.is_instead ∙ from-option found.name.instead met read) in
        (read_instead reads.misread reads.is_target own.0, own.1)

  -- a misread name
  abbrev name-of : (class : Id) (at : Cell) (number : ℕ) (target : Target) → MisreadIn (tidy program) class at number target → Found
  name-of class at number target reads = record {
    at = at;
    name = record {
      number = number;
      target = fault_target target;
      named = program_target target;
      instead = option_and_then program_target (instead (unit_reader (tidy program) class at) reads.reference);
    };
  }

  name-is : (class : Id) (at : Cell) (number : ℕ) (target : Target) (reads : MisreadIn (tidy program) class at number target)
      → IsMisread (tidy program) (name-of class at number target reads)
  name-is class at number target reads =
      record { class = class; target = target; misread = reads; is_target = refl; is_named = refl; is_instead = refl }

  module _ (at : Cell) (number : ℕ) (target : FaultTarget) (names : List Found)
      (are : AreThere (tidy program) at number names) where
    met-of : (met : Target) (found : Found) (told : Bool) → is_name at number target found ≡ told → IsMisread (tidy program) found
        → Contains (if told then met_by found.name else []) met → MetBy at number target met
    met-of met found false is reads stands = absurd (stands_nowhere met stands)
    met-of met found true is reads stands =
        let same = name-same at number target found is in
        subst (λ (a : Cell). MetBy a number target met) (sym same.same_at)
        (subst (λ (n : ℕ). MetBy found.at n target met) (sym same.same_number)
        (subst (λ (t : FaultTarget). MetBy found.at found.name.number t met) (sym same.same_target) (from-found met found reads stands)))

    -- what a name of the fault has to do with
    met-stands : (class : Id) (t met : Target) (reads : MisreadIn (tidy program) class at number t) → fault_target t ≡ target
        → Contains (met_by (name-of class at number t reads).name) met → Contains (met_among at number target names) met
    met-stands class t met reads same stands =
        let found = name-of class at number t reads in
        let told : is_name at number target found ≡ true =
        subst (λ (x : FaultTarget). is_name at number x found ≡ true) same (name-own found) in
        in_each (met_in at number target) names found met (are.all found (name-is class at number t reads) refl refl)
        (subst (λ b. Contains (if b then met_by found.name else []) met) (sym told) stands)

    all-met : (met : Target) → IsMetBy program at number target met → IsTrue (is_of_program met)
        → Contains (met_among at number target names) met
    all-met met (is_recorded {class = class} same reads) own =
        let found = name-of class at number met reads in
        met-stands class met met reads same (in_front (option_to_list found.name.named) (option_to_list found.name.instead) met
        (in-option found.name.named met (program-own met own)))
    all-met met (read_instead {class = class} {target = t} reads same read) own =
        let found = name-of class at number t reads in
        met-stands class t met reads same (behind (option_to_list found.name.named) (option_to_list found.name.instead) met
        (in-option found.name.instead met (ap (option_and_then program_target) read ∙ program-own met own)))

    met-are : (met : Target) → Contains (met_among at number target names) met ↔ MetBy at number target met
    met-are met = (
      λ stands. let found = from_each (met_in at number target) names met stands in
          met-of met found.0 (is_name at number target found.0) refl (are.misread found.0 found.1) found.2,
      λ is. all-met met is.0 is.1,
    )

-- what the misread names of a fault have to do with is what it has
pub has-met : (program : Program) (at : Cell) (number : ℕ) (target : FaultTarget) (names : List Found)
    → AreThere (tidy program) at number names → (met : List Target) → met ≡ met_among at number target names
    → HasMet program (misread at number target) met
has-met program at number target names are met same t =
    subst (λ (all : List Target). Contains all t ↔ (IsMetBy program at number target t × IsTrue (is_of_program t))) (sym same)
    (met-are program at number target names are t)

-- another fault has to do with no name
pub none-met : (program : Program) (fault : Fault) → ((at : Cell) (number : ℕ) (target : KeptTarget) → fault ≢ faults.Misread at number target)
    → (met : List Target) → HasMet program (kept_fault fault) met
none-met program (faults.Misread at number target) apart met = absurd (apart at number target refl)
none-met program (faults.SameAddress first second) apart met = tt
none-met program (faults.FalseOverride first second) apart met = tt
none-met program (faults.Apart method) apart met = tt
none-met program (faults.OutsideName method) apart met = tt
none-met program (faults.Missing at target) apart met = tt
none-met program (faults.LocalClash at name) apart met = tt
none-met program (faults.PackageIsClass class inside) apart met = tt
