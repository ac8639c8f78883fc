-- Bases that are to be clean programs.
use Rattle.std.proofs.Common.{◌≡◌, ◌⊎◌, inl, inr, ℕ, List, None, Some, refl, sym, ◌∙◌, ap, subst}
use Rattle.std.specs.Global.{Global}
use Rattle.mol_base.specs.Files.{FilePair}
use Rattle.mol_conflict_laws.proofs.KeptFaults.{fault-kept, fault_of, kept-same}
use Rattle.mol_faults_laws.proofs.EveryFault.{first_fault_told}
use Rattle.mol_faults_rules.specs.Kept.{kept_fault}
use Rattle.mol_faults_rules.specs.declared.fault.Fault.{Fault as Kept}
use Rattle.mol_faults.specs.First.{IsFirst, IsFirstFault}
use Rattle.mol_outside.specs.Contents.{Contents}
use Rattle.mol_program_laws.proofs.Told.{told as files_told}
use Rattle.mol_program_laws.specs.Laws.{FilesTold, HasFault, HasProgram}
use Rattle.mol_program.specs.Programs.{IsReadAs}
use Rattle.mol_spell_rules.specs.Clean.{Clean}
use Rattle.mol_spell_rules.specs.FaultList.{Fault}
use Rattle.mol_table_rules.specs.Program.{Program}
use Rattle.mol_top_laws.proofs.PathsApart.{base_apart}
use Rattle.mol_top_laws.proofs.Steps.{IsExactStep, SomeRefuses, BothGive, given_as, in_turn, option_step, refused_as, reworded}
use Rattle.mol_top.specs.Bases.{BaseRefuses, IsBaseOf, IsCleanBase, RefuseFiles, RefuseProgram}
use Rattle.mol_top.specs.Files.{base_files}
use Rattle.mol_top.specs.Refusals.{reading_refusal}
use Rattle.mol_top.specs.UncleanLines.{IsProgramLine, program_line}
use Rattle.mol_top.specs.declared.status.BaseFault.TheVariants.{Source, Unclean}
use Rattle.mol_top.specs.declared.status.Status.{Status}
use Rattle.mol_top.specs.declared.status.Status.TheVariants.{BaseRefused}

-- # Clean programs

-- a program is clean or has a first fault
pub clean_step : (program : Program)
    → IsExactStep (λ (fault : Kept). IsFirst program (Some (kept_fault fault))) (λ (one : Unit {0}). Clean program)
clean_step program = record {
  either = by (first_fault_told.either program);
  apart = λ fault one first clean. first_fault_told.apart program (kept_fault fault) clean first;
  one_refusal = λ first second is also.
      kept-same first second (first_fault_told.one program (kept_fault first) (kept_fault second) is also);
  one_gift = λ first second is also. refl;
}
  where
    by : Clean program ⊎ ((fault : Fault) × IsFirstFault program fault)
        → ((fault : Kept) × IsFirst program (Some (kept_fault fault))) ⊎ ((one : Unit {0}) × Clean program)
    by (inl clean) = inr (tt, clean)
    by (inr first) = inl (fault_of first.0, subst (IsFirstFault program) (sym (fault-kept first.0)) first.1)

-- a program is known where it is clean
abbrev IsKnown : Program → Program → Type 0
IsKnown program known = (one : Unit {0}) × Clean program × (known ≡ program)

program_step : (program : Program) → IsExactStep (RefuseProgram program) (IsKnown program)
program_step program =
    reworded (given_as (refused_as (clean_step program) (λ fault. BaseRefused (Unclean fault))) (λ one. program))
    (λ status refused. record { fault = refused.0; first = refused.1; is = refused.2 })
    (λ status (refused : RefuseProgram program status). (refused.fault, refused.first, refused.is))
    (λ known given. given) (λ known given. given)

-- # Bases

module _ (alloc : Global) where
  abbrev told : FilesTold
  told = files_told alloc

  module _ (base : List ℕ) (held : Contents) where
    abbrev files : List FilePair
    files = base_files base held

    files_step : IsExactStep (RefuseFiles files) (IsReadAs files)
    files_step = record {
      either = by (told.either files);
      apart = λ status program refused read. told.apart files program refused.place refused.fault read refused.wrong;
      one_refusal = one;
      one_gift = told.one_program files;
    }
      where
        by : HasProgram files ⊎ HasFault files
            → ((status : Status) × RefuseFiles files status) ⊎ ((program : Program) × IsReadAs files program)
        by (inl has) = inr (has.program, has.read)
        by (inr has) = inl (
          BaseRefused (Source has.place has.fault),
          record { place = has.place; fault = has.fault; wrong = has.refused; is = refl },
        )

        one : (first second : Status) → RefuseFiles files first → RefuseFiles files second → first ≡ second
        one first second refused also =
            let same =
            told.one_fault files (base_apart base held) refused.place also.place refused.fault also.fault refused.wrong also.wrong in
            refused.is ∙ (λ i. BaseRefused (Source (same.0 i) (same.1 i))) ∙ sym also.is

    -- what is told of the files is told of the base
    abbrev Further : Status → Type 0
    Further = SomeRefuses (RefuseFiles files) (IsReadAs files) RefuseProgram

    abbrev ProgramOf : Program → Type 0
    ProgramOf = BothGive (IsReadAs files) IsKnown

    abbrev IsRead : Unit {0} → Type 0
    IsRead one = (reading_refusal base held ≡ None) × (one ≡ tt)

    to : (status : Status) → SomeRefuses (λ (s : Status). reading_refusal base held ≡ Some s) IsRead (λ one. Further) status
        → BaseRefuses base held status
    to status (inl is) = BaseRefuses.reading is
    to status (inr later) = by later.1.0 later.2 where
      by : reading_refusal base held ≡ None → Further status → BaseRefuses base held status
      by read (inl refused) = BaseRefuses.files read refused
      by read (inr found) = BaseRefuses.unclean found.0 (record { read = read; read_as = found.1 }) found.2

    from : (status : Status) → BaseRefuses base held status
        → SomeRefuses (λ (s : Status). reading_refusal base held ≡ Some s) IsRead (λ one. Further) status
    from status (BaseRefuses.reading is) = inl is
    from status (BaseRefuses.files read refused) = inr (tt, (read, refl), inl refused)
    from status (BaseRefuses.unclean program of refused) = inr (tt, (of.read, refl), inr (program, of.read_as, refused))

    is-clean : (program : Program) → BothGive IsRead (λ (one : Unit {0}). ProgramOf) program → IsCleanBase base held program
    is-clean program given =
        let found = given.2 in
        let same : found.0 ≡ program = sym found.2.2 in
        let read : IsReadAs files program = subst (IsReadAs files) same found.1 in
        record {
          is = record { read = given.1.0; read_as = read };
          rules = told.rules files program read;
          clean = subst Clean same found.2.1;
        }

    clean-is : (program : Program) → IsCleanBase base held program → BothGive IsRead (λ (one : Unit {0}). ProgramOf) program
    clean-is program base = (tt, (base.is.read, refl), (program, base.is.read_as, (tt, base.clean, refl)))

    -- a base is refused or is a clean program
    pub base_step : IsExactStep (BaseRefuses base held) (IsCleanBase base held)
    base_step =
        reworded
        (in_turn (option_step (reading_refusal base held) (tt {0})) (λ one is. in_turn files_step (λ program read. program_step program)))
        to from is-clean clean-is

    pub one_program : (first second : Program) → IsBaseOf base held first → IsBaseOf base held second → first ≡ second
    one_program first second is also = told.one_program files first second is.read_as also.read_as

    -- the line that names addresses
    pub one_program_line : (status : Status) (first second : List ℕ) → IsProgramLine base held status first
        → IsProgramLine base held status second → first ≡ second
    one_program_line status first second is also =
        is.is ∙ ap (λ (p : Program). program_line p status) (one_program is.program also.program is.base_of also.base_of) ∙ sym also.is
