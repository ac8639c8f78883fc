-- What `fmt` makes of a base, and what stops it after that was read.
use Rattle.std.proofs.Common.{◌≡◌, ◌⊎◌, inl, inr, ℕ, refl, sym, ◌∙◌, ap, subst, List, arith}
use Rattle.std.specs.Option.{option_or}
use Rattle.std.specs.Prelude.{Option, None, Some}
use Rattle.mol_outside.specs.Contents.{Contents}
use Rattle.mol_spell_files.specs.ProgramTexts.{program_texts}
use Rattle.mol_spell_files.specs.declared.limits.LimitFault.{LimitFault}
use Rattle.mol_spell_rules.specs.Clean.{Clean}
use Rattle.mol_table_rules.specs.Program.{Program}
use Rattle.mol_table_rules.specs.Rules.{IsProgram as KeepsRules}
use Rattle.mol_top.proofs.BaseStops.{base_stopped, program_stopped}
use Rattle.mol_top.proofs.Carrying.{Carries-more}
use Rattle.mol_top.proofs.ReadBases.{base_carries, unclean_carries}
use Rattle.mol_top.proofs.Stopping.{either_stops, plain_line, said_plain, store_plain}
use Rattle.mol_top.specs.Answers.{limit_status, store_status}
use Rattle.mol_top.specs.Bases.{IsBaseOf, IsCleanBase}
use Rattle.mol_top.specs.Carried.{Carries, CarriesOwn, IsInOut, IsInput, IsInside, IsRead, NoPath}
use Rattle.mol_top.specs.Command.{Command, FmtWords, fmt_paths}
use Rattle.mol_top.specs.Formatting.{FmtRefuses, MakesFiles, fmt_outcome, output_refusal, program_refusal}
use Rattle.mol_top.specs.Outside.{IfTold, OnlyReads, Store}
use Rattle.mol_top.specs.Prepared.{IsStopped, Prepares, StopsCommand}
use Rattle.mol_top.specs.ProgramWork.{IsCleanWork, IsFilesWork, IsProgramStopped, StopsLarge}
use Rattle.mol_top.specs.Refusals.{out_refusal}
use Rattle.mol_top.specs.Report.{line_bytes, refusal_line}
use Rattle.mol_top.specs.Steps.{Only, Stops}
use Rattle.mol_top.specs.declared.fault.StoreFault.{StoreFault}
use Rattle.mol_top.specs.declared.fault.StoreFault.TheVariants.{OutOfMemory, OutInUse, ReadFailed, Missing, Limit}
use Rattle.mol_top.specs.declared.output.Work.{Work}
use Rattle.mol_top.specs.declared.refusal.Refusal.{Refusal}
use Rattle.mol_top.specs.declared.status.Status.{Status}
use Rattle.mol_top.specs.declared.status.Status.TheVariants.{OutOfMemory as no_memory}

-- # The files of a program

skip_none : (first second : Option Status) → first ≡ None → option_or first second ≡ second
skip_none first second none = ap (λ o. option_or o second) none

module _ (out : List ℕ) (program : Program) where
  -- their folder is in use
  pub occupied : (old new : Store) (fault : StoreFault) → Stops (Only out) old new (out_refusal out) fault
      → Stops (Only out) old new (output_refusal out program) fault
  occupied old new OutOfMemory stops = tt
  occupied old new (ReadFailed p) stops = stops
  occupied old new fault stops = λ h e. rw (stops h e) refl

  -- they pass a limit
  too_large : (held : Contents) (fault : LimitFault) → out_refusal out held ≡ None → program_refusal program ≡ Some (limit_status fault)
      → output_refusal out program held ≡ Some (store_status (Limit fault))
  too_large held fault free refused = skip_none (out_refusal out held) (program_refusal program) free ∙ refused

  pub large : (old new : Store) (fault : StoreFault) → IfTold old.held (λ h. out_refusal out h ≡ None) → StopsLarge program fault
      → Stops (Only out) old new (output_refusal out program) fault
  large old new OutOfMemory free stops = tt
  large old new (Limit fault) free stops = λ h e. too_large h fault (free h e) stops
  large old new (ReadFailed p) free stops = absurd stops
  large old new (Missing p) free stops = absurd stops
  large old new (OutInUse p) free stops = absurd stops

  pub allowed : (held : Contents) (work : Work) → out_refusal out held ≡ None → IsFilesWork out program work → MakesFiles out program held work
  allowed held work free is = record {
    allowed = skip_none (out_refusal out held) (program_refusal program) free ∙ is.allowed;
    is = is.is;
  }

-- # The command

module _ (w : FmtWords) (old : Store) (program : Program) (base : IfTold old.held (λ h. IsCleanBase w.base h program)) where
  pub fmt_prepared : (mid : Store) (work : Work) → OnlyReads old mid → IfTold mid.held (λ h. MakesFiles w.out program h work)
      → Prepares (Command.fmt w) old work
  fmt_prepared mid work before made = λ h e. let is = made h (before.held ∙ e) in record {
    outcome = fmt_outcome w.out (program_texts program);
    comes = record { program = program; base = base h e; allowed = is.allowed; is = refl };
    is = is.is;
  }

  fmt_cause : (mid new : Store) (fault : StoreFault) → OnlyReads old mid → Stops (Only w.out) mid new (output_refusal w.out program) fault
      → StopsCommand (Command.fmt w) old new (store_status fault)
  fmt_cause mid new OutOfMemory before stops = tt
  fmt_cause mid new (ReadFailed p) before stops = (omega (arith, before.reads, stops.0), inr (inr (ap Some (sym stops.1))))
  fmt_cause mid new fault before stops = λ h e. FmtRefuses.files program (base h e) (stops h (before.held ∙ e))

  pub fmt_stopped : (mid new : Store) (fault : StoreFault) (refusal : Refusal) → OnlyReads old mid
      → Stops (Only w.out) mid new (output_refusal w.out program) fault
      → (refusal.status ≡ store_status fault) ⊎ (refusal.status ≡ no_memory) → line_bytes refusal.line ≡ refusal_line refusal.status
      → IsStopped (Command.fmt w) old new refusal
  fmt_stopped mid new fault refusal before stops said line = record {
    cause = either_stops (Command.fmt w) old new (store_status fault) refusal.status (fmt_cause mid new fault before stops) said;
    line = plain_line (Command.fmt w) old refusal (said_plain (store_status fault) refusal.status (store_plain fault) said) line;
  }

-- # What is carried

pub fmt_carries : (w : FmtWords) (fault : StoreFault) (said : Status) → Carries (Only w.out) NoPath (IsInside w.out) (store_status fault)
    → (said ≡ store_status fault) ⊎ (said ≡ no_memory) → CarriesOwn (fmt_paths w) said
fmt_carries w fault said carried (inl is) =
    let paths = fmt_paths w in
    subst (CarriesOwn paths) (sym is)
    (Carries-more (IsRead paths) (Only w.out) (IsInput paths) NoPath (IsInOut paths) (IsInside w.out) (store_status fault)
    (λ path only. inr (ap Some (sym only))) (λ path none. absurd none) (λ path below. below) carried)
fmt_carries w fault said carried (inr is) = subst (CarriesOwn (fmt_paths w)) (sym is) tt

-- # The program of a base, clean or not

module _ (w : FmtWords) (old : Store) (program : Program) (of : IfTold old.held (λ h. IsBaseOf w.base h program)) (rules : KeepsRules program) where
  clean_base : Clean program → IfTold old.held (λ h. IsCleanBase w.base h program)
  clean_base clean = λ h e. record { is = of h e; rules = rules; clean = clean }

  pub work_prepared : (mid : Store) (work : Work) → OnlyReads old mid → IsCleanWork w.out program mid work → Prepares (Command.fmt w) old work
  work_prepared mid work before is = fmt_prepared w old program (clean_base is.clean) mid work before is.made

  pub work_stopped : (mid new : Store) (refusal : Refusal) → OnlyReads old mid → IsProgramStopped w.out program mid new refusal
      → IsStopped (Command.fmt w) old new refusal
  work_stopped mid new refusal before (inl unclean) =
      base_stopped (Command.fmt w) w.base old new refusal (λ h s refuses. FmtRefuses.base refuses) (λ h s line is. is) (λ path below. inl below)
      (program_stopped w.base old new program of refusal unclean)
  work_stopped mid new refusal before (inr files) =
      fmt_stopped w old program (clean_base files.clean) mid new files.fault refusal before files.stops files.status files.line

pub work_carries : (w : FmtWords) (program : Program) (old new : Store) (refusal : Refusal) → IsProgramStopped w.out program old new refusal
    → CarriesOwn (fmt_paths w) refusal.status
work_carries w program old new refusal (inl unclean) =
    base_carries (fmt_paths w) refusal.status (unclean_carries w.base program refusal unclean)
work_carries w program old new refusal (inr files) = fmt_carries w files.fault refusal.status files.carries files.status
