-- Answers are exact.
use Rattle.std.proofs.Common.{◌≡◌, ◌⊎◌, inl, inr, ℕ, List, Some, length}
use Rattle.std.specs.Global.{Global}
use Rattle.mol_outside.specs.Contents.{Contents}
use Rattle.mol_spell_files.specs.ProgramTexts.{program_texts}
use Rattle.mol_table_rules.specs.Program.{Program}
use Rattle.mol_top_laws.proofs.CleanBases.{base_step, one_program_line}
use Rattle.mol_top_laws.proofs.Merging as merging
use Rattle.mol_top_laws.proofs.Replaying as replaying
use Rattle.mol_top_laws.proofs.Steps.{IsExactStep, SomeRefuses, given_as, in_turn, option_step, reworded}
use Rattle.mol_top_laws.specs.Exact.{AnswersExact, HasOutcomeOver, IsExact, IsRefused}
use Rattle.mol_top.specs.Bases.{BaseRefuses, IsCleanBase}
use Rattle.mol_top.specs.Checking.{CheckComesTo, check_outcome}
use Rattle.mol_top.specs.Command.{CheckWords, Command, FmtWords, IdsWords}
use Rattle.mol_top.specs.Files.{base_files}
use Rattle.mol_top.specs.Formatting.{FmtComesTo, FmtRefuses, fmt_outcome, output_refusal}
use Rattle.mol_top.specs.Listing.{IdsComesTo, ids_outcome}
use Rattle.mol_top.specs.Outcome.{ComesTo, IsAddressesLine, Refuses}
use Rattle.mol_top.specs.Output.{Outcome}
use Rattle.mol_top.specs.declared.status.Status.{Status}

module _ (alloc : Global) where
  -- # `check`

  check_step : (w : CheckWords) (held : Contents) → IsExactStep (BaseRefuses w.base held) (CheckComesTo w held)
  check_step w held =
      reworded (given_as (base_step alloc w.base held) (λ program. check_outcome (length (base_files w.base held))))
      (λ status refused. refused) (λ status refused. refused)
      (λ outcome given. record { program = given.0; base = given.1; is = given.2 })
      (λ outcome (comes : CheckComesTo w held outcome). (comes.program, comes.base, comes.is))

  -- # `ids`

  ids_step : (w : IdsWords) (held : Contents) → IsExactStep (BaseRefuses w.base held) (IdsComesTo w held)
  ids_step w held =
      reworded (given_as (base_step alloc w.base held) ids_outcome)
      (λ status refused. refused) (λ status refused. refused)
      (λ outcome given. record { program = given.0; base = given.1; is = given.2 })
      (λ outcome (comes : IdsComesTo w held outcome). (comes.program, comes.base, comes.is))

  -- # `fmt`

  module _ (w : FmtWords) (held : Contents) where
    abbrev RefusesFiles : Program → Status → Type 0
    RefusesFiles program status = output_refusal w.out program held ≡ Some status

    abbrev Refused : Status → Type 0
    Refused = SomeRefuses (BaseRefuses w.base held) (IsCleanBase w.base held) RefusesFiles

    fmt-to : (status : Status) → Refused status → FmtRefuses w held status
    fmt-to status (inl refused) = FmtRefuses.base refused
    fmt-to status (inr later) = FmtRefuses.files later.0 later.1 later.2

    fmt-from : (status : Status) → FmtRefuses w held status → Refused status
    fmt-from status (FmtRefuses.base refused) = inl refused
    fmt-from status (FmtRefuses.files program is says) = inr (program, is, says)

    fmt_step : IsExactStep (FmtRefuses w held) (FmtComesTo w held)
    fmt_step =
        reworded
        (in_turn (base_step alloc w.base held)
        (λ program is. option_step (output_refusal w.out program held) (fmt_outcome w.out (program_texts program))))
        fmt-to fmt-from
        (λ outcome given. record { program = given.0; base = given.1; allowed = given.2.0; is = given.2.1 })
        (λ outcome (comes : FmtComesTo w held outcome). (comes.program, comes.base, (comes.allowed, comes.is)))

-- # The law

module _ (c : Command) (held : Contents) (step : IsExactStep (Refuses c held) (ComesTo c held)) where
  either-by : ((status : Status) × Refuses c held status) ⊎ ((outcome : Outcome) × ComesTo c held outcome)
      → IsRefused c held ⊎ HasOutcomeOver c held
  either-by (inl refused) = inl (record { status = refused.0; refuses = refused.1 })
  either-by (inr comes) = inr (record { outcome = comes.0; comes = comes.1 })

  exact-by : ((status : Status) (first second : List ℕ) → IsAddressesLine c held status first → IsAddressesLine c held status second
      → first ≡ second)
      → IsExact c held
  exact-by one_line = record {
    either = either-by step.either;
    apart = step.apart;
    one_refusal = step.one_refusal;
    one_line = one_line;
    one_outcome = step.one_gift;
  }

exact : (alloc : Global) (c : Command) (held : Contents) → IsExact c held
exact alloc (Command.merge w) held =
    exact-by (Command.merge w) held (merging.command_step w held alloc) (one_program_line alloc w.base held)
exact alloc (Command.check w) held = exact-by (Command.check w) held (check_step alloc w held) (one_program_line alloc w.base held)
exact alloc (Command.fmt w) held = exact-by (Command.fmt w) held (fmt_step alloc w held) (one_program_line alloc w.base held)
exact alloc (Command.ids w) held = exact-by (Command.ids w) held (ids_step alloc w held) (one_program_line alloc w.base held)
exact alloc (Command.replay w) held =
    exact-by (Command.replay w) held (replaying.command_step w held alloc) (one_program_line alloc w.base held)

pub all_exact : Global → AnswersExact
all_exact alloc = record { exact = exact alloc }
