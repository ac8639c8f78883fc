-- Answers are exact: what a store holds says which answer a command has.
use Rattle.std.specs.Prelude.{◌≡◌, ◌⊎◌, ℕ, List}
use Rattle.mol_outside.specs.Contents.{Contents}
use Rattle.mol_top.specs.Command.{Command}
use Rattle.mol_top.specs.Outcome.{ComesTo, IsAddressesLine, Refuses}
use Rattle.mol_top.specs.Output.{Outcome}
use Rattle.mol_top.specs.declared.status.Status.{Status}

-- some status refuses a command over given contents
pub record IsRefused (c : Command) (held : Contents) : Type 0 where
  pub status : Status
  pub refuses : Refuses c held status

-- the command comes to something
pub record HasOutcomeOver (c : Command) (held : Contents) : Type 0 where
  pub outcome : Outcome
  pub comes : ComesTo c held outcome

-- Over given contents a command is refused or comes to an outcome, and not both. One status refuses it, with one line, and it comes to one
-- outcome.
pub record IsExact (c : Command) (held : Contents) : Type 0 where
  pub either : IsRefused c held ⊎ HasOutcomeOver c held
  pub apart : (status : Status) (outcome : Outcome) → Refuses c held status → ¬ ComesTo c held outcome
  pub one_refusal : (first second : Status) → Refuses c held first → Refuses c held second → first ≡ second
  pub one_line : (status : Status) (first second : List ℕ) → IsAddressesLine c held status first → IsAddressesLine c held status second
      → first ≡ second
  pub one_outcome : (first second : Outcome) → ComesTo c held first → ComesTo c held second → first ≡ second

-- So it is with each command over whatever is held.
pub record AnswersExact : Type 0 where
  pub exact : (c : Command) (held : Contents) → IsExact c held
