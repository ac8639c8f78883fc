-- What `check` prints, and what refuses it.
use Rattle.std.specs.Prelude.{◌≡◌, ℕ, [], length}
use Rattle.mol_outside.specs.Contents.{Contents}
use Rattle.mol_table_rules.specs.Program.{Program}
use Rattle.mol_top.specs.Bases.{BaseRefuses, IsCleanBase}
use Rattle.mol_top.specs.Command.{CheckWords}
use Rattle.mol_top.specs.Files.{base_files}
use Rattle.mol_top.specs.Output.{Outcome}
use Rattle.mol_top.specs.Report.{check_report}
use Rattle.mol_top.specs.declared.status.Status.{Status}

abbrev pub CheckRefuses : CheckWords → Contents → Status → Type 0
CheckRefuses words held status = BaseRefuses words.base held status

-- so many files are a clean program; nothing is written
abbrev pub check_outcome : ℕ → Outcome
check_outcome files = record { conflicts = 0; files = []; report = check_report files }

-- nothing refuses the command, and it comes to this
pub record CheckComesTo (words : CheckWords) (held : Contents) (outcome : Outcome) : Type 0 where
  pub program : Program
  pub base : IsCleanBase words.base held program
  pub is : outcome ≡ check_outcome (length (base_files words.base held))
