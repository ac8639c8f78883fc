-- What `ids` prints, and what refuses it.
use Rattle.hex.specs.Hex.{encode_lower}
use Rattle.std.specs.Prelude.{◌≡◌, ℕ, List, [], ◌∷◌, ◌++◌, codes}
use Rattle.mol_outside.specs.Contents.{Contents}
use Rattle.mol_report.specs.Ids.{ids_text}
use Rattle.mol_spell_files.specs.Bundle.{digest_of}
use Rattle.mol_table_rules.specs.Program.{Program}
use Rattle.mol_top.specs.Bases.{BaseRefuses, IsCleanBase}
use Rattle.mol_top.specs.Command.{IdsWords}
use Rattle.mol_top.specs.Output.{Outcome}
use Rattle.mol_top.specs.declared.status.Status.{Status}

abbrev pub IdsRefuses : IdsWords → Contents → Status → Type 0
IdsRefuses words held status = BaseRefuses words.base held status

-- the digest of a program in hexadecimal, and a line for each of its identities
abbrev pub ids_report : Program → List ℕ
ids_report program = codes "base " ++ encode_lower (digest_of program) ++ 10 ∷ ids_text program

-- nothing is written
abbrev pub ids_outcome : Program → Outcome
ids_outcome program = record { conflicts = 0; files = []; report = ids_report program }

-- nothing refuses the command, and it comes to this
pub record IdsComesTo (words : IdsWords) (held : Contents) (outcome : Outcome) : Type 0 where
  pub program : Program
  pub base : IsCleanBase words.base held program
  pub is : outcome ≡ ids_outcome program
