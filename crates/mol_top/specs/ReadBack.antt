-- What `fmt`, `replay` and `merge` write reads back.
use Rattle.std.specs.Prelude.{◌≡◌, ℕ, ⊤, List, All}
use Rattle.jav_tree.specs.declared.unit.Unit.{Unit as Tree}
use Rattle.jav_tree.specs.Layout.{unit_text}
use Rattle.jav_tree.specs.Parens.{unit_without_parens}
use Rattle.jav_tree.specs.Places.{SameUnit}
use Rattle.jav_tree.specs.WithParens.{unit_with_parens}
use Rattle.mol_log.specs.declared.log.Log.{Log}
use Rattle.mol_merge.specs.Outcomes.{AreMergeable}
use Rattle.mol_outside.specs.Contents.{Contents}
use Rattle.mol_replay.specs.Replays.{Replays}
use Rattle.jav_source.specs.Sources.{IsSettled, IsUnitOf}
use Rattle.mol_spell_files.specs.ProgramTexts.{printed_height, program_texts}
use Rattle.mol_spell_rules.specs.SpelledUnits.{SpelledUnit, spelling}
use Rattle.mol_table_rules.specs.Program.{Program}
use Rattle.mol_top.specs.Bases.{IsCleanBase}
use Rattle.mol_top.specs.Command.{Command, FmtWords, MergeWords, ReplayWords}
use Rattle.mol_top.specs.Formatting.{FmtComesTo}
use Rattle.mol_top.specs.Logs.{IsLogAt}
use Rattle.mol_top.specs.Merging.{HasLogs, Merge, MergeComesTo, left_by_both, with_log}
use Rattle.mol_top.specs.Output.{Outcome, below}
use Rattle.mol_top.specs.Replaying.{ReplayComesTo, left_by}

-- The text of a file that a program is spelled as is the source of a tree again, which but for places is that file's tree as printed, and
-- so that tree without parentheses; and it is in the one layout already.
pub record IsReadBack (file : SpelledUnit) : Type 0 where
  pub tree : Tree
  pub reads : IsUnitOf (unit_text file.unit) tree
  pub as_printed : SameUnit tree (unit_with_parens file.unit)
  pub dropped : SameUnit (unit_without_parens tree) file.unit
  pub settled : IsSettled (unit_text file.unit) (printed_height file)

-- an outcome writes the files of a program below a folder, and each reads back
pub record WritesSources (out : List ℕ) (program : Program) (outcome : Outcome) : Type 0 where
  pub files : outcome.files ≡ below out (program_texts program)
  pub read_back : All IsReadBack (spelling program)

-- those of the program of a base
pub record FmtReadsBack (words : FmtWords) (held : Contents) (outcome : Outcome) : Type 0 where
  pub program : Program
  pub base : IsCleanBase words.base held program
  pub writes : WritesSources words.out program outcome

-- those of what a log leaves of a base
pub record ReplayReadsBack (words : ReplayWords) (held : Contents) (outcome : Outcome) : Type 0 where
  pub base : Program
  pub log : Log
  pub clean : IsCleanBase words.base held base
  pub there : IsLogAt words.log held log
  pub replays : Replays base log
  pub writes : WritesSources words.out (left_by base log) outcome

-- Those of what two logs leave together of a base, where nothing in them conflicts. The log of both is written behind them.
pub record MergeReadsBack (words : MergeWords) (held : Contents) (outcome : Outcome) : Type 0 where
  pub base : Program
  pub first : Log
  pub second : Log
  pub merged : Log
  pub clean : IsCleanBase words.base held base
  pub has : HasLogs words held first second
  pub mergeable : AreMergeable base first second
  pub merge : Merge base first second merged
  pub files : outcome.files ≡ with_log words.out (program_texts (left_by_both base first second)) merged
  pub read_back : All IsReadBack (spelling (left_by_both base first second))

-- whatever a command comes to that writes a program reads back
abbrev pub FilesReadBack : Command → Contents → Type 0
FilesReadBack (Command.fmt words) held = (outcome : Outcome) → FmtComesTo words held outcome → FmtReadsBack words held outcome
FilesReadBack (Command.replay words) held = (outcome : Outcome) → ReplayComesTo words held outcome → ReplayReadsBack words held outcome
FilesReadBack (Command.merge words) held =
    (outcome : Outcome) → outcome.conflicts ≡ 0 → MergeComesTo words held outcome → MergeReadsBack words held outcome
FilesReadBack command held = ⊤
