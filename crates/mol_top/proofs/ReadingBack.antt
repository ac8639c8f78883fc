-- What `fmt`, `replay` and `merge` write reads back, and is in the one layout.
use Rattle.std.proofs.Common.{◌≡◌, ◌≢◌, ◌≤◌, ℕ, Bool, true, false, cond, List, [], ◌∷◌, length, map, refl, sym, ◌∙◌, ap, subst, arith}
use Rattle.std.specs.Prelude.{None, Some, All, Option, option_map, find, nat_lt}
use Rattle.std.specs.Option.{option_or}
use Rattle.std.proofs.lemmas.Bool.Decides.{nat_tests}
use Rattle.std.proofs.lemmas.List.Elements.{All-cons, All-head, All-nil, All-tail}
use Rattle.jav_print_laws.proofs.layout_lemmas.Back.{units_parse_back}
use Rattle.jav_print_laws.specs.layout.ParsesBack.{UnitParsesBack}
use Rattle.jav_print_laws.proofs.places_lemmas.Placeless.{units_are_as_high, units_print_alike}
use Rattle.jav_parse_unit.specs.BadToken.{most_height, most_items}
use Rattle.jav_tree.proofs.PrintedUnits.{prints_as_printed, settled_when_printed, unit_without_text}
use Rattle.jav_tree.specs.Height.{unit_height}
use Rattle.jav_tree.specs.Layout.{unit_text}
use Rattle.jav_tree.specs.Parens.{unit_without_parens}
use Rattle.jav_tree.specs.Places.{SameUnit}
use Rattle.jav_tree.specs.WithParens.{unit_with_parens}
use Rattle.mol_base.specs.Limits.{most}
use Rattle.mol_base.specs.declared.limit.Which.TheVariants.{Height}
use Rattle.mol_faults_rules.specs.declared.conflict.Conflict.{Conflict}
use Rattle.mol_log.specs.declared.log.Log.{Log}
use Rattle.mol_merge.proofs.Replayed.{merged_replays}
use Rattle.mol_merge.specs.Outcomes.{AreMergeable}
use Rattle.mol_outside.specs.Contents.{Contents}
use Rattle.mol_replay.proofs.Rules.{rules-left}
use Rattle.mol_replay.specs.Replays.{Replays}
use Rattle.mol_spell_files.specs.FileLimits.{files_limit, long_text, long_texts, many_files, passing, tall_tree}
use Rattle.mol_spell_files.specs.ProgramTexts.{printed_height, program_heights, program_texts}
use Rattle.mol_spell_files.specs.declared.limits.LimitFault.{LimitFault}
use Rattle.mol_spell_laws.proofs.Files.{files_printable}
use Rattle.mol_spell_laws.specs.PrintableFiles.{IsPrintableFile}
use Rattle.jav_source.specs.Sources.{IsUnitOf}
use Rattle.mol_spell_rules.specs.Clean.{Clean}
use Rattle.mol_spell_rules.specs.SpelledUnits.{SpelledUnit, spelling}
use Rattle.mol_table_rules.specs.Program.{Program}
use Rattle.mol_table_rules.specs.Rules.{IsProgram as KeepsRules}
use Rattle.mol_top.specs.Answers.{limit_status}
use Rattle.mol_top.specs.Command.{Command, FmtWords, MergeWords, ReplayWords}
use Rattle.mol_top.specs.Formatting.{FmtComesTo, program_refusal}
use Rattle.mol_top.specs.Merging.{Merge, MergeComesTo, MergesTo, left_by_both}
use Rattle.mol_top.specs.Output.{Outcome}
use Rattle.mol_top.specs.ReadBack.{FilesReadBack, FmtReadsBack, IsReadBack, MergeReadsBack, ReplayReadsBack}
use Rattle.mol_top.specs.Refusals.{out_refusal}
use Rattle.mol_top.specs.Replaying.{ReplayComesTo, left_by}
use Rattle.mol_top.specs.declared.status.Status.{Status}

-- # Heights within the limit

abbrev tall : ℕ → Bool
tall = nat_lt (most Height)

second_none : (first second : Option LimitFault) → option_or first second ≡ None → second ≡ None
second_none None second e = e
second_none (Some fault) second e = absurd cc

none_mapped : {A B : Type 0} (f : A → B) (o : Option A) → option_map f o ≡ None → o ≡ None
none_mapped f None e = refl
none_mapped f (Some a) e = absurd cc

-- no tree of a program that passes no limit is too high
none_tall : (program : Program) → program_refusal program ≡ None → find tall (program_heights program) ≡ None
none_tall program allowed =
    let texts = program_texts program in
    let heights = program_heights program in
    let within : files_limit texts heights ≡ None = none_mapped limit_status (files_limit texts heights) allowed in
    none_mapped (passing Height) (find tall heights)
    (second_none (long_texts 0 texts) (tall_tree heights)
    (second_none (long_text texts) (option_or (long_texts 0 texts) (tall_tree heights))
    (second_none (many_files texts) (option_or (long_text texts) (option_or (long_texts 0 texts) (tall_tree heights))) within)))

none_in : (height : ℕ) (heights : List ℕ) → find tall (height ∷ heights) ≡ None → (height ≤ most Height) × (find tall heights ≡ None)
none_in height heights e = at (tall height) refl e where
  at : (b : Bool) → tall height ≡ b → cond b (Some height) (find tall heights) ≡ None → (height ≤ most Height) × (find tall heights ≡ None)
  at true is e = absurd cc
  at false is e = (grind (arith, nat_tests, is), e)

-- # Files

module _ (file : SpelledUnit) (is : IsPrintableFile file) (low : printed_height file ≤ most_height) where
  back : UnitParsesBack most_items most_height (unit_text file.unit) file.unit
  back = units_parse_back file.unit most_items most_height (omega arith) is.printable (record { low = low; narrow = is.narrow })

  reads : IsUnitOf (unit_text file.unit) back.tree
  reads = record { tokens = back.tokens; source = back.source; tree = back.parsed }

  file_back : IsReadBack file
  file_back = record {
    tree = back.tree;
    reads = reads;
    as_printed = back.as_printed;
    dropped = subst (SameUnit (unit_without_parens back.tree)) is.bare back.dropped;
    settled = record {
      unit = back.tree;
      is = reads;
      layout = sym (unit_without_text back.tree ∙ units_print_alike back.tree (unit_with_parens file.unit) back.as_printed ∙ prints_as_printed file.unit);
      printed = sym (units_are_as_high back.tree (unit_with_parens file.unit) back.as_printed ∙ ap unit_height (settled_when_printed file.unit));
    };
  }

all_back : (files : List SpelledUnit) → All IsPrintableFile files → find tall (map printed_height files) ≡ None → All IsReadBack files
all_back [] all low = All-nil IsReadBack
all_back (file ∷ files) all low =
    let within = none_in (printed_height file) (map printed_height files) low in
    All-cons IsReadBack file files (file_back file (All-head IsPrintableFile file files all) within.0)
    (all_back files (All-tail IsPrintableFile file files all) within.1)

-- # Commands

-- the files of a clean program within the limits
sources_back : (program : Program) → KeepsRules program → Clean program → program_refusal program ≡ None → All IsReadBack (spelling program)
sources_back program rules clean allowed =
    all_back (spelling program) (files_printable.clean program rules clean) (none_tall program allowed)

second_allowed : (first second : Option Status) → option_or first second ≡ None → second ≡ None
second_allowed None second e = e
second_allowed (Some status) second e = absurd cc

fmt_back : (words : FmtWords) (held : Contents) (outcome : Outcome) → FmtComesTo words held outcome → FmtReadsBack words held outcome
fmt_back words held outcome comes = record {
  program = comes.program;
  base = comes.base;
  writes = record {
    files = ap (λ outcome. outcome.files) comes.is;
    read_back = sources_back comes.program comes.base.rules comes.base.clean
        (second_allowed (out_refusal words.out held) (program_refusal comes.program) comes.allowed);
  };
}

-- what a log leaves keeps the rules of programs, as its base does
replay_back : (words : ReplayWords) (held : Contents) (outcome : Outcome) → ReplayComesTo words held outcome
    → ReplayReadsBack words held outcome
replay_back words held outcome comes =
    let over = comes.comes in
    record {
      base = comes.base;
      log = over.log;
      clean = comes.clean;
      there = over.has.there;
      replays = over.replays;
      writes = record {
        files = ap (λ outcome. outcome.files) over.is;
        read_back = sources_back (left_by comes.base over.log) (rules-left comes.base over.log over.replays comes.clean.rules)
            over.replays.clean over.allowed;
      };
    }

first_none : {A : Type 0} (first second : Option A) → option_or first second ≡ None → first ≡ None
first_none None second e = refl
first_none (Some a) second e = absurd cc

module _ (base : Program) (rules : KeepsRules base) (first second merged : Log) (mergeable : AreMergeable base first second)
    (merge : Merge base first second merged) where
  abbrev both : Program
  both = left_by_both base first second

  replays : Replays base merged × (left_by base merged ≡ both)
  replays = merged_replays.replays base first second merged mergeable merge.none merge.log

  both_rules : KeepsRules both
  both_rules = subst KeepsRules replays.1 (rules-left base merged replays.0 rules)

  both_allowed : program_refusal both ≡ None
  both_allowed = ap (option_map limit_status) (first_none (files_limit (program_texts both) (program_heights both)) _ merge.within)

  both_back : All IsReadBack (spelling both)
  both_back = sources_back both both_rules (subst Clean replays.1 replays.0.clean) both_allowed

no_conflict : (list : List Conflict) → list ≢ [] → length list ≢ 0
no_conflict [] some is = some refl
no_conflict (conflict ∷ list) some is = cc

merge_back : (words : MergeWords) (held : Contents) (outcome : Outcome) → outcome.conflicts ≡ 0 → MergeComesTo words held outcome
    → MergeReadsBack words held outcome
merge_back words held outcome none comes = by comes.comes.comes where
  by : MergesTo words.out comes.base comes.comes.first comes.comes.second outcome → MergeReadsBack words held outcome
  by (MergesTo.merged log merge is) = record {
    base = comes.base;
    first = comes.comes.first;
    second = comes.comes.second;
    merged = log;
    clean = comes.clean;
    has = comes.comes.has;
    mergeable = comes.comes.mergeable;
    merge = merge;
    files = ap (λ outcome. outcome.files) is;
    read_back = both_back comes.base comes.clean.rules comes.comes.first comes.comes.second log comes.comes.mergeable merge;
  }
  by (MergesTo.conflicts list some are is) = absurd (no_conflict list some (sym (ap (λ outcome. outcome.conflicts) is) ∙ none))

pub files_read_back : (c : Command) (held : Contents) → FilesReadBack c held
files_read_back (Command.fmt words) held = fmt_back words held
files_read_back (Command.replay words) held = replay_back words held
files_read_back (Command.merge words) held = merge_back words held
files_read_back (Command.check words) held = tt
files_read_back (Command.ids words) held = tt
