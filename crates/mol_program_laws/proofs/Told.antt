-- Files are a program, or something is wrong with them first.
use Rattle.std.proofs.Common.{◌≡◌, ◌⊎◌, inl, inr, ℕ, zero, suc, ◌<◌, List, [], ◌∷◌, ◌++◌, length, Some, None, slice_get, refl, sym, ◌∙◌, ap, subst, arith}
use Rattle.std.specs.List.{All, AllZip}
use Rattle.std.specs.Global.{Global}
use Rattle.std.proofs.lemmas.Option.{same_Some}
use Rattle.jav_lex.proofs.Alone.{one_first}
use Rattle.jav_lex.proofs.Faults.{no_fault}
use Rattle.jav_lex.proofs.Tiling.{one_tiling}
use Rattle.jav_parse_unit.specs.BadToken.{IsFault, most_height, most_items, units}
use Rattle.jav_parse_unit.specs.declared.fault.ParseFault.{ParseFault}
use Rattle.jav_lex.specs.declared.fault.LexFault.{LexFault}
use Rattle.jav_source.specs.Sources.{IsFaultOf, IsUnitOf}
use Rattle.jav_source.specs.declared.fault.TextFault.{TextFault}
use Rattle.jav_source.specs.declared.fault.TextFault.TheVariants as text
use Rattle.jav_tree.specs.Trees.{IsUnit}
use Rattle.jav_tree.specs.declared.unit.Unit.{Unit as Tree}
use Rattle.mol_base.specs.Files.{ArePathsApart, FilePair}
use Rattle.mol_base.specs.Source.{IsSource}
use Rattle.mol_base.specs.Token.{Token}
use Rattle.mol_base.specs.declared.file.Place.{Place}
use Rattle.mol_program_laws.proofs.Lexed.{Lexed, lexed}
use Rattle.mol_program_laws.proofs.Parsed.{Parsed, meet, none_wrong, one_tree, one_wrong, parsed}
use Rattle.mol_program.proofs.TreesOfFiles.{file-of, sources-of, trees-apart, trees-are}
use Rattle.mol_program_laws.specs.Laws.{FilesTold, HasFault, HasProgram}
use Rattle.mol_program.specs.Programs.{AreParsed, AreRefused, IsFirstMisnamed, IsFirstUnread, IsFirstWrong, IsReadAs, IsSourceFile, place_in}
use Rattle.mol_program.specs.SourceTexts.{text_of}
use Rattle.mol_program.specs.declared.fault.SourceFault.{SourceFault}
use Rattle.mol_program.specs.declared.fault.SourceFault.TheVariants.{Lex, Parse, Resolve}
use Rattle.mol_resolve_faults.specs.ResolveFaults.{fault_of, place_of, resolve_fault}
use Rattle.mol_resolve_faults.specs.declared.fault.FaultPlace.{FaultPlace}
use Rattle.mol_resolve_faults.specs.declared.fault.ResolveFault.{ResolveFault}
use Rattle.mol_resolve_faults.specs.first_faults.FirstByPath.{IsFirstOf}
use Rattle.mol_resolve_laws.proofs.EntitiesPlain.{entities_plain}
use Rattle.mol_resolve_laws.specs.Entities.{plain_entities}
use Rattle.mol_resolve_rules.proofs.FirstFaults.{first_faults}
use Rattle.mol_resolve_rules.proofs.PlainForms.{plain_forms}
use Rattle.mol_resolve_rules.specs.FaultKinds as kinds
use Rattle.mol_resolve_rules.specs.FaultKinds.{FaultKind}
use Rattle.mol_resolve_rules.specs.Files.{File, Files}
use Rattle.mol_resolve_rules.specs.Outcomes.{TreeFault}
use Rattle.mol_resolve_rules.specs.ReadAs.{HasNoFault, IsParsed, IsPlain}
use Rattle.mol_resolve_rules.specs.ResolveFaults.{IsFirstFault}
use Rattle.mol_table_rules.specs.Program.{Program, nothing}
use Rattle.mol_table_rules.specs.Rules.{IsProgram as KeepsRules}
use Rattle.mol_table_rules.specs.Writes.{with_entities}

-- what is wrong with the text of a file
abbrev of_text : TextFault → SourceFault
of_text (text.Lex fault) = Lex fault
of_text (text.Parse fault) = Parse fault

-- a fault of a kind is where it was put
place-of : (kind : FaultKind) (place : FaultPlace) → place_of (fault_of kind place) ≡ place
place-of kinds.path_differs place = refl
place-of kinds.duplicate_class place = refl
place-of kinds.package_is_class place = refl
place-of kinds.super_cycle place = refl
place-of kinds.import_clash place = refl
place-of kinds.duplicate_member place = refl
place-of kinds.overload_by_type place = refl
place-of kinds.result_differs place = refl
place-of kinds.static_hidden place = refl
place-of kinds.redeclared place = refl
place-of kinds.unknown_name place = refl
place-of kinds.unknown_member place = refl
place-of kinds.static_by_instance place = refl
place-of kinds.receiver_type place = refl

module _ (alloc : Global) where
  -- # One source

  -- the bytes are a source, or something is wrong with them
  abbrev Sourced : List ℕ → Type 0
  Sourced bytes = ((unit : Tree) × IsUnitOf bytes unit) ⊎ ((fault : TextFault) × IsFaultOf bytes fault)

  sourced : (bytes : List ℕ) → Sourced bytes
  sourced bytes = by_tokens (lexed bytes) where
    by_tree : (tokens : List Token) → IsSource bytes tokens → Parsed tokens → Sourced bytes
    by_tree tokens source (inl tree) = inl (tree.0, record { tokens = tokens; source = source; tree = tree.1 })
    by_tree tokens source (inr fault) = inr (text.Parse fault.0, record { tokens = tokens; source = source; there = fault.1 })

    by_tokens : Lexed bytes → Sourced bytes
    by_tokens (inl tokens) = by_tree tokens.0 tokens.1 (parsed alloc tokens.0)
    by_tokens (inr fault) = inr (text.Lex fault.0, fault.1)

  one_unit : (bytes : List ℕ) (first second : Tree) → IsUnitOf bytes first → IsUnitOf bytes second → first ≡ second
  one_unit bytes first second of other =
      one_tree alloc of.tokens first second of.tree (subst (IsUnit most_items most_height second)
      (one_tiling bytes 0 other.tokens of.tokens other.source.tiles of.source.tiles) other.tree)

  never_both : (bytes : List ℕ) (unit : Tree) (fault : TextFault) → IsUnitOf bytes unit → ¬ IsFaultOf bytes fault
  never_both bytes unit (text.Lex fault) of is = no_fault bytes of.tokens of.source fault is.there
  never_both bytes unit (text.Parse fault) of is =
      none_wrong units is.tokens fault (
        unit,
        subst (IsUnit most_items most_height unit)
            (one_tiling bytes 0 of.tokens is.tokens of.source.tiles is.source.tiles) of.tree,
      ) is.there

  one_flaw : (bytes : List ℕ) (first second : TextFault) → IsFaultOf bytes first → IsFaultOf bytes second → first ≡ second
  one_flaw bytes (text.Lex first) (text.Lex second) is other = ap text.Lex (one_first bytes first second is other)
  one_flaw bytes (text.Lex first) (text.Parse second) is other = absurd (no_fault bytes other.tokens other.source first is.there)
  one_flaw bytes (text.Parse first) (text.Lex second) is other = absurd (no_fault bytes is.tokens is.source second other.there)
  one_flaw bytes (text.Parse first) (text.Parse second) is other =
      ap text.Parse (one_wrong units other.tokens first second (subst (λ ts. IsFault units ts first)
      (one_tiling bytes 0 is.tokens other.tokens is.source.tiles other.source.tiles) is.there) other.there)

  -- # Many sources

  unit-of : (file : FilePair) (tree : File) → IsParsed (text_of file) tree → IsUnitOf file.1 tree.unit
  unit-of file tree is = record { tokens = is.tokens; source = is.lexes; tree = is.parses }

  unread : (file : FilePair) (fault : TextFault) → IsFaultOf file.1 fault → ¬ IsSourceFile file
  unread file fault is source = never_both file.1 source.tree.unit fault (unit-of file source.tree source.parsed) is

  abbrev Read : List FilePair → Type 0
  Read files = ((trees : Files) × AreParsed files trees) ⊎ ((file : FilePair) × (fault : TextFault) × IsFirstUnread files file fault)

  read : (files : List FilePair) → Read files
  read [] = inl ([], tt)
  read (file ∷ files) = by (sourced file.1) (read files) where
    tree_of : Tree → File
    tree_of unit = record { path = file.0; unit = unit }

    parsed_as : (unit : Tree) → IsUnitOf file.1 unit → IsParsed (text_of file) (tree_of unit)
    parsed_as unit is = record { path = refl; tokens = is.tokens; lexes = is.source; parses = is.tree }

    before : (unit : Tree) → IsUnitOf file.1 unit → (later : List FilePair) → All IsSourceFile later → All IsSourceFile (file ∷ later)
    before unit is later all zero d within = record { tree = tree_of unit; parsed = parsed_as unit is }
    before unit is later all (suc k) d within = all k d (omega (arith, within))

    by : Sourced file.1 → Read files → Read (file ∷ files)
    by (inl unit) (inl trees) = inl (tree_of unit.0 ∷ trees.0, (parsed_as unit.0 unit.1, trees.1))
    by (inl unit) (inr wrong) = inr (
      wrong.0,
      wrong.1,
      record {
        before = file ∷ wrong.2.before;
        after = wrong.2.after;
        split = ap (λ fs. file ∷ fs) wrong.2.split;
        sources = before unit.0 unit.1 wrong.2.before wrong.2.sources;
        there = wrong.2.there;
      },
    )
    by (inr fault) rest = inr (
      file,
      fault.0,
      record {
        before = [];
        after = files;
        split = refl;
        sources = λ k d within. absurd (omega (arith, within));
        there = fault.1;
      },
    )

  one_parse : (files : List FilePair) (first second : Files) → AreParsed files first → AreParsed files second → first ≡ second
  one_parse [] [] [] are other = refl
  one_parse [] [] (t ∷ second) are other = absurd other
  one_parse [] (t ∷ first) second are other = absurd are
  one_parse (f ∷ files) [] second are other = absurd are
  one_parse (f ∷ files) (t ∷ first) [] are other = absurd other
  one_parse (f ∷ files) (t ∷ first) (u ∷ second) are other =
      let rest = one_parse files first second are.1 other.1 in
      let path : t.path ≡ u.path = are.0.path ∙ sym other.0.path in
      let unit : t.unit ≡ u.unit = one_unit f.1 t.unit u.unit (unit-of f t are.0) (unit-of f u other.0) in
      λ i. record { path = path i; unit = unit i } ∷ rest i

  -- a file that is the source of no tree is not among those that are
  never_parsed : (files : List FilePair) (trees : Files) (file : FilePair) (fault : TextFault) → AreParsed files trees
      → ¬ IsFirstUnread files file fault
  never_parsed files trees file fault are wrong =
      at wrong.before (subst (All IsSourceFile) wrong.split (sources-of files trees are)) where
        at : (front : List FilePair) → All IsSourceFile (front ++ file ∷ wrong.after) → ⊥
        at [] all = unread file fault wrong.there (all 0 file (omega arith))
        at (f ∷ front) all = at front (λ k d within. all (suc k) d (omega (arith, within)))

  fewer : (front back : List FilePair) → All IsSourceFile (front ++ back) → All IsSourceFile front
  fewer [] back all k d within = absurd (omega (arith, within))
  fewer (f ∷ front) back all zero d within = all 0 d (omega arith)
  fewer (f ∷ front) back all (suc k) d within = fewer front back (λ k d within. all (suc k) d (omega (arith, within))) k d (omega (arith, within))

  last-source : (front : List FilePair) (file : FilePair) → All IsSourceFile (front ++ file ∷ []) → IsSourceFile file
  last-source [] file all = all 0 file (omega arith)
  last-source (f ∷ front) file all = last-source front file (λ k d within. all (suc k) d (omega (arith, within)))

  one_unread : (files : List FilePair) (file other : FilePair) (fault second : TextFault) → IsFirstUnread files file fault
      → IsFirstUnread files other second → (file ≡ other) × (fault ≡ second)
  one_unread files file other fault second is also =
      let place = meet (All IsSourceFile) fewer is.before also.before file other is.after also.after (sym is.split ∙ also.split)
      is.sources also.sources (λ all. unread file fault is.there (last-source is.before file all))
      (λ all. unread other second also.there (last-source also.before other all)) in
      (place.1, one_flaw other.1 fault second (subst (λ (f : FilePair). IsFaultOf f.1 fault) place.1 is.there) also.there)

  -- # Names

  -- the first fault of names of files
  misnamed : (files : List FilePair) (trees : Files) → AreParsed files trees
      → (kind : FaultKind) (number at : ℕ) → IsFirstFault trees kind number at → HasFault files
  misnamed files trees are kind number at first =
      let found : TreeFault = record { kind = kind; at = at } in
      let fault : ResolveFault = resolve_fault number found in
      let there = file-of files trees number first.file are first.stands in
      let unit : (place_of fault).unit ≡ number = ap (λ (place : FaultPlace). place.unit) (place-of kind _) in
      record {
        place = place_in there.0 (Resolve fault);
        fault = Resolve fault;
        refused = record {
          file = there.0;
          first = record {
            trees = trees;
            parsed = are;
            first = record { number = number; first = found; is = refl; is_first = first };
            stands = subst (λ n. slice_get files n ≡ Some there.0) (sym unit) there.1;
          };
          at = refl;
        };
      }

  one_misnamed : (files : List FilePair) → ArePathsApart files → (file other : FilePair) (fault second : ResolveFault)
      → IsFirstMisnamed files file fault → IsFirstMisnamed files other second → (file ≡ other) × (fault ≡ second)
  one_misnamed files apart file other fault second is also =
      let trees : is.trees ≡ also.trees = one_parse files is.trees also.trees is.parsed also.parsed in
      let first : IsFirstOf also.trees fault = subst (λ ts. IsFirstOf ts fault) trees is.first in
      let same = first_faults.unique also.trees (trees-apart files also.trees apart also.parsed) first.first.kind also.first.first.kind
      first.number also.first.number first.first.at also.first.first.at first.is_first also.first.is_first in
      let faults : fault ≡ second = first.is ∙ (λ i. resolve_fault (same.1 i) (record { kind = same.0 i; at = same.2 i })) ∙ sym also.first.is in
      (same_Some file other (sym is.stands ∙ (λ i. slice_get files (place_of (faults i)).unit) ∙ also.stands), faults)

  -- # The law

  abbrev made : (files : List FilePair) (trees : Files) → AreParsed files trees → HasNoFault trees → HasProgram files
  made files trees are none =
      let all = trees-are files trees are in
      let entities = plain_entities trees in
      record {
        program = with_entities nothing entities;
        read = record {
          trees = trees;
          parsed = are;
          read = entities_plain.read trees entities none all (entities_plain.listed trees);
          plain = entities_plain.plain trees entities none all (entities_plain.listed trees);
        };
      }

  unread-fault : (files : List FilePair) (file : FilePair) (fault : TextFault) → IsFirstUnread files file fault → HasFault files
  unread-fault files file (text.Lex fault) is = record {
    place = place_in file (Lex fault);
    fault = Lex fault;
    refused = record { file = file; first = is; at = refl };
  }
  unread-fault files file (text.Parse fault) is = record {
    place = place_in file (Parse fault);
    fault = Parse fault;
    refused = record { file = file; first = is; at = refl };
  }

  either : (files : List FilePair) → HasProgram files ⊎ HasFault files
  either files = by (read files) where
    by_names : (trees : Files) → AreParsed files trees
        → HasNoFault trees ⊎ ((kind : FaultKind) × ((number : ℕ) × ((at : ℕ) × IsFirstFault trees kind number at)))
        → HasProgram files ⊎ HasFault files
    by_names trees are (inl none) = inl (made files trees are none)
    by_names trees are (inr h) = inr (misnamed files trees are h.0 h.1.0 h.1.1.0 h.1.1.1)

    by : Read files → HasProgram files ⊎ HasFault files
    by (inl trees) = by_names trees.0 trees.1 (first_faults.first trees.0)
    by (inr wrong) = inr (unread-fault files wrong.0 wrong.1 wrong.2)

  one_program : (files : List FilePair) (first second : Program) → IsReadAs files first → IsReadAs files second → first ≡ second
  one_program files first second is also =
      plain_forms.unique also.trees first second
      (subst (λ ts. IsPlain ts first) (one_parse files is.trees also.trees is.parsed also.parsed) is.plain) also.plain

  rules : (files : List FilePair) (program : Program) → IsReadAs files program → KeepsRules program
  rules files program is =
      let none = is.read.no_fault in
      let entities = plain_entities is.trees in
      subst KeepsRules
      (one_program files (with_entities nothing entities) program (made files is.trees is.parsed none).read is)
      (entities_plain.new is.trees entities none (trees-are files is.trees is.parsed) (entities_plain.listed is.trees)).rules

  -- a program has no fault
  never_wrong : (files : List FilePair) (program : Program) (file : FilePair) (fault : SourceFault) → IsReadAs files program
      → ¬ IsFirstWrong files file fault
  never_wrong files program file (Lex fault) is wrong = never_parsed files is.trees file (text.Lex fault) is.parsed wrong
  never_wrong files program file (Parse fault) is wrong = never_parsed files is.trees file (text.Parse fault) is.parsed wrong
  never_wrong files program file (Resolve fault) is wrong =
      let trees = one_parse files wrong.trees is.trees wrong.parsed is.parsed in
      let first : IsFirstOf is.trees fault = subst (λ ts. IsFirstOf ts fault) trees wrong.first in
      is.read.no_fault first.first.kind first.number first.first.at first.is_first.holds

  one_wrong_file : (files : List FilePair) → ArePathsApart files → (file other : FilePair) (fault second : SourceFault)
      → IsFirstWrong files file fault → IsFirstWrong files other second → (file ≡ other) × (fault ≡ second)
  one_wrong_file files apart file other (Lex fault) (Lex second) is also =
      let same = one_unread files file other (text.Lex fault) (text.Lex second) is also in (same.0, ap of_text same.1)
  one_wrong_file files apart file other (Lex fault) (Parse second) is also =
      let same = one_unread files file other (text.Lex fault) (text.Parse second) is also in (same.0, ap of_text same.1)
  one_wrong_file files apart file other (Parse fault) (Lex second) is also =
      let same = one_unread files file other (text.Parse fault) (text.Lex second) is also in (same.0, ap of_text same.1)
  one_wrong_file files apart file other (Parse fault) (Parse second) is also =
      let same = one_unread files file other (text.Parse fault) (text.Parse second) is also in (same.0, ap of_text same.1)
  one_wrong_file files apart file other (Resolve fault) (Resolve second) is also =
      let same = one_misnamed files apart file other fault second is also in (same.0, ap Resolve same.1)
  one_wrong_file files apart file other (Lex fault) (Resolve second) is also =
      absurd (never_parsed files also.trees file (text.Lex fault) also.parsed is)
  one_wrong_file files apart file other (Parse fault) (Resolve second) is also =
      absurd (never_parsed files also.trees file (text.Parse fault) also.parsed is)
  one_wrong_file files apart file other (Resolve fault) (Lex second) is also =
      absurd (never_parsed files is.trees other (text.Lex second) is.parsed also)
  one_wrong_file files apart file other (Resolve fault) (Parse second) is also =
      absurd (never_parsed files is.trees other (text.Parse second) is.parsed also)

  one_fault : (files : List FilePair) → ArePathsApart files → (place other : Place) (fault second : SourceFault)
      → AreRefused files place fault → AreRefused files other second → (place ≡ other) × (fault ≡ second)
  one_fault files apart place other fault second is also =
      let same = one_wrong_file files apart is.file also.file fault second is.first also.first in
      (is.at ∙ (λ i. place_in (same.0 i) (same.1 i)) ∙ sym also.at, same.1)

pub told : Global → FilesTold
told alloc = record {
  either = either alloc;
  apart = λ files program place fault is wrong. never_wrong alloc files program wrong.file fault is wrong.first;
  one_program = one_program alloc;
  rules = rules alloc;
  one_fault = one_fault alloc;
}
