-- The faults that are met file by file.
use Rattle.std.proofs.Common.{◌≡◌, ◌⊎◌, inl, inr, ℕ, ◌+◌, ◌<◌, ◌≤◌, List, [], ◌∷◌, ◌++◌, flat_map, filter, length, take, drop, get_or, Contains, Option, Some, None, option_map, slice_get, refl, sym, ◌∙◌, ap, subst, arith}
use Rattle.std.proofs.lemmas.List.{drop_more, length-map, take-append-drop, take_all, take_more}
use Rattle.std.proofs.lemmas.List.Elements.{Contains-push_cases}
use Rattle.std.proofs.lemmas.Option.{get_or_from_slice_get, same_Some, slice_get-map, slice_get_within}
use Rattle.jav_scope.specs.declared.source.SourceUnit.{SourceUnit}
use Rattle.jav_names.proofs.Lists.{stands_nowhere}
use Rattle.jav_names.specs.UnitViews.{numbered}
use Rattle.mol_resolve_faults.specs.first_faults.FirstByPath.{first_in, IsFirstOf}
use Rattle.mol_resolve_faults.proofs.first_faults_lemmas.FirstInOrder.{first_by_path}
use Rattle.mol_resolve_faults.proofs.SameFaults.{kept_alike}
use Rattle.mol_resolve_faults.specs.First.{all_noted}
use Rattle.mol_resolve_faults.specs.ResolveFaults.{resolve_fault}
use Rattle.mol_resolve_faults.specs.declared.fault.ResolveFault.{ResolveFault}
use Rattle.mol_resolve_members.specs.places.Orders.{numbers_by_path}
use Rattle.mol_resolve_laws.specs.Entities.{plain_entities}
use Rattle.mol_resolve.proofs.FilesAdded.{AreRead, all-read, one-more}
use Rattle.mol_resolve.specs.Added.{IsAdded}
use Rattle.mol_resolve.specs.declared.entities.Entities.{Entities}
use Rattle.mol_resolve_members.proofs.sources_lemmas.Sourced.{source-there}
use Rattle.mol_resolve_members.specs.sources.Sources.{file_of, files_of}
use Rattle.mol_resolve_rules.proofs.FilesStand.{from-by_path}
use Rattle.mol_resolve_rules.proofs.Stands.{from_numbered, get-below, in_place}
use Rattle.mol_resolve_rules.specs.FaultKinds.{every_kind}
use Rattle.mol_resolve_rules.specs.FaultLists.{at_place, faults_beside, has_fault}
use Rattle.mol_resolve_rules.specs.Files.{File, Files, placed}
use Rattle.mol_resolve_rules.specs.Numbering.{by_path}
use Rattle.mol_resolve_rules.specs.Outcomes.{TreeFault}
use Rattle.mol_resolve_rules.specs.ReadAs.{HasNoFault}
use Rattle.mol_resolve_rules.specs.ReadFiles.{member_faults, superclass_faults}
use Rattle.mol_resolve_rules.specs.ResolveFaults.{HavePathsApart, rows_in}

-- ---- in one file

module _ (files : Files) (file : ℕ × File) where
  abbrev pub outside_trees : List TreeFault
  outside_trees = at_place 0 (filter (has_fault files file) every_kind) ++ flat_map (faults_beside files) (rows_in files file)

  abbrev pub in_members : List TreeFault
  in_members = flat_map (λ member. member_faults files (placed files file member)) (numbered file.1.unit.class.members)

  -- those of the class and between members, those of what it extends, and those in members
  pub whole-noted : (begun first second third : Option TreeFault) → begun ≡ None → first ≡ all_noted begun outside_trees
      → second ≡ all_noted first (superclass_faults files file) → third ≡ all_noted second in_members → third ≡ first_in files file
  whole-noted begun first second third none one two three =
      three ∙ ap (λ noted. all_noted noted in_members) (two ∙ ap (λ noted. all_noted noted (superclass_faults files file))
      (one ∙ ap (λ noted. all_noted noted outside_trees) none))
      ∙ sym (kept_alike.in_turn (all_noted None outside_trees) (superclass_faults files file) in_members)
      ∙ sym (kept_alike.in_turn None outside_trees (superclass_faults files file ++ in_members))

  -- so what was noted is the first in the file, if it has one
  pub first-noted : (noted : Option TreeFault) (fault : ResolveFault) → noted ≡ first_in files file
      → option_map (resolve_fault file.0) noted ≡ Some fault → option_map (resolve_fault file.0) (first_in files file) ≡ Some fault
  first-noted noted fault is met = ap (option_map (resolve_fault file.0)) (sym is) ∙ met

  pub none-noted : (noted : Option TreeFault) → noted ≡ first_in files file → noted ≡ None → first_in files file ≡ None
  none-noted noted is none = sym is ∙ none

-- the fault that is reported of a file is the first in it
reported : (met : Option TreeFault) (number : ℕ) (fault : ResolveFault) → option_map (resolve_fault number) met ≡ Some fault
    → (first : TreeFault) × (met ≡ Some first) × (fault ≡ resolve_fault number first)
reported None number fault is = absurd cc
reported (Some first) number fault is = (first, refl, sym (same_Some (resolve_fault number first) fault is))

-- ---- in the order of paths

module _ (sources : List SourceUnit) where
  abbrev files : Files
  files = files_of sources

  abbrev in_order : List (ℕ × File)
  in_order = by_path (numbered files)

  files-length : length in_order ≡ length (numbers_by_path sources)
  files-length = sym (length-map in_order (λ (file : ℕ × File). file.0))

  -- What so many files come to: none of them has a fault.
  pub record AreFaultless (count : ℕ) (entities : Entities) : Type 0 where
    pub none_met : (file : ℕ × File) → Contains (take count in_order) file → first_in files file ≡ None
    pub read : AreRead files (take count in_order) entities

  module _ (place unit : ℕ) (within : place < length (numbers_by_path sources)) (is : unit ≡ get_or (numbers_by_path sources) place 0)
    where
      -- the file at a place in the order
      record IsNext (source : SourceUnit) : Type 0 where
        pub stands : slice_get sources unit ≡ Some source
        pub one_further : take (place + 1) in_order ≡ take place in_order ++ (unit, file_of source) ∷ []
        pub before_it : in_order ≡ take place in_order ++ (unit, file_of source) ∷ drop (place + 1) in_order

      found-next : (source : SourceUnit) × IsNext source
      found-next =
          let below : place < length in_order = omega (arith, within, files-length) in
          let found = get-below in_order place below in
          let file : ℕ × File = found.0 in
          let unit_is : unit ≡ file.0 = is
          ∙ get_or_from_slice_get (numbers_by_path sources) place file.0 0
          (slice_get-map (λ (file : ℕ × File). file.0) in_order place ∙ ap (option_map (λ (file : ℕ × File). file.0)) found.1) in
          let known = source-there sources file.0 file.1
          (from_numbered files file (from-by_path (numbered files) file (in_place in_order place file found.1))) in
          let same : get_or in_order place file ≡ (unit, file_of known.0) =
          get_or_from_slice_get in_order place file file found.1 ∙ (λ i. (sym unit_is i, sym known.2 i)) in (
            known.0,
            record {
              stands = ap (slice_get sources) unit_is ∙ known.1;
              one_further = take_more in_order place file below ∙ ap (λ next. take place in_order ++ next ∷ []) same;
              before_it = sym (take-append-drop place in_order)
                  ∙ ap (λ rest. take place in_order ++ rest)
                  (drop_more in_order place file below ∙ ap (λ next. next ∷ drop (place + 1) in_order) same);
            },
          )

      pub unit-within : unit < length sources
      unit-within = slice_get_within sources unit found-next.0 found-next.1.stands

      module _ (source : SourceUnit) (stands : slice_get sources unit ≡ Some source) (before : Entities)
          (faultless : AreFaultless place before) where
        abbrev here : ℕ × File
        here = (unit, file_of source)

        is_next : IsNext source
        is_next = subst IsNext (same_Some found-next.0 source (sym found-next.1.stands ∙ stands)) found-next.1

        pub one-faultless : (after : Entities) → first_in files here ≡ None → IsAdded files here before after
            → AreFaultless (place + 1) after
        one-faultless after none added = record {
          none_met = λ file there. by file (Contains-push_cases (take place in_order) here file
              (subst (λ all. Contains all file) is_next.one_further there));
          read = subst (λ all. AreRead files all after) (sym is_next.one_further)
              (one-more files (take place in_order) here before after faultless.read added);
        } where
          by : (file : ℕ × File) → Contains (take place in_order) file ⊎ (here ≡ file) → first_in files file ≡ None
          by file (inl earlier) = faultless.none_met file earlier
          by file (inr same) = ap (first_in files) (sym same) ∙ none

        pub first-reported : HavePathsApart files → (fault : ResolveFault)
            → option_map (resolve_fault unit) (first_in files here) ≡ Some fault → IsFirstOf files fault
        first-reported apart fault is =
            let met = reported (first_in files here) unit fault is in
            record {
              number = unit;
              first = met.0;
              is = met.2;
              is_first = first_by_path.some files (take place in_order) (drop (place + 1) in_order) here met.0 apart is_next.before_it
                  faultless.none_met met.1;
            }

  pub none-first : (entities : Entities) → entities.classes.items ≡ [] → entities.members.items ≡ [] → entities.methods.items ≡ []
      → AreFaultless 0 entities
  none-first entities classes members methods = record {
    none_met = λ file there. absurd (stands_nowhere file there);
    read = record { classes = λ no_fault. classes; members = λ no_fault. members; methods = λ no_fault. methods };
  }

  module _ (place : ℕ) (past : length (numbers_by_path sources) ≤ place) (entities : Entities) (faultless : AreFaultless place entities)
    where
      all-taken : take place in_order ≡ in_order
      all-taken = take_all place in_order (omega (arith, past, files-length))

      pub no-fault : HasNoFault files
      no-fault = first_by_path.none files
          (λ file there. faultless.none_met file (subst (λ all. Contains all file) (sym all-taken) there))

      pub whole-read : entities.classes.items ++ entities.members.items ++ entities.methods.items ≡ plain_entities files
      whole-read = all-read files entities (subst (λ all. AreRead files all entities) all-taken faultless.read) no-fault
