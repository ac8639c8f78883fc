-- The first fault of files is that of the first file, in the order of paths, that has one.
use Rattle.std.proofs.Common.{◌≡◌, ◌≢◌, ◌⊎◌, inl, inr, ℕ, true, false, List, [], ◌∷◌, ◌++◌, Contains, None, Some, refl, sym, ◌∙◌, ap, subst, Ordering, Less, Equal, Greater}
use Rattle.std.specs.FinMap.{nat_cmp-IsAntisymmetric, slice_cmp-IsAntisymmetric}
use Rattle.std.specs.Ordering.{is_lt, ordering_then}
use Rattle.std.proofs.lemmas.Cmp.{nat_list_cmp_total, tied_itself}
use Rattle.jav_names.proofs.Lists.{stands_first, stands_where, stands_nowhere}
use Rattle.jav_names.specs.UnitViews.{numbered}
use Rattle.mol_resolve_faults.proofs.FirstOfAll.{first_kept}
use Rattle.mol_resolve_faults.specs.First.{all_noted, tree_fault_cmp, IsFirst}
use Rattle.mol_resolve_rules.proofs.FaultsListed.{listed}
use Rattle.mol_resolve_rules.proofs.FilesStand.{some-same, in-by_path, from-by_path}
use Rattle.mol_resolve_rules.proofs.Stands.{behind, from_numbered, in_either, in_numbered}
use Rattle.mol_resolve_rules.specs.FaultKinds.{FaultKind}
use Rattle.mol_resolve_rules.specs.FaultLists.{faults_of}
use Rattle.mol_resolve_rules.specs.Files.{File, Files, HasFile}
use Rattle.mol_resolve_rules.specs.Numbering.{path_cmp, by_path}
use Rattle.mol_resolve_rules.specs.Outcomes.{TreeFault}
use Rattle.mol_resolve_rules.specs.ReadAs.{HasNoFault}
use Rattle.mol_resolve_rules.specs.ResolveFaults.{Fails, HavePathsApart, IsFirstFault, fault_cmp, fault_in}
use Rattle.mol_resolve_faults.specs.first_faults.FirstByPath.{FirstByPath, first_in}
use Rattle.mol_resolve_faults.proofs.first_faults_lemmas.PathsRise.{Rises, by_path-rises, none-after}

module _ (files : Files) where
  abbrev HasNone : ℕ × File → Type 0
  HasNone file = faults_of files file ≡ []

  fault-there : (kind : FaultKind) (number at : ℕ) (file : File) → HasFile files number file → Fails files kind number at
      → Contains (faults_of files (number, file)) (record { kind = kind; at = at })
  fault-there kind number at file stands fails =
      let found = (listed files kind number at).0 fails in
      subst (λ (f : File). Contains (faults_of files (number, f)) (record { kind = kind; at = at }))
      (some-same (sym found.1.0 ∙ stands)) found.1.1

  -- Where none of them has one, there is none.
  no-fault : ((file : ℕ × File) → Contains (by_path (numbered files)) file → HasNone file) → HasNoFault files
  no-fault none kind number at fails =
      let found = (listed files kind number at).0 fails in
      stands_nowhere (record { kind = kind; at = at })
      (subst (λ all. Contains all (record { kind = kind; at = at }))
      (none (number, found.0) (in-by_path (numbered files) (number, found.0) (in_numbered files number found.0 found.1.0))) found.1.1)

  module _ (before after : List (ℕ × File)) (file : ℕ × File) (order : by_path (numbered files) ≡ before ++ file ∷ after)
      (none : (earlier : ℕ × File) → Contains before earlier → HasNone earlier) (apart : HavePathsApart files)
      (first : TreeFault) (kept : all_noted None (faults_of files file) ≡ Some first) where
    is_first : IsFirst (faults_of files file) first
    is_first = first_kept.some (faults_of files file) first kept

    stands : HasFile files file.0 file.1
    stands = from_numbered files file (from-by_path (numbered files) file
        (subst (λ all. Contains all file) (sym order) (behind before (file ∷ after) file (stands_first file after))))

    module _ (kind : FaultKind) (number at : ℕ) (other : File) (there : HasFile files number other)
        (fails : Fails files kind number at) where
      abbrev by_paths : Ordering → Ordering
      by_paths paths = ordering_then paths (tree_fault_cmp (record { kind = kind; at = at }) first)

      -- in the same file
      in_file : path_cmp other.path file.1.path ≡ Equal
          → tree_fault_cmp (record { kind = kind; at = at }) first ≢ Less
      in_file is =
          let path : other.path ≡ file.1.path = slice_cmp-IsAntisymmetric nat_cmp-IsAntisymmetric other.path file.1.path is in
          let number_is : number ≡ file.0 = apart number file.0 other file.1 there stands path in
          is_first.none_before (record { kind = kind; at = at })
          (subst (λ n. (f : File) → HasFile files n f → Contains (faults_of files (n, f)) (record { kind = kind; at = at })) number_is
          (λ f has. fault-there kind number at f has fails) file.1 stands)

      by_order : (paths : Ordering) → path_cmp other.path file.1.path ≡ paths → paths ≢ Less → by_paths paths ≢ Less
      by_order Less is not_less = absurd (not_less refl)
      by_order Equal is not_less = in_file is
      by_order Greater is not_less = λ less. absurd cc

      not_less : Contains before (number, other) ⊎ Contains (file ∷ after) (number, other) → path_cmp other.path file.1.path ≢ Less
      not_less (inl earlier) = absurd (stands_nowhere (record { kind = kind; at = at })
          (subst (λ all. Contains all (record { kind = kind; at = at })) (none (number, other) earlier)
          (fault-there kind number at other there fails)))
      not_less (inr from_here) = by (stands_where file (number, other) after from_here) where
        by : (file ≡ (number, other)) ⊎ Contains after (number, other) → path_cmp other.path file.1.path ≢ Less
        by (inl same) = λ less.
            let tied : path_cmp other.path file.1.path ≡ Equal
            = ap (λ (f : ℕ × File). path_cmp other.path f.1.path) same ∙ tied_itself nat_list_cmp_total other.path in
            absurd (let no : Less ≡ Equal = sym less ∙ tied in cc)
        by (inr later) = λ less.
            let no : true ≡ false = ap is_lt (sym less)
            ∙ none-after before after file (number, other) (subst Rises order (by_path-rises (numbered files))) later in
            absurd cc

      none_before : fault_cmp (fault_in other kind at) (fault_in file.1 first.kind first.at) ≢ Less
      none_before = by_order (path_cmp other.path file.1.path) refl (not_less (in_either before (file ∷ after) (number, other)
          (subst (λ all. Contains all (number, other)) order
          (in-by_path (numbered files) (number, other) (in_numbered files number other there)))))

    first-fault : IsFirstFault files first.kind file.0 first.at
    first-fault = record {
      file = file.1;
      stands = stands;
      holds = (listed files first.kind file.0 first.at).1 (file.1, (stands, is_first.among));
      none_before = none_before;
    }

none-in : (files : Files) (file : ℕ × File) → first_in files file ≡ None → faults_of files file ≡ []
none-in files file none = first_kept.none (faults_of files file) none

pub first_by_path : FirstByPath
first_by_path = record {
  some = λ files before after file first apart order none found.
      first-fault files before after file order (λ earlier stands. none-in files earlier (none earlier stands)) apart first found;
  none = λ files none. no-fault files (λ file stands. none-in files file (none file stands));
}
