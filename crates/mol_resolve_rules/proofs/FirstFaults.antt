-- Of several faults exactly one is the first.
use Rattle.std.proofs.Common.{◌≡◌, ◌≢◌, ◌⊎◌, inl, inr, ℕ, List, [], ◌∷◌, map, flat_map, Contains, refl, sym, ◌∙◌, ap, subst, rules, Ordering, Less, Equal, Greater, nat_cmp, slice_index_or}
use Rattle.std.specs.Cmp.{IsTotalOrder}
use Rattle.std.specs.Cmp.Rules.{comparing}
use Rattle.std.specs.Cmp.Lexicographic.{slice_cmp}
use Rattle.std.specs.FinMap.{nat_cmp-IsAntisymmetric, slice_cmp-IsAntisymmetric}
use Rattle.std.specs.Ordering.{ordering_then, ordering_reverse}
use Rattle.mol_resolve_rules.specs.FaultKinds.{FaultKind, every_kind, rank_of, path_differs, duplicate_class, package_is_class, super_cycle, import_clash, duplicate_member, overload_by_type, result_differs, static_hidden, redeclared, unknown_name, unknown_member, static_by_instance, receiver_type}
use Rattle.jav_names.specs.UnitViews.{numbered}
use Rattle.jav_names.proofs.Lists.{stands_first, stands_later, stands_where, stands_nowhere, stands-mapped}
use Rattle.std.proofs.lemmas.Cmp.{tied_itself}
use Rattle.mol_resolve_rules.specs.FaultLists.{faults_of}
use Rattle.mol_resolve_rules.specs.Files.{File, Files, HasFile}
use Rattle.mol_resolve_rules.specs.Outcomes.{TreeFault}
use Rattle.mol_resolve_rules.specs.ReadAs.{HasNoFault}
use Rattle.mol_resolve_rules.specs.Laws.{FirstFaults}
use Rattle.mol_resolve_rules.specs.ResolveFaults.{Fails, IsFirstFault, HavePathsApart, FaultInFile, fault_cmp, fault_in}
use Rattle.mol_resolve_rules.proofs.FaultsListed.{listed}
use Rattle.mol_resolve_rules.proofs.FilesStand.{some-same}
use Rattle.mol_resolve_rules.proofs.Stands.{from_map, in_each, from_each, from_numbered, in_numbered}

-- ---- the order of faults

kind_at : (kind default : FaultKind) → slice_index_or every_kind (rank_of kind) default ≡ kind
kind_at path_differs default = refl
kind_at duplicate_class default = refl
kind_at package_is_class default = refl
kind_at super_cycle default = refl
kind_at import_clash default = refl
kind_at duplicate_member default = refl
kind_at overload_by_type default = refl
kind_at result_differs default = refl
kind_at static_hidden default = refl
kind_at redeclared default = refl
kind_at unknown_name default = refl
kind_at unknown_member default = refl
kind_at static_by_instance default = refl
kind_at receiver_type default = refl

kind_same : (first second : FaultKind) → rank_of first ≡ rank_of second → first ≡ second
kind_same first second is = sym (kind_at first first) ∙ ap (λ rank. slice_index_or every_kind rank first) is ∙ kind_at second first

fault_cmp-total : IsTotalOrder fault_cmp
fault_cmp-total = search (comparing, rules) depth 9

then_both : (a b : Ordering) → ordering_then a b ≡ Equal → (a ≡ Equal) × (b ≡ Equal)
then_both Less b e = absurd cc
then_both Equal b e = (refl, e)
then_both Greater b e = absurd cc

-- what ties has one path, one place and one kind
pub record AreTied (first second : FaultInFile) : Type 0 where
  pub path : first.path ≡ second.path
  pub at : first.at ≡ second.at
  pub kind : first.kind ≡ second.kind

tied : (first second : FaultInFile) → fault_cmp first second ≡ Equal → AreTied first second
tied first second is =
    let outer = then_both (slice_cmp nat_cmp first.path second.path)
    (ordering_then (nat_cmp first.at second.at) (nat_cmp (rank_of first.kind) (rank_of second.kind))) is in
    let inner = then_both (nat_cmp first.at second.at) (nat_cmp (rank_of first.kind) (rank_of second.kind)) outer.1 in
    record {
      path = slice_cmp-IsAntisymmetric nat_cmp-IsAntisymmetric first.path second.path outer.0;
      at = nat_cmp-IsAntisymmetric first.at second.at inner.0;
      kind = kind_same first.kind second.kind (nat_cmp-IsAntisymmetric (rank_of first.kind) (rank_of second.kind) inner.1);
    }

-- neither is before the other
ties : (first second : FaultInFile) → fault_cmp first second ≢ Less → fault_cmp second first ≢ Less → fault_cmp first second ≡ Equal
ties first second not_before not_after = by (fault_cmp first second) refl where
  by : (o : Ordering) → fault_cmp first second ≡ o → fault_cmp first second ≡ Equal
  by Less is = absurd (not_before is)
  by Equal is = is
  by Greater is = absurd (not_after (fault_cmp-total.antisymm second first ∙ ap ordering_reverse is))

-- ---- the law

first_fault : (files : Files) → HavePathsApart files → (kind other : FaultKind) (number second at place : ℕ)
    → IsFirstFault files kind number at → IsFirstFault files other second place → (kind ≡ other) × (number ≡ second) × (at ≡ place)
first_fault files apart kind other number second at place first last =
    let same = tied (fault_in first.file kind at) (fault_in last.file other place)
    (ties (fault_in first.file kind at) (fault_in last.file other place)
    (last.none_before kind number at first.file first.stands first.holds)
    (first.none_before other second place last.file last.stands last.holds)) in
    (same.kind, apart number second first.file last.file first.stands last.stands same.path, same.at)

-- ---- there is one, if there is any

module _ {X : Type 0} (key : X → FaultInFile) where
  -- none of these goes before it
  pub record IsFirstOf (xs : List X) : Type 0 where
    pub x : X
    pub stands : Contains xs x
    pub none_before : (y : X) → Contains xs y → fault_cmp (key y) (key x) ≢ Less

  itself : (x : X) → fault_cmp (key x) (key x) ≢ Less
  itself x less = absurd (let no : Less ≡ Equal = sym less ∙ tied_itself fault_cmp-total (key x) in cc)

  first_of : (xs : List X) → (xs ≡ []) ⊎ IsFirstOf xs
  first_of [] = inl refl
  first_of (x ∷ xs) = inr (by (first_of xs)) where
    alone : xs ≡ [] → (y : X) → (x ≡ y) ⊎ Contains xs y → fault_cmp (key y) (key x) ≢ Less
    alone none y (inl same) = subst (λ z. fault_cmp (key z) (key x) ≢ Less) same (itself x)
    alone none y (inr later) = absurd (stands_nowhere y (subst (λ zs. Contains zs y) none later))

    before : (rest : IsFirstOf xs) → fault_cmp (key x) (key rest.x) ≡ Less → (y : X) → (x ≡ y) ⊎ Contains xs y
        → fault_cmp (key y) (key x) ≢ Less
    before rest less y (inl same) = subst (λ z. fault_cmp (key z) (key x) ≢ Less) same (itself x)
    before rest less y (inr later) =
        λ earlier. rest.none_before y later (fault_cmp-total.trans (key y) (key x) (key rest.x) earlier less)

    after : (rest : IsFirstOf xs) → fault_cmp (key x) (key rest.x) ≢ Less → (y : X) → (x ≡ y) ⊎ Contains xs y
        → fault_cmp (key y) (key rest.x) ≢ Less
    after rest not_less y (inl same) = subst (λ z. fault_cmp (key z) (key rest.x) ≢ Less) same not_less
    after rest not_less y (inr later) = rest.none_before y later

    by_order : (rest : IsFirstOf xs) (o : Ordering) → fault_cmp (key x) (key rest.x) ≡ o → IsFirstOf (x ∷ xs)
    by_order rest Less is = record {
      x = x;
      stands = stands_first x xs;
      none_before = λ y there. before rest is y (stands_where x y xs there);
    }
    by_order rest Equal is = record {
      x = rest.x;
      stands = stands_later x rest.x xs rest.stands;
      none_before = λ y there. after rest (λ less. absurd (let no : Less ≡ Equal = sym less ∙ is in cc)) y (stands_where x y xs there);
    }
    by_order rest Greater is = record {
      x = rest.x;
      stands = stands_later x rest.x xs rest.stands;
      none_before = λ y there. after rest (λ less. absurd (let no : Less ≡ Greater = sym less ∙ is in cc)) y (stands_where x y xs there);
    }

    by : (xs ≡ []) ⊎ IsFirstOf xs → IsFirstOf (x ∷ xs)
    by (inl none) = record { x = x; stands = stands_first x xs; none_before = λ y there. alone none y (stands_where x y xs there) }
    by (inr rest) = by_order rest (fault_cmp (key x) (key rest.x)) refl

module _ (files : Files) where
  abbrev InFile : Type 0
  InFile = (ℕ × File) × TreeFault

  abbrev key : InFile → FaultInFile
  key fault = fault_in fault.0.1 fault.1.kind fault.1.at

  abbrev in_file : ℕ × File → List InFile
  in_file file = map (λ (fault : TreeFault). (file, fault)) (faults_of files file)

  abbrev in_files : List InFile
  in_files = flat_map in_file (numbered files)

  one_file : (number : ℕ) (first second : File) → HasFile files number first → HasFile files number second → first ≡ second
  one_file number first second stands other = some-same (sym stands ∙ other)

  fails-there : (kind : FaultKind) (number at : ℕ) (file : File) → HasFile files number file → Fails files kind number at
      → Contains in_files ((number, file), record { kind = kind; at = at })
  fails-there kind number at file stands fails =
      let found = (listed files kind number at).0 fails in
      let same = one_file number found.0 file found.1.0 stands in
      in_each in_file (numbered files) (number, file) ((number, file), record { kind = kind; at = at })
      (in_numbered files number file stands)
      (stands-mapped (λ (fault : TreeFault). ((number, file), fault)) (faults_of files (number, file)) (record { kind = kind; at = at })
      (subst (λ (f : File). Contains (faults_of files (number, f)) (record { kind = kind; at = at })) same found.1.1))

  first_or_none : HasNoFault files
      ⊎ ((kind : FaultKind) × ((number : ℕ) × ((at : ℕ) × IsFirstFault files kind number at)))
  first_or_none = by (first_of key in_files) where
    by : (in_files ≡ []) ⊎ IsFirstOf key in_files
        → HasNoFault files ⊎ ((kind : FaultKind) × ((number : ℕ) × ((at : ℕ) × IsFirstFault files kind number at)))
    by (inl none) = inl (λ kind number at fails.
        let found = (listed files kind number at).0 fails in
        stands_nowhere ((number, found.0), record { kind = kind; at = at })
        (subst (λ all. Contains all ((number, found.0), record { kind = kind; at = at })) none
        (fails-there kind number at found.0 found.1.0 fails)))
    by (inr first) =
        let of_file = from_each in_file (numbered files) first.x first.stands in
        let of_fault = from_map (λ (fault : TreeFault). (of_file.0, fault)) (faults_of files of_file.0) first.x of_file.2 in
        let stands : HasFile files of_file.0.0 of_file.0.1 = from_numbered files of_file.0 of_file.1 in
        inr (
          of_fault.0.kind,
          (
            of_file.0.0,
            (
              of_fault.0.at,
              record {
                file = of_file.0.1;
                stands = stands;
                holds = (listed files of_fault.0.kind of_file.0.0 of_fault.0.at).1 (of_file.0.1, (stands, of_fault.1));
                none_before = λ other second place other_file there fails.
                    subst (λ (fault : InFile). fault_cmp (fault_in other_file other place) (key fault) ≢ Less) (sym of_fault.2)
                    (first.none_before ((second, other_file), record { kind = other; at = place })
                    (fails-there other second place other_file there fails));
              },
            ),
          ),
        )

pub first_faults : FirstFaults
first_faults = record { listed = listed; first = first_or_none; unique = first_fault }
