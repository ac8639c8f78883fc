-- The rows of the members of each class, and what is noted of one after another.
use Rattle.std.proofs.Common.{◌≡◌, ◌⊎◌, inl, inr, ℕ, zero, suc, ◌+◌, ◌<◌, List, [], ◌∷◌, ◌++◌, map, take, length, flat_map, get_or, Option, Some, Contains, slice_get, refl, sym, ◌∙◌, ap, subst, append-nil}
use Rattle.std.proofs.lemmas.List.Concat.{flat_map-append}
use Rattle.jav_scope.specs.declared.source.SourceUnit.{SourceUnit}
use Rattle.jav_names.proofs.Lists.{stands-mapped}
use Rattle.mol_resolve_faults.specs.beside.Beside.{Faulty, faulty_noted}
use Rattle.mol_resolve_faults.specs.beside.Between.{faulty_below, faulty_here}
use Rattle.mol_resolve_faults.specs.beside.Classes.{either, rows_above, rows_if, rows_of}
use Rattle.mol_resolve_faults.proofs.beside_lemmas.BesideNoted.{beside_noted}
use Rattle.mol_resolve_members.specs.members.Rows.{kept_row}
use Rattle.mol_resolve_members.specs.members.Tables.{rows_at}
use Rattle.mol_resolve_members.specs.declared.members.member_row.MemberRow.{MemberRow}
use Rattle.mol_resolve_faults.specs.First.{all_noted}
use Rattle.mol_resolve_faults.proofs.SameFaults.{kept_alike}
use Rattle.mol_resolve_members.specs.sources.Sources.{file_of, files_of}
use Rattle.mol_resolve_members.proofs.sources_lemmas.Sourced.{file-there}
use Rattle.mol_resolve_rules.specs.FaultLists.{faults_beside}
use Rattle.mol_resolve_rules.specs.Files.{Files, type_of_file}
use Rattle.mol_resolve_rules.specs.MemberFaults.{Row}
use Rattle.mol_resolve_rules.specs.Outcomes.{TreeFault}
use Rattle.mol_resolve_classes.specs.related.Compared.{AreKept, StandInOrder}
use Rattle.mol_resolve_classes.specs.related.Tables.{AreKeptOf}
use Rattle.mol_resolve_classes.specs.declared.related.class_members.ClassMembers.{ClassMembers}
use Rattle.mol_resolve_classes.proofs.related_lemmas.KeptInOrder.{rows-in_order, rows-more}

-- what stands in a list with one more
stands-pushed : {X : Type 0} (xs : List X) (last x : X) (k : ℕ) → slice_get (xs ++ last ∷ []) k ≡ Some x
    → (slice_get xs k ≡ Some x) ⊎ ((k ≡ length xs) × (last ≡ x))
stands-pushed [] last x zero is = inr (refl, let same : last ≡ x = cc in same)
stands-pushed [] last x (suc k) is = absurd cc
stands-pushed (y ∷ xs) last x zero is = inl is
stands-pushed (y ∷ xs) last x (suc k) is = by (stands-pushed xs last x k is) where
  by : (slice_get xs k ≡ Some x) ⊎ ((k ≡ length xs) × (last ≡ x))
      → (slice_get xs k ≡ Some x) ⊎ ((suc k ≡ suc (length xs)) × (last ≡ x))
  by (inl there) = inl there
  by (inr end) = inr (ap (λ n. suc n) end.0, end.1)

module _ (sources : List SourceUnit) where
  abbrev files : Files
  files = files_of sources

  module _ (unit : ℕ) (source : SourceUnit) (at : slice_get sources unit ≡ Some source) where
    pub rows-are : rows_at sources (unit, source) ≡ rows_of files unit
    rows-are = sym (ap (rows_if files unit) (file-there sources unit source at))

    pub in-order : (rows : List MemberRow) → map kept_row rows ≡ rows_at sources (unit, source) → StandInOrder (map kept_row rows)
    in-order rows are = subst StandInOrder (sym are)
        (rows-in_order (type_of_file files (unit, file_of source)) unit 0 source.unit.class.members)

    -- noting the faults of one row after another
    module _ (rows : List MemberRow) (are : map kept_row rows ≡ rows_at sources (unit, source)) (first : Option TreeFault)
        (place : ℕ) (row : MemberRow) (inside : place < length rows) (is : row ≡ get_or rows place row) where
      stands : Contains (rows_of files unit) (kept_row row)
      stands = subst (λ (all : List (Row ℕ)). Contains all (kept_row row)) (are ∙ rows-are)
          (stands-mapped kept_row rows row (place, inside, sym is))

      abbrev before : List (Row ℕ)
      before = map kept_row (take place rows)

      abbrev faulty : Faulty
      faulty = either (faulty_here (kept_row row).kind (rows_of files unit) (kept_row row))
          (faulty_below (kept_row row).kind (rows_above files unit) (kept_row row))

      pub noted-more : faulty_noted faulty (kept_row row).at (all_noted first (flat_map (faults_beside files) before))
          ≡ all_noted first (flat_map (faults_beside files) (map kept_row (take (place + 1) rows)))
      noted-more =
          sym (beside_noted files unit (kept_row row) (all_noted first (flat_map (faults_beside files) before)) stands)
          ∙ sym (kept_alike.in_turn first (flat_map (faults_beside files) before) (faults_beside files (kept_row row)))
          ∙ ap (all_noted first) (ap (λ more. flat_map (faults_beside files) before ++ more)
          (sym (append-nil (faults_beside files (kept_row row))))
          ∙ sym (flat_map-append (faults_beside files) before (kept_row row ∷ []))
          ∙ ap (flat_map (faults_beside files)) (sym (rows-more rows place row inside is)))

  -- no class yet
  pub none-kept : AreKeptOf sources []
  none-kept class members there = absurd cc

  -- one more class
  pub kept-more : (classes : List ClassMembers) (next : ClassMembers) → AreKeptOf sources classes
      → AreKept next (rows_of files (length classes)) → AreKeptOf sources (classes ++ next ∷ [])
  kept-more classes next kept is class members there = by (stands-pushed classes next members class there) where
    by : (slice_get classes class ≡ Some members) ⊎ ((class ≡ length classes) × (next ≡ members)) → AreKept members (rows_of files class)
    by (inl before) = kept class members before
    by (inr end) = subst (λ (members : ClassMembers). AreKept members (rows_of files class)) end.1
        (subst (λ class. AreKept next (rows_of files class)) (sym end.0) is)
