-- A member has faults beside those of its class and those of the ancestors of its class alone.
use Rattle.std.proofs.Common.{◌≡◌, ◌⊎◌, inl, inr, ℕ, Bool, true, false, ◌||◌, Contains, Option, Some, None, slice_get, refl, sym, ◌∙◌, ap, subst}
use Rattle.jav_names.proofs.Lists.{stands_nowhere}
use Rattle.std.specs.List.{list_any}
use Rattle.jav_tree.specs.declared.unit.Member.{Member}
use Rattle.jav_tree.specs.declared.unit.Member.TheVariants as member
use Rattle.jav_tree.specs.declared.types.TypeName.{TypeName}
use Rattle.jav_names.specs.Ancestors.{IsAncestor}
use Rattle.jav_names.specs.LookUps.{ancestors}
use Rattle.jav_names.specs.UnitViews.{numbered}
use Rattle.jav_names.specs.Views.{ViewType, View}
use Rattle.jav_names.proofs.AncestorsFound.{is_ancestor-decides}
use Rattle.jav_names.proofs.Ways.{is_met-decides}
use Rattle.mol_resolve_rules.specs.FaultKinds.{FaultKind, duplicate_member, overload_by_type, result_differs, static_hidden}
use Rattle.mol_resolve_rules.specs.FaultLists.{is_between}
use Rattle.mol_resolve_rules.specs.Files.{File, Files, files_view, type_of_file}
use Rattle.mol_resolve_rules.specs.MemberFaults.{Row, row_of, AreInOrder, AreDuplicates, AreOverloads, IsBetween}
use Rattle.mol_resolve_rules.specs.ResolveFaults.{rows_in, rows}
use Rattle.mol_resolve_rules.proofs.FaultsListed.{between-found}
use Rattle.mol_resolve_rules.proofs.FilesStand.{files-ordered}
use Rattle.mol_resolve_rules.proofs.Stands.{in_each, from_each, from_map, from_numbered, in_numbered}
use Rattle.mol_resolve_faults.specs.beside.Beside.{faulty_beside}
use Rattle.mol_resolve_faults.specs.beside.Classes.{rows_if, rows_of, rows_above, either}
use Rattle.mol_resolve_faults.proofs.beside_lemmas.KindsNoted.{any-there, there-any}

-- ---- where the first of two members is

module _ {C M : Type 0} (view : View C M) (first second : Row C) where
  abbrev IsNear : Type 0
  IsNear = (first.owner ≡ second.owner) ⊎ IsAncestor view second.owner first.owner

  placed : AreInOrder first second ⊎ IsAncestor view second.owner first.owner → IsNear
  placed (inl ordered) = inl ordered.one_class
  placed (inr above) = inr above

  duplicates-near : AreDuplicates first second → IsNear
  duplicates-near (AreDuplicates.fields ordered alike) = inl ordered.one_class
  duplicates-near (AreDuplicates.methods ordered alike same) = inl ordered.one_class
  duplicates-near (AreDuplicates.constructors ordered alike same) = inl ordered.one_class

  overloads-near : AreOverloads view first second → IsNear
  overloads-near (AreOverloads.methods related differ) = placed related.placed
  overloads-near (AreOverloads.constructors ordered alike differ) = inl ordered.one_class

  near : (kind : FaultKind) → IsBetween view kind first second → IsNear
  near kind (IsBetween.by_duplicate is) = duplicates-near is
  near kind (IsBetween.by_types is) = overloads-near is
  near kind (IsBetween.by_result is) = placed is.related.placed
  near kind (IsBetween.by_static is) = placed is.related.placed

-- a row has the class of its file as owner
row-owner : (see : TypeName → ViewType ℕ) (class : ℕ) (entry : ℕ × Member) → (row_of see class entry).owner ≡ class
row-owner see class (place, member.Field field) = refl
row-owner see class (place, member.Method method) = refl
row-owner see class (place, member.Ctor constructor) = refl

-- ---- in files

module _ (files : Files) where
  pub owner-in : (file : ℕ × File) (row : Row ℕ) → Contains (rows_in files file) row → row.owner ≡ file.0
  owner-in file row stands =
      let made = from_map (row_of (type_of_file files file) file.0) (numbered file.1.unit.class.members) row stands in
      ap (λ (r : Row ℕ). r.owner) (sym made.2) ∙ row-owner (type_of_file files file) file.0 made.0

  -- a row of the files is one of its class
  at-owner : (row : Row ℕ) → Contains (rows files) row → Contains (rows_of files row.owner) row
  at-owner row stands =
      let of_file = from_each (rows_in files) (numbered files) row stands in
      let file = of_file.0 in
      let there : slice_get files file.0 ≡ Some file.1 = from_numbered files file of_file.1 in
      let owner : file.0 ≡ row.owner = sym (owner-in file row of_file.2) in
      subst (λ class. Contains (rows_of files class) row) owner
      (subst (λ o. Contains (rows_if files file.0 o) row) (sym there) of_file.2)

  of-class : (class : ℕ) (row : Row ℕ) → Contains (rows_of files class) row → Contains (rows files) row
  of-class class row = by (slice_get files class) refl where
    by : (o : Option File) → slice_get files class ≡ o → Contains (rows_if files class o) row → Contains (rows files) row
    by None is stands = absurd (stands_nowhere row stands)
    by (Some file) is stands = in_each (rows_in files) (numbered files) (class, file) row (in_numbered files class file is) stands

  module _ (second : Row ℕ) (kind : FaultKind) where
    abbrev test : Row ℕ → Bool
    test first = is_between (files_view files) first second kind

    apart : list_any test (rows files) ≡ (list_any test (rows_of files second.owner) || list_any test (rows_above files second.owner))
    apart = same (list_any test (rows files)) refl (list_any test (rows_of files second.owner)) refl
        (list_any test (rows_above files second.owner)) refl where
          near-row : (first : Row ℕ) → Contains (rows files) first → test first ≡ true
              → Contains (rows_of files second.owner) first ⊎ Contains (rows_above files second.owner) first
          near-row first stands is = by (near (files_view files) first second kind
              (between-found (files_view files) ((files-ordered files).classes) first second kind is)) where
                by : (first.owner ≡ second.owner) ⊎ IsAncestor (files_view files) second.owner first.owner
                    → Contains (rows_of files second.owner) first ⊎ Contains (rows_above files second.owner) first
                by (inl same) = inl (subst (λ class. Contains (rows_of files class) first) same (at-owner first stands))
                by (inr above) = inr (in_each (rows_of files) (ancestors (files_view files) second.owner) first.owner first
                    ((is_met-decides (files_view files).classes (files-ordered files).classes
                    (ancestors (files_view files) second.owner) first.owner).0
                    ((is_ancestor-decides (files_view files) (files-ordered files).classes second.owner first.owner).1 above))
                    (at-owner first stands))

          above-row : (first : Row ℕ) → Contains (rows_above files second.owner) first → Contains (rows files) first
          above-row first stands =
              let of_class = from_each (rows_of files) (ancestors (files_view files) second.owner) first stands in
              of-class of_class.0 first of_class.2

          same : (a : Bool) → list_any test (rows files) ≡ a → (b : Bool) → list_any test (rows_of files second.owner) ≡ b
              → (c : Bool) → list_any test (rows_above files second.owner) ≡ c → a ≡ (b || c)
          same true all true own c above = refl
          same true all false own true above = refl
          same true all false own false above =
              let some = there-any test (rows files) all in
              by (near-row some.0 some.1 some.2) where
                by : Contains (rows_of files second.owner) (there-any test (rows files) all).0
                    ⊎ Contains (rows_above files second.owner) (there-any test (rows files) all).0 → true ≡ false
                by (inl here) = sym (any-there test (rows_of files second.owner) (there-any test (rows files) all).0 here
                    (there-any test (rows files) all).2) ∙ own
                by (inr up) = sym (any-there test (rows_above files second.owner) (there-any test (rows files) all).0 up
                    (there-any test (rows files) all).2) ∙ above
          same false all true own c above =
              let some = there-any test (rows_of files second.owner) own in
              sym all ∙ any-there test (rows files) some.0 (of-class second.owner some.0 some.1) some.2
          same false all false own true above =
              let some = there-any test (rows_above files second.owner) above in
              sym all ∙ any-there test (rows files) some.0 (above-row some.0 some.1) some.2
          same false all false own false above = refl

  -- the faults beside all members
  pub faulty-apart : (second : Row ℕ) → faulty_beside files (rows files) second
      ≡ either (faulty_beside files (rows_of files second.owner) second) (faulty_beside files (rows_above files second.owner) second)
  faulty-apart second = λ i. record {
    duplicate = apart second duplicate_member i;
    overload = apart second overload_by_type i;
    result = apart second result_differs i;
    static = apart second static_hidden i;
  }
