-- The faults of files as lists, made by tests of the relations: what goes through lists can keep the first of them.
use Rattle.std.specs.Prelude.{ℕ, ◌==◌, nat_lt, Bool, true, false, ◌&&◌, ◌||◌, not, List, [], ◌∷◌, ◌++◌, map, length, filter}
use Rattle.std.specs.List.{flat_map, list_any}
use Rattle.std.specs.Ordering.{is_eq}
use Rattle.std.specs.Str.{bytes_eq}
use Rattle.std.specs.declared.cmp.Ordering.{Ordering}
use Rattle.mol_base.specs.Paths.{path_of}
use Rattle.jav_names.specs.DottedNames.{Name, dot, simple_name}
use Rattle.jav_names.specs.LookUps.{is_ancestor, is_in_circle}
use Rattle.jav_names.specs.StaticTypes.{same_type}
use Rattle.jav_names.specs.UnitViews.{numbered}
use Rattle.jav_names.specs.Views.{ViewType, View}
use Rattle.mol_resolve_rules.specs.FaultKinds.{FaultKind, every_kind, path_differs, duplicate_class, package_is_class, super_cycle, import_clash, duplicate_member, overload_by_type, result_differs, static_hidden}
use Rattle.mol_resolve_rules.specs.Files.{File, Files, class_name, files_view}
use Rattle.mol_resolve_rules.specs.MemberFaults.{MemberKind, a_field, a_method, a_constructor, Row}
use Rattle.mol_resolve_rules.specs.Outcomes.{TreeFault}
use Rattle.mol_resolve_rules.specs.ReadFiles.{tree_faults}
use Rattle.mol_resolve_rules.specs.ResolveFaults.{rows_in, rows}

-- ---- of classes

abbrev pub begins_with : (text front : Name) → Bool
begins_with [] front = false
begins_with (byte ∷ text) [] = byte == dot
begins_with (byte ∷ text) (first ∷ front) = byte == first && begins_with text front

-- another file, and its class has the same full name
abbrev pub is_namesake : ℕ × File → ℕ × File → Bool
is_namesake file other = not (file.0 == other.0) && bytes_eq (class_name file.1) (class_name other.1)

-- its package is this full name or in it
abbrev pub is_inside : Name → File → Bool
is_inside name file = bytes_eq file.unit.«package» name || begins_with file.unit.«package» name

abbrev pub do_clash : (first second : Name) → Bool
do_clash first second = not (bytes_eq first second) && bytes_eq (simple_name first) (simple_name second)

-- the file has this fault of classes
abbrev pub has_fault : Files → ℕ × File → FaultKind → Bool
has_fault files file path_differs = not (bytes_eq file.1.path (path_of file.1.unit.«package» file.1.unit.class.name))
has_fault files file duplicate_class = list_any (is_namesake file) (numbered files)
has_fault files file package_is_class = list_any (is_inside (class_name file.1)) files
has_fault files file super_cycle = is_in_circle (files_view files) file.0
has_fault files file import_clash =
    list_any (λ import. list_any (do_clash import) (class_name file.1 ∷ file.1.unit.imports)) file.1.unit.imports
has_fault files file kind = false

-- ---- between members

abbrev pub same_types : {C : Type 0} → (C → C → Ordering) → (first second : List (ViewType C)) → Bool
same_types cmp [] [] = true
same_types cmp (first ∷ rest) (second ∷ others) = same_type cmp first second && same_types cmp rest others
same_types cmp first second = false

abbrev pub same_kind : MemberKind → MemberKind → Bool
same_kind a_field a_field = true
same_kind a_method a_method = true
same_kind a_constructor a_constructor = true
same_kind first second = false

abbrev pub are_alike : {C : Type 0} → MemberKind → (first second : Row C) → Bool
are_alike kind first second = same_kind first.kind kind && (same_kind second.kind kind && bytes_eq first.name second.name)

abbrev pub take_as_many : {C : Type 0} → (first second : Row C) → Bool
take_as_many first second = length first.params == length second.params

module _ {C M : Type 0} (view : View C M) (first second : Row C) where
  abbrev pub are_in_order : Bool
  are_in_order = is_eq (view.classes.cmp first.owner second.owner) && nat_lt first.place second.place

  abbrev pub take_the_same : Bool
  take_the_same = same_types view.classes.cmp first.params second.params

  abbrev pub differ_in_types : Bool
  differ_in_types = take_as_many first second && not take_the_same

  abbrev pub are_related : Bool
  are_related = are_alike a_method first second
      && (take_as_many first second && (are_in_order || is_ancestor view second.owner first.owner))

  -- this fault is between the two
  abbrev pub is_between : FaultKind → Bool
  is_between duplicate_member = are_in_order && (are_alike a_field first second
      || ((are_alike a_method first second || are_alike a_constructor first second) && take_the_same))
  is_between overload_by_type =
      (are_related && differ_in_types) || (are_in_order && (are_alike a_constructor first second && differ_in_types))
  is_between result_differs = are_related && not (same_type view.classes.cmp first.type second.type)
  is_between static_hidden = are_related && (is_ancestor view second.owner first.owner && (first.is_static || second.is_static))
  is_between kind = false

-- ---- all of a file

-- these kinds, at a place
abbrev pub at_place : ℕ → List FaultKind → List TreeFault
at_place at kinds = map (λ kind. record { kind = kind; at = at }) kinds

abbrev pub faults_between : {C M : Type 0} → View C M → (first second : Row C) → List TreeFault
faults_between view first second = at_place second.at (filter (is_between view first second) every_kind)

-- of a member beside all members
abbrev pub faults_beside : Files → Row ℕ → List TreeFault
faults_beside files second = flat_map (λ (first : Row ℕ). faults_between (files_view files) first second) (rows files)

abbrev pub faults_of : Files → ℕ × File → List TreeFault
faults_of files file = at_place 0 (filter (has_fault files file) every_kind) ++ flat_map (faults_beside files) (rows_in files file)
    ++ tree_faults files file
