-- When source files are no program: the fourteen conditions, each with the file and the place of the fault.
use Rattle.std.specs.Prelude.{◌≡◌, ◌≢◌, ◌⊎◌, ℕ, List, ◌∷◌, ◌++◌, map, Contains}
use Rattle.std.specs.List.{flat_map}
use Rattle.std.specs.Ordering.{nat_cmp, on, then_cmp}
use Rattle.std.specs.Cmp.Lexicographic.{slice_cmp}
use Rattle.std.specs.declared.cmp.Ordering.{Ordering}
use Rattle.std.specs.declared.cmp.Ordering.TheVariants.{Less}
use Rattle.mol_base.specs.Paths.{path_of}
use Rattle.jav_names.specs.Ancestors.{Leads}
use Rattle.jav_names.specs.DottedNames.{Name, dot, simple_name}
use Rattle.jav_names.specs.UnitViews.{numbered}
use Rattle.mol_resolve_rules.specs.FaultKinds.{FaultKind, rank_of, path_differs, duplicate_class, package_is_class, super_cycle, import_clash}
use Rattle.mol_resolve_rules.specs.Files.{File, Files, HasFile, class_name, files_view, type_of_file}
use Rattle.mol_resolve_rules.specs.MemberFaults.{Row, row_of, IsBetween}
use Rattle.mol_resolve_rules.specs.ReadFiles.{tree_faults}

-- ---- of classes

-- the path is not that of the package and the class (JLS 7.6)
pub record PathDiffers (files : Files) (number : ℕ) : Type 0 where
  pub file : File
  pub stands : HasFile files number file
  pub differs : file.path ≢ path_of file.unit.«package» file.unit.class.name

-- another class has the same full name (JLS 7.6)
pub record DuplicateClass (files : Files) (number : ℕ) : Type 0 where
  pub file : File
  pub other : File
  pub second : ℕ
  pub apart : number ≢ second
  pub stands : HasFile files number file
  pub other_stands : HasFile files second other
  pub same : class_name file ≡ class_name other

-- a text begins with another and a dot
pub record BeginsWith (text front : Name) : Type 0 where
  pub rest : Name
  pub is : text ≡ front ++ dot ∷ rest

-- The full name of the class is a package, or a package is in it as in a package (JLS 7.1).
pub record PackageIsClass (files : Files) (number : ℕ) : Type 0 where
  pub file : File
  pub other : File
  pub stands : HasFile files number file
  pub other_stands : Contains files other
  pub inside : (other.unit.«package» ≡ class_name file) ⊎ BeginsWith other.unit.«package» (class_name file)

-- following superclasses from the class comes back to it (JLS 8.1.4)
abbrev pub SuperCycle : Files → ℕ → Type 0
SuperCycle files number = Leads (files_view files) number number

-- An import, and another or the file's own class, have one simple name and different full names (JLS 7.5.1).
pub record ImportClash (files : Files) (number : ℕ) : Type 0 where
  pub file : File
  pub stands : HasFile files number file
  pub import : Name
  pub other : Name
  pub imported : Contains file.unit.imports import
  pub known : (other ≡ class_name file) ⊎ Contains file.unit.imports other
  pub apart : import ≢ other
  pub same : simple_name import ≡ simple_name other

-- ---- of two members

abbrev pub rows_in : Files → ℕ × File → List (Row ℕ)
rows_in files file = map (row_of (type_of_file files file) file.0) (numbered file.1.unit.class.members)

-- the rows of all members
abbrev pub rows : Files → List (Row ℕ)
rows files = flat_map (rows_in files) (numbered files)

-- ---- all of them

-- The files have this fault, in the file of this number and at this place. The last five kinds are met in trees. A fault between members
-- is in the file of the second, where that begins.
pub data Fails (files : Files) : FaultKind → (number at : ℕ) → Type 0 where
  by_path : {number : ℕ} → PathDiffers files number → Fails files path_differs number 0
  by_class : {number : ℕ} → DuplicateClass files number → Fails files duplicate_class number 0
  by_package : {number : ℕ} → PackageIsClass files number → Fails files package_is_class number 0
  by_superclass : {number : ℕ} → SuperCycle files number → Fails files super_cycle number 0
  by_import : {number : ℕ} → ImportClash files number → Fails files import_clash number 0
  between_members : {kind : FaultKind} {first second : Row ℕ} → Contains (rows files) first → Contains (rows files) second
      → IsBetween (files_view files) kind first second → Fails files kind second.owner second.at
  in_tree : {number at : ℕ} {kind : FaultKind} {file : File} → HasFile files number file
      → Contains (tree_faults files (number, file)) (record { kind = kind; at = at }) → Fails files kind number at

-- ---- the first of them

-- a fault in the file of a path
pub record FaultInFile : Type 0 where
  pub path : Name
  pub at : ℕ
  pub kind : FaultKind

-- by path, then by place, then by kind
abbrev pub fault_cmp : FaultInFile → FaultInFile → Ordering
fault_cmp = then_cmp (on (λ fault. fault.path) (slice_cmp nat_cmp))
    (then_cmp (on (λ fault. fault.at) nat_cmp) (on (λ fault. rank_of fault.kind) nat_cmp))

abbrev pub fault_in : File → FaultKind → ℕ → FaultInFile
fault_in file kind at = record { path = file.path; at = at; kind = kind }

-- no two of the files have one path
abbrev pub HavePathsApart : Files → Type 0
HavePathsApart files = (number second : ℕ) (file other : File) → HasFile files number file → HasFile files second other
    → file.path ≡ other.path → number ≡ second

-- The files have the fault, and none goes before it.
pub record IsFirstFault (files : Files) (kind : FaultKind) (number at : ℕ) : Type 0 where
  pub file : File
  pub stands : HasFile files number file
  pub holds : Fails files kind number at
  pub none_before : (other : FaultKind) (second place : ℕ) (other_file : File) → HasFile files second other_file
      → Fails files other second place → fault_cmp (fault_in other_file other place) (fault_in file kind at) ≢ Less
