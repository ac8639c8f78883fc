-- The first fault of files, and in which of them it stands.
use Rattle.std.specs.Prelude.{◌≡◌, ℕ, List, ◌∷◌, ◌++◌, Option, Some, None, Contains}
use Rattle.jav_names.specs.UnitViews.{numbered}
use Rattle.mol_resolve_faults.specs.First.{all_noted}
use Rattle.mol_resolve_faults.specs.ResolveFaults.{resolve_fault}
use Rattle.mol_resolve_faults.specs.declared.fault.ResolveFault.{ResolveFault}
use Rattle.mol_resolve_rules.specs.FaultLists.{faults_of}
use Rattle.mol_resolve_rules.specs.Files.{File, Files}
use Rattle.mol_resolve_rules.specs.Numbering.{by_path}
use Rattle.mol_resolve_rules.specs.Outcomes.{TreeFault}
use Rattle.mol_resolve_rules.specs.ReadAs.{HasNoFault}
use Rattle.mol_resolve_rules.specs.ResolveFaults.{HavePathsApart, IsFirstFault}

-- the first of the faults in a file, if it has one
abbrev pub first_in : Files → ℕ × File → Option TreeFault
first_in files file = all_noted None (faults_of files file)

-- The fault is the first one of the files.
pub record IsFirstOf (files : Files) (fault : ResolveFault) : Type 0 where
  pub number : ℕ
  pub first : TreeFault
  pub is : fault ≡ resolve_fault number first
  pub is_first : IsFirstFault files first.kind number first.at

-- In the order of paths the first file that has a fault has the first fault of all. Where none has one, the files have none.
pub record FirstByPath : Type 0 where
  pub some : (files : Files) (before after : List (ℕ × File)) (file : ℕ × File) (first : TreeFault) → HavePathsApart files
      → by_path (numbered files) ≡ before ++ file ∷ after
      → ((earlier : ℕ × File) → Contains before earlier → first_in files earlier ≡ None) → first_in files file ≡ Some first
      → IsFirstFault files first.kind file.0 first.at
  pub none : (files : Files) → ((file : ℕ × File) → Contains (by_path (numbered files)) file → first_in files file ≡ None)
      → HasNoFault files
