-- Packages and full names as texts with a dot behind: a package is a full name, or in it, where this begins that.
use Rattle.std.specs.Prelude.{◌≡◌, ◌↔◌, ℕ, ◌≤◌, Bool, true, false, cond, List, [], ◌∷◌, ◌++◌, drop, length, Contains, Option, Some, None, nat_eq}
use Rattle.std.specs.Cmp.Lexicographic.{slice_cmp}
use Rattle.std.specs.List.{starts_with}
use Rattle.std.specs.List.Sorted.{IsPartitionPoint}
use Rattle.std.specs.Ordering.{nat_cmp, is_lt}
use Rattle.jav_names.specs.DottedNames.{Name, dot}
use Rattle.mol_base.specs.declared.ident.Id.{Id}
use Rattle.mol_spell_rules.specs.Writers.{program_class, full_of}
use Rattle.mol_table_rules.specs.Program.{Program, package_at}
use Rattle.mol_table_rules.specs.Renumber.{is_living_class}
use Rattle.mol_faults_entities.specs.declared.package_faults.package_rows.PackageRow.{PackageRow}

-- a text begins with this front
abbrev pub begins : (front text : Name) → Bool
begins front text = starts_with nat_eq text front

abbrev pub dotted_package : Program → Id → Name
dotted_package program class = package_at program class ++ dot ∷ []

abbrev pub dotted_name : Program → Id → Name
dotted_name program class = full_of program (program_class class) ++ dot ∷ []

-- by the bytes of the packages
abbrev pub comes_before : PackageRow → PackageRow → Bool
comes_before first second = is_lt (slice_cmp nat_cmp first.dotted second.dotted)

-- the package of a class
abbrev pub row_of : Program → Id → PackageRow
row_of program class = record { dotted = dotted_package program class; class = class }

-- and that, if the class lives
abbrev pub living_row : Program → Id → Option PackageRow
living_row program id = cond (is_living_class program id) (Some (row_of program id)) None

-- a class that lives, with its package
pub record IsRow (program : Program) (row : PackageRow) : Type 0 where
  pub lives : is_living_class program row.class ≡ true
  pub named : row.dotted ≡ dotted_package program row.class

-- These are all such rows.
abbrev pub HasRows : Program → List PackageRow → Type 0
HasRows program rows = (row : PackageRow) → Contains rows row ↔ IsRow program row

-- These are the rows from a place on, before which they come before this name, and not from there on.
pub record StartsAt (name : Name) (rows run : List PackageRow) : Type 0 where
  pub place : ℕ
  pub within : place ≤ length rows
  pub parts : IsPartitionPoint (λ (row : PackageRow). is_lt (slice_cmp nat_cmp row.dotted name) ≡ true)
      (λ (row : PackageRow). is_lt (slice_cmp nat_cmp row.dotted name) ≡ false) rows place
  pub is : run ≡ drop place rows
