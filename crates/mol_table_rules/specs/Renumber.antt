-- Renumbering: what lives is numbered from 1 as a base is. Classes go first, by the paths of their files; then fields and
-- declarations class by class, in the order in which they print, which is that of their identities; then methods in the order of
-- their topmost declarations, each followed by its present parameters.
use Rattle.std.specs.Prelude.{◌≡◌, ℕ, suc, ◌+◌, ◌<◌, ◌^◌, Bool, true, false, cond, ◌&&◌, List, [], Option, None, Some, unwrap_or}
use Rattle.std.specs.List.{find, filter_map, position}
use Rattle.std.specs.FinMap.{get, entries, keys, from_entries}
use Rattle.std.specs.Ordering.{nat_cmp, on, then_cmp, is_lt}
use Rattle.std.specs.Cmp.Lexicographic.{slice_cmp}
use Rattle.std.specs.declared.cmp.Ordering.{Ordering}
use Rattle.mol_base.specs.Order.{id_cmp}
use Rattle.mol_base.specs.Paths.{path_of}
use Rattle.mol_base.specs.declared.ident.Id.{Id}
use Rattle.mol_table_rules.specs.Counting.{passing}
use Rattle.mol_table_rules.specs.Faults.{is_topmost, Apart, Missing}
use Rattle.mol_table_rules.specs.Life.{lives}
use Rattle.mol_table_rules.specs.Program.{Program, same_id, cell, living_at, package_at, name_at, owner_at, params_at}
use Rattle.mol_values_types.specs.Renamed.{rename_value, rename_known}
use Rattle.mol_table_rules.specs.Tidy.{tidy}
use Rattle.mol_values_types.specs.declared.cell.Cell.{Cell}
use Rattle.mol_values_types.specs.declared.known.Known.{Known}
use Rattle.mol_values_types.specs.declared.known.Known.TheVariants as knowns
use Rattle.mol_values_types.specs.declared.param.Param.{Param}
use Rattle.mol_values_types.specs.declared.value.Value.{Value}

-- ---- the order of classes

-- the path of the file of a class
abbrev pub path_at : Program → Id → List ℕ
path_at program class = path_of (package_at program class) (name_at program class)

-- by path; two of one path go by identity
abbrev pub file_cmp : Program → Id → Id → Ordering
file_cmp program = then_cmp (on (path_at program) (slice_cmp nat_cmp)) id_cmp

abbrev pub is_class : Option Known → Bool
is_class (Some knowns.Class) = true
is_class known = false

abbrev pub is_living_class : Program → Id → Bool
is_living_class program id = is_class (get program.known id) && living_at program id

-- the second is a class that lives, and its file comes before that of the first
abbrev pub class_before : Program → Id → Id → Bool
class_before program class id = is_living_class program id && is_lt (file_cmp program id class)

-- one more than the number of classes that live and come before
abbrev pub class_number : Program → Id → ℕ
class_number program class = suc (passing (class_before program class) (keys program.known))

-- ---- the printed order

-- Where something stands in the printed order: by the part of the order, then by the number of a class, then by the identity that
-- prints there, then by a place in what belongs to that, and last by its own identity.
pub record Rank : Type 0 where
  pub part : ℕ
  pub class : ℕ
  pub printed : Id
  pub place : ℕ
  pub own : Id

abbrev pub rank_cmp : Rank → Rank → Ordering
rank_cmp = then_cmp (on (λ rank. rank.part) nat_cmp) (then_cmp (on (λ rank. rank.class) nat_cmp)
    (then_cmp (on (λ rank. rank.printed) id_cmp) (then_cmp (on (λ rank. rank.place) nat_cmp) (on (λ rank. rank.own) id_cmp))))

-- the number of a class that lives; 0 where there is none
abbrev pub owner_number : Program → Option Id → ℕ
owner_number program None = 0
owner_number program (Some owner) = cond (is_living_class program owner) (class_number program owner) 0

abbrev pub class_rank : Program → Id → Rank
class_rank program class = record { part = 0; class = owner_number program (Some class); printed = class; place = 0; own = class }

-- a field or declaration, in the class that owns it
abbrev pub member_rank : Program → Id → Rank
member_rank program member = record { part = 1; class = owner_number program (owner_at program member); printed = member; place = 0; own = member }

-- the topmost declaration of a method: there is one where the method is not apart
abbrev pub topmost : Program → Id → Option Id
topmost program method = find (is_topmost program method) (keys program.known)

-- what belongs to a method, by the method's topmost declaration: first the method, then its parameters
abbrev pub method_rank : Program → Id → Id → ℕ → Rank
method_rank program own decl place = record { part = 2; class = owner_number program (owner_at program decl); printed = decl; place = place; own = own }

abbrev pub shown : Program → Id → Id
shown program method = unwrap_or (topmost program method) method

-- the place of a parameter in the present list of its method
abbrev pub place_in : Program → Id → Id → ℕ
place_in program method id = unwrap_or (position (λ (param : Param). same_id id param.id) (params_at program method)) 0

abbrev pub rank_as : Program → Id → Option Known → Rank
rank_as program id None = record { part = 3; class = 0; printed = id; place = 0; own = id }
rank_as program id (Some knowns.Class) = class_rank program id
rank_as program id (Some knowns.Field) = member_rank program id
rank_as program id (Some (knowns.Decl method)) = member_rank program id
rank_as program id (Some (knowns.Method kind)) = method_rank program id (shown program id) 0
rank_as program id (Some (knowns.Param method)) = method_rank program id (shown program method) (place_in program method id + 1)

abbrev pub rank : Program → Id → Rank
rank program id = rank_as program id (get program.known id)

-- the second lives, and comes before the first in the printed order
abbrev pub comes_before : Program → Id → Id → Bool
comes_before program id before = lives program before && is_lt (rank_cmp (rank program before) (rank program id))

-- ---- numbers

-- one more than the number of what lives and comes before
abbrev pub number : Program → Id → ℕ
number program id = suc (passing (comes_before program id) (keys program.known))

-- the identity of a base with this number
abbrev pub base_id : ℕ → Id
base_id number = record { tag = []; num = number }

-- the new identity; what does not live keeps its own
abbrev pub numbered : Program → Id → Id
numbered program id = cond (lives program id) (base_id (number program id)) id

abbrev pub renumber_cell : Program → Cell × Value → Option (Cell × Value)
renumber_cell program entry =
    cond (lives program entry.0.id) (Some (cell (numbered program entry.0.id) entry.0.slot, rename_value (numbered program) entry.1)) None

abbrev pub renumber_known : Program → Id × Known → Option (Id × Known)
renumber_known program entry = cond (lives program entry.0) (Some (numbered program entry.0, rename_known (numbered program) entry.1)) None

-- what lives of a program, and the present parameters of what lives, with new identities
abbrev pub renumber : Program → Program
renumber program = record {
  cells = from_entries (filter_map (renumber_cell program) (entries program.cells));
  known = from_entries (filter_map (renumber_known program) (entries program.known));
}

-- What renumbering asks of a program: it is tidied, no method is apart, nothing that lives refers to what is not there, and the
-- numbers fit.
pub record MayRenumber (program : Program) : Type 0 where
  pub tidied : tidy program ≡ program
  pub together : (method : Id) → ¬ (Apart program method)
  pub present : (at : Cell) (target : Id) → ¬ (Missing program at target)
  pub few : passing (lives program) (keys program.known) < 2 ^ 32
