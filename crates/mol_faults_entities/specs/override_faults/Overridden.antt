-- Declarations of other methods in the ancestors of a class that a declaration in it would override.
use Rattle.std.specs.Prelude.{◌≡◌, ◌⊎◌, ◌↔◌, ◌+◌, ◌<◌, ◌≤◌, Bool, true, false, not, ◌||◌, ℕ, List, length, Option, None, Some, Contains, slice_get, if◌then◌else◌}
use Rattle.std.specs.List.Sorted.{IsPermutation, IsSorted}
use Rattle.std.specs.Ordering.{is_eq, on, then_cmp}
use Rattle.std.specs.declared.cmp.Ordering.{Ordering}
use Rattle.mol_base.specs.Order.{id_cmp}
use Rattle.mol_base.specs.declared.ident.Id.{Id}
use Rattle.mol_scope_classes.specs.hierarchy.Paths.{position_in}
use Rattle.mol_scope_classes.specs.declared.hierarchy.position.Position.{Position}
use Rattle.mol_faults_entities.specs.override_faults.Declarations.{Naming, key_of, naming_cmp, naming_of, rows_cmp}
use Rattle.mol_faults_entities.specs.declared.override_faults.declaration.Declaration.{Declaration}
use Rattle.mol_faults_entities.specs.declared.override_faults.orders.Orders.{Orders}
use Rattle.mol_faults_entities.specs.pair_faults.Pairs.{ordered_pair}
use Rattle.mol_faults_entities.specs.declared.pair_faults.pair.Pair.{Pair}
use Rattle.mol_spell_rules.specs.FaultList.{Fault, false_override}
use Rattle.mol_table_rules.specs.Ancestors.{is_on_way}
use Rattle.mol_table_rules.specs.Program.{Program}
use Rattle.mol_values_types.specs.Order.{id_eq}

abbrev pub override_fault : Pair → Fault
override_fault pair = false_override pair.first pair.second

abbrev pub naming_at : Declaration → Naming
naming_at row = naming_of (key_of row.key)

-- ---- pairs of declarations

-- a declaration with one above, if their methods and their classes differ
abbrev pub pair_above : Declaration → Declaration → Option Pair
pair_above row above =
    if (id_eq row.method above.method || id_eq row.owner above.owner) then None else ordered_pair row.id above.id

-- The pair is that of a declaration and one that is named as it is in an ancestor of its class.
pub record IsOver (program : Program) (rows : List Declaration) (row : Declaration) (pair : Pair) : Type 0 where
  pub above : Declaration
  pub stands : Contains rows above
  pub on_way : is_on_way program row.owner above.owner ≡ true
  pub alike : naming_at row ≡ naming_at above
  pub made : pair_above row above ≡ Some pair

-- The pair is so of one of the second declarations.
pub record IsOverAny (program : Program) (rows among : List Declaration) (pair : Pair) : Type 0 where
  pub below : Declaration
  pub stands : Contains among below
  pub over : IsOver program rows below pair

-- The pair is that of a declaration and one that is named as it is in a class at this position of a path, or further up the path.
pub record IsAlong (rows : List Declaration) (row : Declaration) (position : Position) (pair : Pair) : Type 0 where
  pub above : Declaration
  pub stands : Contains rows above
  pub alike : naming_at row ≡ naming_at above
  pub path : above.key.position.top ≡ position.top
  pub up : above.key.position.depth ≤ position.depth
  pub made : pair_above row above ≡ Some pair

-- The new list has the pairs of the old one and all that are so.
abbrev pub Adds : (Pair → Type 0) → List Pair → List Pair → Type 0
Adds IsSo old new = (pair : Pair) → Contains new pair ↔ (Contains old pair ⊎ IsSo pair)

-- Each declaration has the position of its class.
abbrev pub ArePlaced : List (Id × Position) → List Declaration → Type 0
ArePlaced positions rows = (row : Declaration) → Contains rows row → row.key.position ≡ position_in positions row.owner

-- ---- methods that are named alike

abbrev pub has_naming : Naming → Declaration → Bool
has_naming naming row = is_eq (naming_cmp naming (naming_at row))

-- by what they are named, then by method
abbrev pub methods_cmp : Declaration → Declaration → Ordering
methods_cmp = then_cmp (on naming_at naming_cmp) (on (λ row. row.method) id_cmp)

-- the declarations that are named so are all of one method
abbrev pub AreOfOneMethod : List Declaration → Naming → Type 0
AreOfOneMethod rows naming = (first second : Declaration) → Contains rows first → Contains rows second
    → has_naming naming first ≡ true → has_naming naming second ≡ true → first.method ≡ second.method

-- the first and the last, if there are any, are of two methods
abbrev pub methods_differ : Option Declaration → Option Declaration → Bool
methods_differ (Some first) (Some last) = not (id_eq first.method last.method)
methods_differ first last = false

-- ---- runs of neighbours that declare one method

-- Those from a start up to before a limit are of the method of the first of them.
abbrev pub IsRun : List Declaration → ℕ → ℕ → Type 0
IsRun rows start limit = (place : ℕ) (first row : Declaration) → start ≤ place → place < limit → slice_get rows start ≡ Some first
    → slice_get rows place ≡ Some row → first.method ≡ row.method

-- for each place the start of a run that ends there
pub record AreRuns (rows : List Declaration) (runs : List ℕ) : Type 0 where
  pub long : length runs ≡ length rows
  pub within : (last start : ℕ) → slice_get runs last ≡ Some start → start ≤ last
  pub alike : (last start : ℕ) → slice_get runs last ≡ Some start → IsRun rows start (last + 1)

-- None from the next place on makes a pair with the declaration, up to before the last one.
pub record IsNext (rows : List Declaration) (row : Declaration) (last next : ℕ) : Type 0 where
  pub within : next ≤ last
  pub passed : (place : ℕ) (above : Declaration) → next ≤ place → place < last → slice_get rows place ≡ Some above
      → pair_above row above ≡ None

-- ---- the same declarations in two orders

pub record AreSorted (orders : Orders) : Type 0 where
  pub by_key : IsSorted rows_cmp orders.by_key.items
  pub by_method : IsSorted methods_cmp orders.by_method.items
  pub same : IsPermutation orders.by_key.items orders.by_method.items
  pub runs : AreRuns orders.by_key.items orders.runs.items
