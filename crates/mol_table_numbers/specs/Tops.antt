-- The topmost declarations that the code has met.
use Rattle.std.specs.Prelude.{◌≡◌, ℕ, suc, true, false, cond, List, length, Option, None, Some, option_map}
use Rattle.std.specs.FinMap.{FinMap, from_entries, get}
use Rattle.std.specs.List.{list_any}
use Rattle.std.specs.Ordering.{nat_cmp, on, then_cmp, is_lt}
use Rattle.std.specs.declared.cmp.Ordering.{Ordering}
use Rattle.mol_base.specs.Order.{id_cmp}
use Rattle.mol_base.specs.declared.ident.Id.{Id}
use Rattle.mol_table_rules.specs.Counting.{living_of}
use Rattle.mol_table_rules.specs.Heights.{climb, height, Leads}
use Rattle.mol_table.specs.Maps.{counts_of, program_in}
use Rattle.mol_table_rules.specs.Program.{Program, same_id, owner_at}
use Rattle.mol_table.specs.declared.maps.Maps.{Maps}
use Rattle.mol_table_numbers.specs.declared.heights.Way.{Way}
use Rattle.mol_table_numbers.specs.declared.tops.Top.{Top}

abbrev pub TopMap : Type 0
TopMap = FinMap id_cmp Top

abbrev pub tops_of : List (Id × Top) → TopMap
tops_of tops = from_entries tops

-- the declaration that the entries have for a method
abbrev pub top_in : List (Id × Top) → Id → Option Id
top_in tops method = option_map (λ (top : Top). top.decl) (get (tops_of tops) method)

-- the one with fewer classes above it goes first, of several the least identity
abbrev pub top_cmp : Top → Top → Ordering
top_cmp = then_cmp (on (λ top. top.height) nat_cmp) (on (λ top. top.decl) id_cmp)

-- the first of two
abbrev pub upper : Option Top → Top → Top
upper None top = top
upper (Some met) top = cond (is_lt (top_cmp top met)) top met

abbrev pub height_in : Maps → Id → ℕ
height_in maps class = height (program_in maps) (suc (length maps.known.entries)) (Some class)

-- that of the class there is
abbrev pub height_at : Maps → Option Id → ℕ
height_at maps None = 0
height_at maps (Some class) = height_in maps class

-- following superclasses comes to an end, in no more steps than there are entries and one
abbrev pub Ends : Maps → Option Id → Type 0
Ends maps at = climb (program_in maps) (suc (length maps.known.entries)) at ≡ None

-- following superclasses from a class comes to an end, and this is its height
pub record IsHeight (maps : Maps) (class : Id) (high : ℕ) : Type 0 where
  pub ends : Ends maps (Some class)
  pub is : high ≡ height_in maps class

-- the entries have right heights
abbrev pub AreHeights : Maps → List (Id × ℕ) → Type 0
AreHeights maps heights = (class : Id) (high : ℕ) → get (counts_of heights) class ≡ Some high → IsHeight maps class high

-- the classes from one on upwards to another, from which following superclasses comes to an end, and the height of that
pub record IsWay (maps : Maps) (start : Option Id) (way : Way) : Type 0 where
  pub at : Option Id
  pub leads : Leads (program_in maps) start way.classes.items at
  pub ends : Ends maps at
  pub high : way.height ≡ height_at maps at

abbrev pub top_of : Maps → Id → Id → Top
top_of maps decl class = record { height = height_in maps class; decl = decl }

-- a declaration among these, in this class, that is a living one of the method
pub record IsDeclared (maps : Maps) (decls : List Id) (method decl class : Id) : Type 0 where
  pub among : list_any (same_id decl) decls ≡ true
  pub declares : living_of (program_in maps) decl ≡ Some method
  pub owned : owner_at (program_in maps) decl ≡ Some class

-- the first of the living declarations of a method among these; following superclasses from its class comes to an end
pub record IsTop (maps : Maps) (decls : List Id) (method : Id) (top : Top) : Type 0 where
  pub class : Id
  pub declared : IsDeclared maps decls method top.decl class
  pub ends : Ends maps (Some class)
  pub high : top ≡ top_of maps top.decl class
  pub least : (decl other : Id) → IsDeclared maps decls method decl other → is_lt (top_cmp (top_of maps decl other) top) ≡ false

abbrev pub TopIs : Maps → List Id → Id → Option Top → Type 0
TopIs maps decls method None = (decl class : Id) → ¬ (IsDeclared maps decls method decl class)
TopIs maps decls method (Some top) = IsTop maps decls method top

-- the entries have the first of the living declarations among these of each method
abbrev pub AreTops : Maps → List Id → List (Id × Top) → Type 0
AreTops maps decls tops = (method : Id) → TopIs maps decls method (get (tops_of tops) method)
