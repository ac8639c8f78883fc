-- The classes that declare members, and which of them is met next going up from a class.
use Rattle.std.specs.Prelude.{◌≡◌, ◌↔◌, ℕ, ◌<◌, List, map, Option, Some, None, Contains, if◌then◌else◌}
use Rattle.std.specs.Cmp.Lexicographic.{slice_cmp}
use Rattle.std.specs.List.Sorted.{IsSorted}
use Rattle.std.specs.Ordering.{nat_cmp, on, then_cmp}
use Rattle.std.specs.declared.cmp.Ordering.{Ordering}
use Rattle.jav_names.specs.DottedNames.{Name}
use Rattle.jav_names.specs.LookUps.{is_constructor}
use Rattle.jav_names.specs.Views.{ViewField, ViewDeclaration}
use Rattle.mol_base.specs.Order.{id_cmp}
use Rattle.mol_base.specs.declared.ident.Id.{Id}
use Rattle.mol_scope_classes.specs.hierarchy.Paths.{position_in}
use Rattle.mol_scope_classes.specs.declared.hierarchy.position.Position.{Position}
use Rattle.mol_table_rules.specs.Heights.{climb}
use Rattle.mol_table_rules.specs.Program.{Program}
use Rattle.mol_scope_members.specs.declared.declaring.nearest.Nearest.{Nearest}
use Rattle.mol_scope_members.specs.declared.declaring.owner.Owner.{Owner}
use Rattle.mol_scope_members.specs.declared.declaring.owner.PlacedOwner.{PlacedOwner}

-- a class that declares a member with this number of parameters and this name
pub record Row : Type 0 where
  pub arity : ℕ
  pub name : Name
  pub class : Id

-- that of a field, which has no parameters
abbrev pub field_row : ViewField Id Id → Row
field_row field = record { arity = 0; name = field.name; class = field.owner }

-- that of a declaration, but of one of a constructor
abbrev pub method_row : ViewDeclaration Id Id → Option Row
method_row declared =
    if is_constructor declared.kind then None else Some (record { arity = declared.arity; name = declared.name; class = declared.owner })

-- ---- as the code keeps them

abbrev pub row_of : Owner → Row
row_of owner = record { arity = owner.arity; name = owner.name.now; class = owner.class }

abbrev pub placed_row : PlacedOwner → Row
placed_row placed = record { arity = placed.arity; name = placed.name.now; class = placed.class }

abbrev pub with_position : List (Id × Position) → Owner → PlacedOwner
with_position positions owner =
    record { arity = owner.arity; name = owner.name; class = owner.class; position = position_in positions owner.class }

-- ---- their order

pub record Naming : Type 0 where
  pub arity : ℕ
  pub name : Name

-- by number of parameters, then by the bytes of the name
abbrev pub naming_cmp : Naming → Naming → Ordering
naming_cmp = then_cmp (on (λ naming. naming.arity) nat_cmp) (on (λ naming. naming.name) (slice_cmp nat_cmp))

abbrev pub naming_of : PlacedOwner → Naming
naming_of placed = record { arity = placed.arity; name = placed.name.now }

pub record Path : Type 0 where
  pub naming : Naming
  pub top : Id

-- then by the first class of the path
abbrev pub path_cmp : Path → Path → Ordering
path_cmp = then_cmp (on (λ path. path.naming) naming_cmp) (on (λ path. path.top) id_cmp)

abbrev pub path_of : PlacedOwner → Path
path_of placed = record { naming = naming_of placed; top = placed.position.top }

-- then by the place on it
abbrev pub place_cmp : PlacedOwner → PlacedOwner → Ordering
place_cmp = then_cmp (on path_of path_cmp) (on (λ placed. placed.position.depth) nat_cmp)

-- They are sorted, each with the position of its class.
pub record ArePlaced (positions : List (Id × Position)) (owners : List PlacedOwner) : Type 0 where
  pub sorted : IsSorted place_cmp owners
  pub placed : (owner : PlacedOwner) → Contains owners owner → owner.position ≡ position_in positions owner.class

-- They are those of these rows.
pub record AreOwners (positions : List (Id × Position)) (rows : List Row) (owners : List PlacedOwner) : Type 0 where
  pub placed : ArePlaced positions owners
  pub each : (row : Row) → Contains rows row ↔ Contains (map placed_row owners) row

-- One of them declares a member that is so named.
pub record IsNamed (owners : List PlacedOwner) (naming : Naming) : Type 0 where
  pub class : Id
  pub stands : Contains (map placed_row owners) (record { arity = naming.arity; name = naming.name; class = class })

-- ---- going up

-- Going up so many steps from a class leads to this one, and the classes before it lack what is looked for.
pub record IsNearest (program : Program) (Lacks : Id → Type 0) (class : Id) (nearest : Nearest) : Type 0 where
  pub leads : climb program nearest.steps (Some class) ≡ Some nearest.class
  pub lacking : (steps : ℕ) (above : Id) → steps < nearest.steps → climb program steps (Some class) ≡ Some above → Lacks above
