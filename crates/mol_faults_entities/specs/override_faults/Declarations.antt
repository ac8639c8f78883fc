-- Living declarations of methods as the code keeps them, and their order.
use Rattle.std.specs.Prelude.{ℕ, Bool, true, false, List, length, Option, Some, None, option_map, if◌then◌else◌}
use Rattle.std.specs.Cmp.Lexicographic.{slice_cmp}
use Rattle.std.specs.FinMap.{get}
use Rattle.std.specs.Ordering.{nat_cmp, on, then_cmp}
use Rattle.std.specs.declared.cmp.Ordering.{Ordering}
use Rattle.jav_names.specs.DottedNames.{Name}
use Rattle.mol_base.specs.Order.{id_cmp}
use Rattle.mol_base.specs.declared.ident.Id.{Id}
use Rattle.mol_scope_classes.specs.hierarchy.Paths.{position_in}
use Rattle.mol_scope_classes.specs.declared.hierarchy.position.Position.{Position}
use Rattle.mol_faults_entities.specs.declared.override_faults.declaration.Declaration.{Declaration as Kept}
use Rattle.mol_faults_entities.specs.declared.override_faults.key.Key.{Key as KeptKey}
use Rattle.mol_faults_entities.specs.pair_faults.MadeRows.{AreMade}
use Rattle.mol_table_rules.specs.Program.{Program, living_at, name_at, owner_at, params_at}
use Rattle.mol_values_types.specs.declared.kind.MethodKind.TheVariants.{Constructor}
use Rattle.mol_values_types.specs.declared.known.Known.{Known}
use Rattle.mol_values_types.specs.declared.known.Known.TheVariants as knowns

-- what declarations are sorted by: number of parameters and name of the method, and where the class stands on its path
pub record Key : Type 0 where
  pub arity : ℕ
  pub name : Name
  pub position : Position

-- number of parameters and name alone
pub record Naming : Type 0 where
  pub arity : ℕ
  pub name : Name

-- these and the path of the class, by its first one
pub record NamedPath : Type 0 where
  pub naming : Naming
  pub top : Id

abbrev pub naming_of : Key → Naming
naming_of key = record { arity = key.arity; name = key.name }

abbrev pub path_of : Key → NamedPath
path_of key = record { naming = naming_of key; top = key.position.top }

abbrev pub naming_cmp : Naming → Naming → Ordering
naming_cmp = then_cmp (on (λ naming. naming.arity) nat_cmp) (on (λ naming. naming.name) (slice_cmp nat_cmp))

abbrev pub path_cmp : NamedPath → NamedPath → Ordering
path_cmp = then_cmp (on (λ path. path.naming) naming_cmp) (on (λ path. path.top) id_cmp)

abbrev pub key_cmp : Key → Key → Ordering
key_cmp = then_cmp (on path_of path_cmp) (on (λ key. key.position.depth) nat_cmp)

-- a declaration with its class and its method
pub record Row : Type 0 where
  pub key : Key
  pub owner : Id
  pub method : Id
  pub id : Id

-- ---- as the code keeps them

abbrev pub key_of : KeptKey → Key
key_of kept = record { arity = kept.arity; name = kept.name.now; position = kept.position }

abbrev pub row_of : Kept → Row
row_of kept = record { key = key_of kept.key; owner = kept.owner; method = kept.method; id = kept.id }

-- ---- those of a program whose classes stand at these positions

-- a method, and no constructor
abbrev pub is_method : Option Known → Bool
is_method (Some (knowns.Method Constructor)) = false
is_method (Some (knowns.Method kind)) = true
is_method known = false

abbrev pub declared_in : Program → List (Id × Position) → Id → Id → Id → Row
declared_in program positions id method owner = record {
  key = record { arity = length (params_at program method); name = name_at program method; position = position_in positions owner };
  owner = owner;
  method = method;
  id = id;
}

-- of a living declaration of this method
abbrev pub declared_of : Program → List (Id × Position) → Id → Id → Option Row
declared_of program positions id method = if is_method (get program.known method)
    then option_map (declared_in program positions id method) (owner_at program id) else None

-- of what is known so
abbrev pub declared_as : Program → List (Id × Position) → Id → Option Known → Option Row
declared_as program positions id (Some (knowns.Decl method)) = declared_of program positions id method
declared_as program positions id known = None

-- a living declaration of a method, if this is one
abbrev pub declared_at : Program → List (Id × Position) → Id → Option Row
declared_at program positions id =
    if living_at program id then declared_as program positions id (get program.known id) else None

-- These are all of them.
abbrev pub AreDeclared : Program → List (Id × Position) → List Row → Type 0
AreDeclared program positions = AreMade (λ row. row.id) (declared_at program positions)

-- ---- the order of what the code keeps

abbrev pub rows_cmp : Kept → Kept → Ordering
rows_cmp = on (λ row. key_of row.key) key_cmp
