-- Declarations with what they are found by: all by their methods, those of constructors by their classes.
use Rattle.std.specs.Prelude.{◌↔◌, List, Option, None, Some, option_map, Contains}
use Rattle.std.specs.FinMap.{get}
use Rattle.std.specs.List.Sorted.{IsSorted}
use Rattle.std.specs.Ordering.{on}
use Rattle.std.specs.declared.cmp.Ordering.{Ordering}
use Rattle.mol_base.specs.Order.{id_cmp}
use Rattle.mol_base.specs.declared.ident.Id.{Id}
use Rattle.mol_faults_support.specs.declared.link.Link.{Link}
use Rattle.mol_spell_rules.specs.Support.{IsConstructorOf, IsDeclarationOf}
use Rattle.mol_table_rules.specs.Program.{Program, owner_at}
use Rattle.mol_values_types.specs.declared.kind.MethodKind.TheVariants.{Constructor}
use Rattle.mol_values_types.specs.declared.known.Known.{Known}
use Rattle.mol_values_types.specs.declared.known.Known.TheVariants as knowns

abbrev pub link : Id → Id → Link
link key id = record { key = key; id = id }

-- by what they are found by alone
abbrev pub links_cmp : Link → Link → Ordering
links_cmp = on (λ link. link.key) id_cmp

-- ---- all of a program

-- a known declaration and its method
abbrev pub IsDeclared : Program → Link → Type 0
IsDeclared program found = IsDeclarationOf program found.key found.id

-- a known declaration of a constructor and its class
abbrev pub IsConstructed : Program → Link → Type 0
IsConstructed program found = IsConstructorOf program found.key found.id

-- These are all of one sort, sorted.
pub record AreSorted (Is : Link → Type 0) (links : List Link) : Type 0 where
  pub sorted : IsSorted links_cmp links
  pub each : (found : Link) → Contains links found ↔ Is found

abbrev pub AreDeclared : Program → List Link → Type 0
AreDeclared program = AreSorted (IsDeclared program)

abbrev pub AreConstructed : Program → List Link → Type 0
AreConstructed program = AreSorted (IsConstructed program)

-- both of one program
pub record AreIndexed (program : Program) (by_method by_class : List Link) : Type 0 where
  pub declared : AreDeclared program by_method
  pub constructed : AreConstructed program by_class

-- These are found by one of the keys.
abbrev pub AreLinked : List Link → List Id → List Id → Type 0
AreLinked links keys found = (id : Id) → Contains found id ↔ ((key : Id) × Contains keys key × Contains links (link key id))

-- ---- one by one

abbrev pub declared_as : Id → Option Known → Option Link
declared_as id (Some (knowns.Decl method)) = Some (link method id)
declared_as id known = None

-- an identity with its method, if it is a declaration
abbrev pub declared_link : Program → Id → Option Link
declared_link program id = declared_as id (get program.known id)

abbrev pub constructed_by : Program → Id → Option Known → Option Link
constructed_by program id (Some (knowns.Method Constructor)) = option_map (λ class. link class id) (owner_at program id)
constructed_by program id known = None

abbrev pub constructed_as : Program → Id → Option Known → Option Link
constructed_as program id (Some (knowns.Decl method)) = constructed_by program id (get program.known method)
constructed_as program id known = None

-- an identity with its class, if it is a declaration of a constructor
abbrev pub constructor_link : Program → Id → Option Link
constructor_link program id = constructed_as program id (get program.known id)
