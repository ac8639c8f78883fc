-- Views with the same classes and members in any order, in which addresses differ.
use Rattle.std.specs.Prelude.{◌≡◌, ◌≢◌, length, option_map, Contains}
use Rattle.jav_names.specs.Types.{full_name}
use Rattle.jav_names.specs.Views.{constructor, ViewClass, ViewField, ViewDeclaration, View, IsKeyOrder}
use Rattle.jav_names_laws.specs.Keys.{Keys, type_as, class_as, field_as, declaration_as}

-- What is made of each that stands here stands there, and each that stands there is made of one that stands here.
pub record SameElements {X Y : Type 0} (make : X → Y) (Here : X → Type 0) (There : Y → Type 0) : Type 0 where
  pub there : (x : X) → Here x → There (make x)
  pub back : (y : Y) → There y → (x : X) × Here x × (make x ≡ y)

-- No two classes have one full name, no two fields of a class one name, no two methods of a class one name and number of parameters, and
-- no two constructors of a class one number of parameters.
pub record AddressesDiffer {C M : Type 0} (view : View C M) : Type 0 where
  pub classes : (first second : ViewClass C) → Contains view.classes.items first → Contains view.classes.items second
      → full_name first ≡ full_name second → first ≡ second
  pub fields : (first second : ViewField C M) → Contains view.fields first → Contains view.fields second
      → first.owner ≡ second.owner → first.name ≡ second.name → first ≡ second
  pub methods : (first second : ViewDeclaration C M) → Contains view.declarations first → Contains view.declarations second
      → first.kind ≢ constructor → second.kind ≢ constructor
      → first.owner ≡ second.owner → first.name ≡ second.name → first.arity ≡ second.arity → first ≡ second
  pub constructors : (first second : ViewDeclaration C M) → Contains view.declarations first → Contains view.declarations second
      → first.kind ≡ constructor → second.kind ≡ constructor
      → first.owner ≡ second.owner → first.arity ≡ second.arity → first ≡ second

-- The other view has the classes and members of the view, and what each class extends, with other keys; no two classes get one key, and
-- no two of its classes or members have one address. There are as many classes, so that ways go up as far.
pub record ViewsMatch {C M D N : Type 0} (keys : Keys C M D N) (view : View C M) (other : View D N) : Type 0 where
  pub order : IsKeyOrder view.classes.cmp
  pub other_order : IsKeyOrder other.classes.cmp
  pub one_to_one : (first second : C) → keys.class first ≡ keys.class second → first ≡ second
  pub as_many : length view.classes.items ≡ length other.classes.items
  pub classes : SameElements (class_as keys.class) (Contains view.classes.items) (Contains other.classes.items)
  pub superclasses : (class : C) → option_map (type_as keys.class) (view.superclass class) ≡ other.superclass (keys.class class)
  pub fields : SameElements (field_as keys) (Contains view.fields) (Contains other.fields)
  pub declarations : SameElements (declaration_as keys) (Contains view.declarations) (Contains other.declarations)
  pub differ : AddressesDiffer other
