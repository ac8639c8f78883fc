-- That what is found stands in the view, and where; and what the ancestors of a class are.
use Rattle.std.specs.Prelude.{◌≡◌, ◌≢◌, ◌⊎◌, ℕ, suc, ◌<◌, ◌≤◌, List, ◌∷◌, ◌++◌, length, Some, Contains, slice_get}
use Rattle.std.specs.Bool.{Decides}
use Rattle.jav_names.specs.Ancestors.{HasClass, Extends, IsAncestor, Leads, HasNoCircle}
use Rattle.jav_names.specs.DottedNames.{Name, Names}
use Rattle.jav_names.specs.Leftmost.{leftmost_variable, leftmost_class, ReadsLeftmost}
use Rattle.jav_names.specs.LookUps.{way, ancestors, is_ancestor, is_in_circle}
use Rattle.jav_names.specs.Members.{IsMethod, IsConstructorOf, IsByDefault, ReadsField, ReadsMethod, ReadsSuperMethod, Constructor, declared_constructor, default_constructor, ReadsConstructor, ReadsSuperConstructor}
use Rattle.jav_names.specs.OnValues.{StaticType, class_value, member, static_member, ReadsFieldOn, ReadsMethodOn, ReadsStaticField, ReadsStaticMethod}
use Rattle.jav_names.specs.Types.{Header, OwnStands, class_read, ReadsSimple, ReadsType}
use Rattle.jav_names.specs.Variables.{Place, Variable, local_variable, parameter_variable, field_variable, ReadsVariable}
use Rattle.jav_names.specs.Views.{ViewField, ViewDeclaration, Classes, AreOrdered, View, found}

-- ---- ancestors

-- The ancestors of a class are what its function says. They are classes of the view, the class is none of them, and they are all that
-- going up comes to, but for the class itself.
pub record AncestorsKnown (C M : Type 0) : Type 0 where
  pub tested : (view : View C M) (class above : C) → AreOrdered view.classes
      → Decides (is_ancestor view class above) (IsAncestor view class above)
  pub stand : (view : View C M) (class above : C) → IsAncestor view class above → HasClass view.classes above
  pub never_itself : (view : View C M) (class : C) → ¬ IsAncestor view class class
  pub led_to : (view : View C M) (class above : C) → IsAncestor view class above → Leads view class above
  pub reached : (view : View C M) (class above : C) → AreOrdered view.classes → Leads view class above → above ≢ class
      → IsAncestor view class above
  pub circles : (view : View C M) (class : C) → AreOrdered view.classes → Decides (is_in_circle view class) (Leads view class class)
  -- the way of a class is the class and then its ancestors
  pub ways_begin : (view : View C M) (class : C) → way view class ≡ class ∷ ancestors view class
  pub listed : (view : View C M) (class above : C) → AreOrdered view.classes → Contains (ancestors view class) above
      → IsAncestor view class above
  -- where there is no circle, the way from a class ends with that from each of its ancestors
  pub ways_end : (view : View C M) (class above : C) → AreOrdered view.classes → HasNoCircle view → IsAncestor view class above
      → (nearer : List C) × (way view class ≡ nearer ++ way view above)

-- ---- what is found

-- A field of the view with this name, of the class or an ancestor.
pub record IsFieldOf {C M : Type 0} (view : View C M) (class : C) (name : Name) (field : ViewField C M) : Type 0 where
  pub stands : Contains view.fields field
  pub named : field.name ≡ name
  pub owned : (field.owner ≡ class) ⊎ IsAncestor view class field.owner

-- A declaration of the view of a method with this name and number of parameters, in the class or an ancestor.
pub record IsMethodOf {C M : Type 0} (view : View C M) (class : C) (name : Name) (arity : ℕ) (declaration : ViewDeclaration C M)
    : Type 0 where
  pub stands : Contains view.declarations declaration
  pub is_method : IsMethod name arity declaration
  pub owned : (declaration.owner ≡ class) ⊎ IsAncestor view class declaration.owner

-- A constructor of the class: a declaration of the view, or the default one of a class of the view that declares none.
pub data IsConstructorIn {C M : Type 0} (view : View C M) (class : C) (arity : ℕ) : Constructor C M → Type 0 where
  is_declared : {declaration : ViewDeclaration C M} → Contains view.declarations declaration → IsConstructorOf class arity declaration
      → IsConstructorIn view class arity (declared_constructor declaration)
  is_default : HasClass view.classes class → IsByDefault view class arity → IsConstructorIn view class arity (default_constructor class)

-- A variable of this name: a local or a parameter of the place, or a field of the view.
pub data IsVariableAt {C M : Type 0} (view : View C M) (place : Place C) (name : Name) : Variable C M → Type 0 where
  is_local : {number : ℕ} → slice_get place.locals number ≡ Some name → IsVariableAt view place name (local_variable number)
  is_parameter : {number : ℕ} → slice_get place.params number ≡ Some name → IsVariableAt view place name (parameter_variable number)
  is_field : {field : ViewField C M} → IsFieldOf view place.class name field → IsVariableAt view place name (field_variable field)

-- What the names of types are found to be stands among the classes, where the file's own class does.
pub record TypesStand (C : Type 0) : Type 0 where
  pub simple : (classes : Classes C) (header : Header C) (name : Name) (class : C) → OwnStands classes header
      → ReadsSimple classes header name (class_read class) → HasClass classes class
  pub types : (classes : Classes C) (header : Header C) (first : Name) (rest : Names) (class : C) → OwnStands classes header
      → ReadsType classes header first rest (class_read class) → HasClass classes class

-- What members and variables are found to be stands in the view: a constructor where its class does.
pub record NamesStand (C M : Type 0) : Type 0 where
  pub fields : (view : View C M) (class : C) (name : Name) (field : ViewField C M)
      → ReadsField view class name (found field) → IsFieldOf view class name field
  pub methods : (view : View C M) (class : C) (name : Name) (arity : ℕ) (declaration : ViewDeclaration C M)
      → ReadsMethod view class name arity (found declaration) → IsMethodOf view class name arity declaration
  pub super_methods : (view : View C M) (class : C) (name : Name) (arity : ℕ) (declaration : ViewDeclaration C M)
      → ReadsSuperMethod view class name arity (found declaration)
      → (above : C) × Extends view class above × IsMethodOf view above name arity declaration
  pub constructors : (view : View C M) (class : C) (arity : ℕ) (constructor : Constructor C M) → HasClass view.classes class
      → ReadsConstructor view class arity (found constructor) → IsConstructorIn view class arity constructor
  pub super_constructors : (view : View C M) (class : C) (arity : ℕ) (constructor : Constructor C M)
      → ReadsSuperConstructor view class arity (found constructor)
      → (above : C) × Extends view class above × IsConstructorIn view above arity constructor
  pub variables : (view : View C M) (place : Place C) (name : Name) (variable : Variable C M)
      → ReadsVariable view place name (found variable) → IsVariableAt view place name variable
  pub leftmost_variables : (view : View C M) (place : Place C) (first : Name) (rest : Names) (variable : Variable C M)
      → ReadsLeftmost view place first rest (leftmost_variable variable) → IsVariableAt view place first variable
  pub leftmost_classes : (view : View C M) (place : Place C) (first : Name) (rest : Names) (class : C) (count : ℕ)
      → OwnStands view.classes place.header → ReadsLeftmost view place first rest (leftmost_class class count) → HasClass view.classes class
  -- a class is spelled by one of the names or more, and by no more than there are
  pub leftmost_counts : (view : View C M) (place : Place C) (first : Name) (rest : Names) (class : C) (count : ℕ)
      → ReadsLeftmost view place first rest (leftmost_class class count) → (0 < count) × (count ≤ suc (length rest))
  pub fields_on : (view : View C M) (name : Name) (type : StaticType C) (field : ViewField C M)
      → ReadsFieldOn view name type (member field) ⊎ ReadsFieldOn view name type (static_member field)
      → (class : C) × (type ≡ class_value class) × IsFieldOf view class name field
  pub methods_on : (view : View C M) (name : Name) (arity : ℕ) (type : StaticType C) (declaration : ViewDeclaration C M)
      → ReadsMethodOn view name arity type (member declaration) ⊎ ReadsMethodOn view name arity type (static_member declaration)
      → (class : C) × (type ≡ class_value class) × IsMethodOf view class name arity declaration
  pub static_fields : (view : View C M) (class : C) (name : Name) (field : ViewField C M)
      → ReadsStaticField view class name (Some field) → IsFieldOf view class name field
  pub static_methods : (view : View C M) (class : C) (name : Name) (arity : ℕ) (declaration : ViewDeclaration C M)
      → ReadsStaticMethod view class name arity (Some declaration) → IsMethodOf view class name arity declaration
