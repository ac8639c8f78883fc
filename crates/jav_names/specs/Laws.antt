-- That each rule has exactly one answer, which is what its function finds.
use Rattle.std.specs.Prelude.{◌≡◌, ◌⊎◌, ℕ, List, All, Contains}
use Rattle.std.specs.Bool.{Decides}
use Rattle.std.specs.declared.cmp.Ordering.{Ordering}
use Rattle.jav_tree.specs.declared.types.TypeName.{TypeName}
use Rattle.jav_tree.specs.declared.types.TypeName.TheVariants as type_name
use Rattle.jav_tree.specs.declared.unit.Unit.{Unit as Source}
use Rattle.jav_names.specs.DottedNames.{Name, Names, joined, cut, HasNoDot}
use Rattle.jav_names.specs.Leftmost.{ReadsLeftmost}
use Rattle.jav_names.specs.LookUps.{simple_type, type_named, field_from, method_from, super_method, constructor_from, super_constructor, variable, leftmost, field_on, method_on, index_on, field_through, method_through}
use Rattle.jav_names.specs.Members.{ReadsField, ReadsMethod, ReadsSuperMethod, ReadsConstructor, ReadsSuperConstructor}
use Rattle.jav_names.specs.OnValues.{StaticType, ReadsFieldOn, ReadsMethodOn, ReadsIndexOn, ReadsStaticField, ReadsStaticMethod}
use Rattle.jav_names.specs.StaticTypes.{ReadsCommon, common, SameType, same_type}
use Rattle.jav_names.specs.TypeTexts.{ReadsTypeText, type_of, type_in}
use Rattle.jav_names.specs.Types.{Header, OwnStands, TypeReading, ReadsSimple, ReadsType}
use Rattle.jav_names.specs.UnitViews.{numbered, classes_of, header_of, view_of}
use Rattle.jav_names.specs.Variables.{Place, ReadsVariable}
use Rattle.jav_names.specs.Views.{ViewType, primitive_type, void_type, array_type, Classes, IsKeyOrder, AreOrdered, View, IsOrdered, Found, found, outside, not_found}

-- A rule holds of this answer and of no other.
pub record IsTheAnswer {A : Type 0} (Reads : A → Type 0) (answer : A) : Type 0 where
  pub holds : Reads answer
  pub only : (reading : A) → Reads reading → reading ≡ answer

-- Each rule on the names of types, where the keys of classes are of this type.
pub record TypesAnswered (C : Type 0) : Type 0 where
  pub simple : (classes : Classes C) (header : Header C) (name : Name) → AreOrdered classes
      → IsTheAnswer (ReadsSimple classes header name) (simple_type classes header name)
  pub types : (classes : Classes C) (header : Header C) (first : Name) (rest : Names) → AreOrdered classes
      → IsTheAnswer (ReadsType classes header first rest) (type_named classes header first rest)
  -- a type as it is written, part by part
  pub primitive_types : (classes : Classes C) (header : Header C) (text : Name)
      → type_in classes header (type_name.Prim text) ≡ primitive_type text
  pub named_types : (classes : Classes C) (header : Header C) (text : Name) (reading : TypeReading C) → AreOrdered classes
      → ReadsTypeText classes header text reading → type_in classes header (type_name.Named text) ≡ type_of reading
  pub array_types : (classes : Classes C) (header : Header C) (item : TypeName)
      → type_in classes header (type_name.ArrayOf item) ≡ array_type (type_in classes header item)
  pub void_types : (classes : Classes C) (header : Header C) → type_in classes header type_name.Void ≡ void_type

-- Each rule on members and variables, where the keys of classes and members are of these types.
pub record NamesAnswered (C M : Type 0) : Type 0 where
  pub fields : (view : View C M) (class : C) (name : Name) → IsOrdered view
      → IsTheAnswer (ReadsField view class name) (field_from view class name)
  pub methods : (view : View C M) (class : C) (name : Name) (arity : ℕ) → IsOrdered view
      → IsTheAnswer (ReadsMethod view class name arity) (method_from view class name arity)
  pub super_methods : (view : View C M) (class : C) (name : Name) (arity : ℕ) → IsOrdered view
      → IsTheAnswer (ReadsSuperMethod view class name arity) (super_method view class name arity)
  pub constructors : (view : View C M) (class : C) (arity : ℕ) → IsOrdered view
      → IsTheAnswer (ReadsConstructor view class arity) (constructor_from view class arity)
  pub super_constructors : (view : View C M) (class : C) (arity : ℕ) → IsOrdered view
      → IsTheAnswer (ReadsSuperConstructor view class arity) (super_constructor view class arity)
  pub variables : (view : View C M) (place : Place C) (name : Name) → IsOrdered view
      → IsTheAnswer (ReadsVariable view place name) (variable view place name)
  pub leftmost : (view : View C M) (place : Place C) (first : Name) (rest : Names) → IsOrdered view
      → IsTheAnswer (ReadsLeftmost view place first rest) (leftmost view place first rest)
  pub fields_on : (view : View C M) (name : Name) (type : StaticType C) → IsOrdered view
      → IsTheAnswer (ReadsFieldOn view name type) (field_on view name type)
  pub methods_on : (view : View C M) (name : Name) (arity : ℕ) (type : StaticType C) → IsOrdered view
      → IsTheAnswer (ReadsMethodOn view name arity type) (method_on view name arity type)
  pub indexes_on : (type : StaticType C) → IsTheAnswer (ReadsIndexOn type) (index_on type)
  pub static_fields : (view : View C M) (class : C) (name : Name) → IsOrdered view
      → IsTheAnswer (ReadsStaticField view class name) (field_through view class name)
  pub static_methods : (view : View C M) (class : C) (name : Name) (arity : ℕ) → IsOrdered view
      → IsTheAnswer (ReadsStaticMethod view class name arity) (method_through view class name arity)
  pub choices : (view : View C M) (first second : StaticType C) → IsOrdered view
      → IsTheAnswer (ReadsCommon view first second) (common view first second)

-- Exactly one of three: something is found, and nothing else; or it is outside; or there is no such thing.
pub record IsDecided {A : Type 0} (Reads : Found A → Type 0) : Type 0 where
  pub some : ((x : A) × Reads (found x)) ⊎ (Reads outside ⊎ Reads not_found)
  pub unique : (x y : A) → Reads (found x) → Reads (found y) → x ≡ y
  pub never_found_and_outside : (x : A) → Reads (found x) → ¬ Reads outside
  pub never_found_and_not_found : (x : A) → Reads (found x) → ¬ Reads not_found
  pub never_outside_and_not_found : Reads outside → ¬ Reads not_found

pub record NamesDecided (C M : Type 0) : Type 0 where
  pub fields : (view : View C M) (class : C) (name : Name) → IsOrdered view → IsDecided (ReadsField view class name)
  pub methods : (view : View C M) (class : C) (name : Name) (arity : ℕ) → IsOrdered view → IsDecided (ReadsMethod view class name arity)
  pub super_methods : (view : View C M) (class : C) (name : Name) (arity : ℕ) → IsOrdered view
      → IsDecided (ReadsSuperMethod view class name arity)
  pub constructors : (view : View C M) (class : C) (arity : ℕ) → IsOrdered view → IsDecided (ReadsConstructor view class arity)
  pub super_constructors : (view : View C M) (class : C) (arity : ℕ) → IsOrdered view → IsDecided (ReadsSuperConstructor view class arity)
  pub variables : (view : View C M) (place : Place C) (name : Name) → IsOrdered view → IsDecided (ReadsVariable view place name)

-- Names with dots: what a text is cut into makes up the text, and names without dots that are joined are what their text is cut into.
pub record NamesCut : Type 0 where
  pub whole : (text : Name) → joined (cut text).first (cut text).rest ≡ text
  pub parts : (first : Name) (rest : Names) → HasNoDot first → All HasNoDot rest
      → cut (joined first rest) ≡ record { first = first; rest = rest }

-- Whether two types are equal has a test, where keys are in a total order; and two equal types are one.
pub record TypesCompared (C : Type 0) : Type 0 where
  pub tested : (cmp : C → C → Ordering) (first second : ViewType C) → IsKeyOrder cmp
      → Decides (same_type cmp first second) (SameType first second)
  pub one_type : (first second : ViewType C) → SameType first second → first ≡ second

-- The view of source files ascends by its keys, and the class of each file is one of it.
pub record UnitsViewed : Type 0 where
  pub ordered : (units : List Source) → IsOrdered (view_of units)
  pub own_classes : (units : List Source) (unit : ℕ × Source) → Contains (numbered units) unit
      → OwnStands (classes_of units) (header_of unit)
