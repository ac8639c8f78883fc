-- What names are found to be stands in the view, by what their functions find.
use Rattle.std.proofs.Common.{inl, inr, ℕ, Option, Some, None, Contains}
use Rattle.std.specs.Prelude.{⊤}
use Rattle.jav_names.specs.Ancestors.{HasClass}
use Rattle.jav_names.specs.DottedNames.{Name, Names}
use Rattle.jav_names.specs.Leftmost.{Leftmost, leftmost_variable, leftmost_class, leftmost_import, leftmost_outside, ReadsLeftmost}
use Rattle.jav_names.specs.LookUps.{variable, leftmost, type_named, method_from, super_method, constructor_from, super_constructor, field_on, method_on, field_through, method_through}
use Rattle.jav_names.specs.Members.{Constructor, declared_constructor, default_constructor, ReadsMethod, ReadsSuperMethod, ReadsConstructor, ReadsSuperConstructor}
use Rattle.jav_names.specs.OnValues.{StaticType, OnValue, member, static_member, outside_member, missing_member, has_no_members, unread_member, ReadsFieldOn, ReadsMethodOn, ReadsStaticField, ReadsStaticMethod}
use Rattle.jav_names.specs.Standing.{IsConstructorIn, IsVariableAt}
use Rattle.jav_names.specs.Types.{Header, OwnStands, TypeReading, class_read, imported, written, no_type, ReadsType}
use Rattle.jav_names.specs.Variables.{Place, Variable, local_variable, parameter_variable, field_variable, ReadsVariable}
use Rattle.jav_names.specs.Views.{ViewField, ViewDeclaration, Classes, AreOrdered, View, IsOrdered, Found, found, outside, not_found}
use Rattle.jav_names.proofs.FoundNames.{types_stand, names_stand}
use Rattle.jav_names.proofs.NamesAnswered.{types_answered, names_answered}

-- ---- what is found, if something is

abbrev pub OfFound : {X : Type 0} → (X → Type 0) → Found X → Type 0
OfFound P (found x) = P x
OfFound P outside = ⊤
OfFound P not_found = ⊤

abbrev pub OfOption : {X : Type 0} → (X → Type 0) → Option X → Type 0
OfOption P (Some x) = P x
OfOption P None = ⊤

abbrev pub OnFound : {X : Type 0} → (X → Type 0) → OnValue X → Type 0
OnFound P (member x) = P x
OnFound P (static_member x) = P x
OnFound P outside_member = ⊤
OnFound P missing_member = ⊤
OnFound P has_no_members = ⊤
OnFound P unread_member = ⊤

-- ---- types

abbrev pub ClassReads : {C : Type 0} → (C → Type 0) → TypeReading C → Type 0
ClassReads P (class_read class) = P class
ClassReads P (imported import rest) = ⊤
ClassReads P (written text) = ⊤
ClassReads P no_type = ⊤

pub type-stands : {C : Type 0} (classes : Classes C) (header : Header C) → AreOrdered classes → OwnStands classes header
    → (first : Name) (rest : Names) → ClassReads (HasClass classes) (type_named classes header first rest)
type-stands {C} classes header ordered own first rest =
    by (type_named classes header first rest) ((types_answered C).types classes header first rest ordered).holds where
      by : (r : TypeReading C) → ReadsType classes header first rest r → ClassReads (HasClass classes) r
      by (class_read class) reads = (types_stand C).types classes header first rest class own reads
      by (imported import more) reads = tt
      by (written text) reads = tt
      by no_type reads = tt

module _ {C M : Type 0} (view : View C M) (ordered : IsOrdered view) where
  abbrev pub FieldStands : ViewField C M → Type 0
  FieldStands field = Contains view.fields field

  abbrev pub DeclarationStands : ViewDeclaration C M → Type 0
  DeclarationStands declared = Contains view.declarations declared

  abbrev pub ConstructorStands : Constructor C M → Type 0
  ConstructorStands (declared_constructor declared) = Contains view.declarations declared
  ConstructorStands (default_constructor class) = HasClass view.classes class

  abbrev pub VariableStands : Variable C M → Type 0
  VariableStands (local_variable place) = ⊤
  VariableStands (parameter_variable place) = ⊤
  VariableStands (field_variable field) = Contains view.fields field

  abbrev pub LeftmostStands : Leftmost C M → Type 0
  LeftmostStands (leftmost_variable variable) = VariableStands variable
  LeftmostStands (leftmost_class class count) = ⊤
  LeftmostStands (leftmost_import import) = ⊤
  LeftmostStands leftmost_outside = ⊤

  -- ---- variables

  variable-at : (place : Place C) (name : Name) (v : Variable C M) → IsVariableAt view place name v → VariableStands v
  variable-at place name v (IsVariableAt.is_local is) = tt
  variable-at place name v (IsVariableAt.is_parameter is) = tt
  variable-at place name v (IsVariableAt.is_field is) = is.stands

  pub variable-stands : (place : Place C) (name : Name) → OfFound VariableStands (variable view place name)
  variable-stands place name = by (variable view place name) ((names_answered C M).variables view place name ordered).holds where
    by : (f : Found (Variable C M)) → ReadsVariable view place name f → OfFound VariableStands f
    by (found v) reads = variable-at place name v ((names_stand C M).variables view place name v reads)
    by outside reads = tt
    by not_found reads = tt

  pub leftmost-stands : (place : Place C) (first : Name) (rest : Names) → LeftmostStands (leftmost view place first rest)
  leftmost-stands place first rest =
      by (leftmost view place first rest) ((names_answered C M).leftmost view place first rest ordered).holds where
        by : (l : Leftmost C M) → ReadsLeftmost view place first rest l → LeftmostStands l
        by (leftmost_variable v) reads = variable-at place first v ((names_stand C M).leftmost_variables view place first rest v reads)
        by (leftmost_class class count) reads = tt
        by (leftmost_import import) reads = tt
        by leftmost_outside reads = tt

  -- ---- members

  pub method-stands : (class : C) (name : Name) (arity : ℕ) → OfFound DeclarationStands (method_from view class name arity)
  method-stands class name arity =
      by (method_from view class name arity) ((names_answered C M).methods view class name arity ordered).holds where
        by : (f : Found (ViewDeclaration C M)) → ReadsMethod view class name arity f → OfFound DeclarationStands f
        by (found declared) reads = ((names_stand C M).methods view class name arity declared reads).stands
        by outside reads = tt
        by not_found reads = tt

  pub super_method-stands : (class : C) (name : Name) (arity : ℕ) → OfFound DeclarationStands (super_method view class name arity)
  super_method-stands class name arity =
      by (super_method view class name arity) ((names_answered C M).super_methods view class name arity ordered).holds where
        by : (f : Found (ViewDeclaration C M)) → ReadsSuperMethod view class name arity f → OfFound DeclarationStands f
        by (found declared) reads = ((names_stand C M).super_methods view class name arity declared reads).2.stands
        by outside reads = tt
        by not_found reads = tt

  pub field_on-stands : (name : Name) (type : StaticType C) → OnFound FieldStands (field_on view name type)
  field_on-stands name type = by (field_on view name type) ((names_answered C M).fields_on view name type ordered).holds where
    by : (o : OnValue (ViewField C M)) → ReadsFieldOn view name type o → OnFound FieldStands o
    by (member field) reads = ((names_stand C M).fields_on view name type field (inl reads)).2.stands
    by (static_member field) reads = ((names_stand C M).fields_on view name type field (inr reads)).2.stands
    by outside_member reads = tt
    by missing_member reads = tt
    by has_no_members reads = tt
    by unread_member reads = tt

  pub method_on-stands : (name : Name) (arity : ℕ) (type : StaticType C) → OnFound DeclarationStands (method_on view name arity type)
  method_on-stands name arity type =
      by (method_on view name arity type) ((names_answered C M).methods_on view name arity type ordered).holds where
        by : (o : OnValue (ViewDeclaration C M)) → ReadsMethodOn view name arity type o → OnFound DeclarationStands o
        by (member declared) reads = ((names_stand C M).methods_on view name arity type declared (inl reads)).2.stands
        by (static_member declared) reads = ((names_stand C M).methods_on view name arity type declared (inr reads)).2.stands
        by outside_member reads = tt
        by missing_member reads = tt
        by has_no_members reads = tt
        by unread_member reads = tt

  pub field_through-stands : (class : C) (name : Name) → OfOption FieldStands (field_through view class name)
  field_through-stands class name =
      by (field_through view class name) ((names_answered C M).static_fields view class name ordered).holds where
        by : (o : Option (ViewField C M)) → ReadsStaticField view class name o → OfOption FieldStands o
        by (Some field) reads = ((names_stand C M).static_fields view class name field reads).stands
        by None reads = tt

  pub method_through-stands : (class : C) (name : Name) (arity : ℕ) → OfOption DeclarationStands (method_through view class name arity)
  method_through-stands class name arity =
      by (method_through view class name arity) ((names_answered C M).static_methods view class name arity ordered).holds where
        by : (o : Option (ViewDeclaration C M)) → ReadsStaticMethod view class name arity o → OfOption DeclarationStands o
        by (Some declared) reads = ((names_stand C M).static_methods view class name arity declared reads).stands
        by None reads = tt

  -- ---- constructors

  constructor-in : (class : C) (arity : ℕ) (k : Constructor C M) → IsConstructorIn view class arity k → ConstructorStands k
  constructor-in class arity k (IsConstructorIn.is_declared stands is) = stands
  constructor-in class arity k (IsConstructorIn.is_default stands is) = stands

  pub constructor-stands : (class : C) (arity : ℕ) → HasClass view.classes class
      → OfFound ConstructorStands (constructor_from view class arity)
  constructor-stands class arity has =
      by (constructor_from view class arity) ((names_answered C M).constructors view class arity ordered).holds where
        by : (f : Found (Constructor C M)) → ReadsConstructor view class arity f → OfFound ConstructorStands f
        by (found k) reads = constructor-in class arity k ((names_stand C M).constructors view class arity k has reads)
        by outside reads = tt
        by not_found reads = tt

  pub super_constructor-stands : (class : C) (arity : ℕ) → OfFound ConstructorStands (super_constructor view class arity)
  super_constructor-stands class arity =
      by (super_constructor view class arity) ((names_answered C M).super_constructors view class arity ordered).holds where
        by : (f : Found (Constructor C M)) → ReadsSuperConstructor view class arity f → OfFound ConstructorStands f
        by (found k) reads =
            let stands = (names_stand C M).super_constructors view class arity k reads in constructor-in stands.0 arity k stands.2
        by outside reads = tt
        by not_found reads = tt
