-- Making small files and what is read over them. Bodies, comments and places are left out of the trees: the rules do not look at them.
use Rattle.std.proofs.Common.{◌≡◌, ℕ, Bool, List, [], map, Option, Some, None, codes, slice_get, ◌∙◌, ap, subst}
use Prim.Native.String.{String}
use Rattle.std.specs.Option.{option_flatten}
use Rattle.jav_tree.specs.declared.types.TypeName.{TypeName}
use Rattle.jav_tree.specs.declared.types.TypeName.TheVariants as types
use Rattle.jav_tree.specs.declared.unit.Member.{Member}
use Rattle.jav_tree.specs.declared.unit.Member.TheVariants as member
use Rattle.jav_tree.specs.declared.unit.Param.{Param}
use Rattle.jav_tree.specs.declared.unit.Unit.{Unit as Source}
use Rattle.jav_tree.specs.Blocks.{block_of}
use Rattle.jav_names.specs.DottedNames.{Name, Names}
use Rattle.jav_names.specs.Ancestors.{Way}
use Rattle.jav_names.specs.Laws.{IsTheAnswer}
use Rattle.jav_names.specs.Leftmost.{Leftmost, ReadsLeftmost}
use Rattle.jav_names.specs.LookUps.{type_named, field_from, method_from, super_method, constructor_from, super_constructor, variable, leftmost, method_on, method_through, way}
use Rattle.jav_names.specs.Members.{ReadsField, ReadsMethod, ReadsSuperMethod, Constructor, ReadsConstructor, ReadsSuperConstructor}
use Rattle.jav_names.specs.OnValues.{StaticType, OnValue, ReadsMethodOn, ReadsStaticMethod}
use Rattle.jav_names.specs.StaticTypes.{ReadsCommon, common}
use Rattle.jav_names.specs.Types.{Header, TypeReading, ReadsType}
use Rattle.jav_names.specs.UnitViews.{MemberKey, numbered, classes_of, superclass_of, view_of}
use Rattle.jav_names.specs.Variables.{Place, Variable, ReadsVariable}
use Rattle.jav_names.specs.Views.{ViewType, ViewField, ViewDeclaration, View, Found}
use Rattle.jav_names.proofs.CommonTypes.{common-answered}
use Rattle.jav_names.proofs.ReadLeftmost.{leftmost-answered}
use Rattle.jav_names.proofs.ReadMembers.{field-answered, method-answered, super_method-answered, constructor-answered, super_constructor-answered}
use Rattle.jav_names.proofs.ReadOnValues.{method_on-answered, static_method-answered}
use Rattle.jav_names.proofs.ReadTypes.{type-answered}
use Rattle.jav_names.proofs.ReadVariables.{variable-answered}
use Rattle.jav_names.proofs.UnitsOrdered.{classes_of-ordered, view_of_ordered}
use Rattle.jav_names.proofs.Ways.{way-is}

-- ---- making files

abbrev pub int : TypeName
int = types.Prim (codes "int")

abbrev pub named : String → TypeName
named text = types.Named (codes text)

abbrev pub param : TypeName → String → Param
param to name = record { ty = to; name = codes name }

abbrev pub field : List String → TypeName → String → Member
field words to name = member.Field (record { front = []; at = 0; words = map codes words; ty = to; name = codes name; init = None })

abbrev pub method : Bool → TypeName → String → List Param → Member
method is_static result name params =
    member.Method (record {
      front = [];
      at = 0;
      words = [];
      is_static = is_static;
      result = result;
      name = codes name;
      params = params;
      block = Some (block_of [] []);
    })

abbrev pub file : String → List String → String → Option TypeName → List Member → Source
file in_package imports name parent members = record {
  head = [];
  «package» = codes in_package;
  imports = map codes imports;
  class = record { front = []; words = []; name = codes name; parent = parent; members = members; tail = [] };
}

-- The view of files whose superclasses are known.
abbrev pub with_superclasses : List Source → List (Option (ViewType ℕ)) → View ℕ MemberKey
with_superclasses units superclasses = record (view_of units) { superclass = λ number. option_flatten (slice_get superclasses number) }

pub view-seen : (units : List Source) (superclasses : List (Option (ViewType ℕ)))
    → map (superclass_of (classes_of units)) (numbered units) ≡ superclasses
    → view_of units ≡ with_superclasses units superclasses
view-seen units superclasses is = λ i. record (view_of units) { superclass = λ number. option_flatten (slice_get (is i) number) }

-- ---- readings

-- What the functions find, the rules read.
pub reads : {A : Type 0} {Reads : A → Type 0} {answer reading : A} → IsTheAnswer Reads answer → answer ≡ reading → Reads reading
reads {A} {Reads} is same = subst Reads same is.holds

-- over files whose view is known as a value
module _ (units : List Source) (view : View ℕ MemberKey) (seen : view_of units ≡ view) where
  pub variable_read : (place : Place ℕ) (name : Name) (reading : Found (Variable ℕ MemberKey)) → variable view place name ≡ reading
      → ReadsVariable (view_of units) place name reading
  variable_read place name reading is =
      reads (variable-answered (view_of units) (view_of_ordered units) place name) (ap (λ v. variable v place name) seen ∙ is)

  pub leftmost_read : (place : Place ℕ) (first : Name) (rest : Names) (reading : Leftmost ℕ MemberKey)
      → leftmost view place first rest ≡ reading
      → ReadsLeftmost (view_of units) place first rest reading
  leftmost_read place first rest reading is =
      reads (leftmost-answered (view_of units) (view_of_ordered units) place first rest) (ap (λ v. leftmost v place first rest) seen ∙ is)

  pub field_read : (class : ℕ) (name : Name) (reading : Found (ViewField ℕ MemberKey)) → field_from view class name ≡ reading
      → ReadsField (view_of units) class name reading
  field_read class name reading is =
      reads (field-answered (view_of units) (view_of_ordered units) class name) (ap (λ v. field_from v class name) seen ∙ is)

  pub super_method_read : (class : ℕ) (name : Name) (arity : ℕ) (reading : Found (ViewDeclaration ℕ MemberKey))
      → super_method view class name arity ≡ reading → ReadsSuperMethod (view_of units) class name arity reading
  super_method_read class name arity reading is =
      reads (super_method-answered (view_of units) (view_of_ordered units) class name arity)
      (ap (λ v. super_method v class name arity) seen ∙ is)

  pub method_on_read : (name : Name) (arity : ℕ) (type : StaticType ℕ) (reading : OnValue (ViewDeclaration ℕ MemberKey))
      → method_on view name arity type ≡ reading → ReadsMethodOn (view_of units) name arity type reading
  method_on_read name arity type reading is =
      reads (method_on-answered (view_of units) (view_of_ordered units) name arity type) (ap (λ v. method_on v name arity type) seen ∙ is)

  pub choice_read : (first second reading : StaticType ℕ) → common view first second ≡ reading
      → ReadsCommon (view_of units) first second reading
  choice_read first second reading is =
      reads (common-answered (view_of units) (classes_of-ordered units) first second) (ap (λ v. common v first second) seen ∙ is)

  pub method_read : (class : ℕ) (name : Name) (arity : ℕ) (reading : Found (ViewDeclaration ℕ MemberKey))
      → method_from view class name arity ≡ reading → ReadsMethod (view_of units) class name arity reading
  method_read class name arity reading is =
      reads (method-answered (view_of units) (view_of_ordered units) class name arity) (ap (λ v. method_from v class name arity) seen ∙ is)

  pub static_method_read : (class : ℕ) (name : Name) (arity : ℕ) (reading : Option (ViewDeclaration ℕ MemberKey))
      → method_through view class name arity ≡ reading
      → ReadsStaticMethod (view_of units) class name arity reading
  static_method_read class name arity reading is =
      reads (static_method-answered (view_of units) (view_of_ordered units) class name arity)
      (ap (λ v. method_through v class name arity) seen ∙ is)

  pub constructor_read : (class arity : ℕ) (reading : Found (Constructor ℕ MemberKey)) → constructor_from view class arity ≡ reading
      → ReadsConstructor (view_of units) class arity reading
  constructor_read class arity reading is =
      reads (constructor-answered (view_of units) (view_of_ordered units) class arity) (ap (λ v. constructor_from v class arity) seen ∙ is)

  pub super_constructor_read : (class arity : ℕ) (reading : Found (Constructor ℕ MemberKey)) → super_constructor view class arity ≡ reading
      → ReadsSuperConstructor (view_of units) class arity reading
  super_constructor_read class arity reading is =
      reads (super_constructor-answered (view_of units) (view_of_ordered units) class arity)
      (ap (λ v. super_constructor v class arity) seen ∙ is)

  pub way_read : (class : ℕ) (classes : List ℕ) → way view class ≡ classes → Way (view_of units) class classes
  way_read class classes is =
      subst (Way (view_of units) class) (ap (λ v. way v class) seen ∙ is) (way-is (view_of units) (classes_of-ordered units) class)

pub type_read : (units : List Source) (header : Header ℕ) (first : Name) (rest : Names) (reading : TypeReading ℕ)
    → type_named (classes_of units) header first rest ≡ reading
    → ReadsType (classes_of units) header first rest reading
type_read units header first rest reading is = reads (type-answered (classes_of units) (classes_of-ordered units) header first rest) is
