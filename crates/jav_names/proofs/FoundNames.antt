-- What names are found to be stands in the view.
use Rattle.std.proofs.Common.{◌≡◌, ◌⊎◌, inl, inr, ℕ, suc, ◌<◌, ◌≤◌, Bool, List, [], ◌∷◌, ◌++◌, length, take, Some, Contains, refl, sym, ◌∙◌, ap, subst, arith}
use Rattle.std.proofs.lemmas.Bool.{cases_lt}
use Rattle.std.proofs.lemmas.List.{take_all}
use Rattle.std.proofs.lemmas.List.Elements.{All-contains}
use Rattle.jav_names.specs.Ancestors.{HasClass, Extends, Way, IsAncestor}
use Rattle.jav_names.specs.DottedNames.{Name, Names, joined}
use Rattle.jav_names.specs.Leftmost.{leftmost_variable, leftmost_class, IsFewest, ReadsLeftmost}
use Rattle.jav_names.specs.Members.{IsNearest, ReadsField, ReadsMethod, ReadsSuperMethod, Constructor, ReadsConstructor, ReadsSuperConstructor}
use Rattle.jav_names.specs.OnValues.{StaticType, class_value, member, static_member, OnInstance, ReadsOn, ReadsFieldOn, ReadsMethodOn, Through}
use Rattle.jav_names.specs.Standing.{IsFieldOf, IsMethodOf, IsConstructorIn, IsVariableAt, TypesStand, NamesStand}
use Rattle.jav_names.specs.Types.{full_name, Header, OwnStands, class_read, ReadsSimple, ReadsType}
use Rattle.jav_names.specs.Variables.{Place, Variable, ReadsVariable}
use Rattle.jav_names.specs.Views.{ViewClass, ViewField, ViewDeclaration, Classes, View, Found, found}
use Rattle.jav_names.proofs.AncestorsFound.{follows-first}
use Rattle.jav_names.proofs.Lists.{stands_first, stands_later}

-- ---- types

module _ {C : Type 0} (classes : Classes C) (header : Header C) (own : OwnStands classes header) where
  simple-stands : (name : Name) (class : C) → ReadsSimple classes header name (class_read class) → HasClass classes class
  simple-stands name class (ReadsSimple.import_class {class = x} import named) = record { class = x; stands = named.here; is = refl }
  simple-stands name class (ReadsSimple.own_class {class = x} no_import is named) = record { class = x; stands = own x is; is = refl }
  simple-stands name class (ReadsSimple.in_package {class = x} no_import not_own named) =
      record { class = x; stands = named.here; is = refl }

  type-stands : (first : Name) (rest : Names) (class : C) → ReadsType classes header first rest (class_read class) → HasClass classes class
  type-stands first rest class (ReadsType.simple reads) = simple-stands first class reads
  type-stands first rest class (ReadsType.whole_class {class = x} reads named) = record { class = x; stands = named.here; is = refl }

pub types_stand : (C : Type 0) → TypesStand C
types_stand C = record {
  simple = λ classes header name class own reads. simple-stands classes header own name class reads;
  types = λ classes header first rest class own reads. type-stands classes header own first rest class reads;
}

-- ---- owners

stands_amid : {X : Type 0} (front back : List X) (x : X) → Contains (front ++ x ∷ back) x
stands_amid [] back x = stands_first x back
stands_amid (y ∷ front) back x = stands_later y x (front ++ x ∷ back) (stands_amid front back x)

module _ {C M : Type 0} (view : View C M) (class : C) where
  -- what the way from a class meets is the class or an ancestor
  on_way : (nearer farther : List C) (owner : C) → Way view class (nearer ++ owner ∷ farther)
      → (owner ≡ class) ⊎ IsAncestor view class owner
  on_way [] farther owner way =
      let first = follows-first view way in
      let is : owner ∷ farther ≡ class ∷ first.0 = first.1 in
      inl (let same : owner ≡ class = cc in same)
  on_way (next ∷ nearer) farther owner way =
      let first = follows-first view way in
      let is : next ∷ nearer ++ owner ∷ farther ≡ class ∷ first.0 = first.1 in
      let same : next ≡ class = cc in
      inr (record {
        ancestors = nearer ++ owner ∷ farther;
        way = subst (λ c. Way view class (c ∷ nearer ++ owner ∷ farther)) same way;
        met = stands_amid nearer farther owner;
      })

  nearest-owned : {X : Type 0} (owner : X → C) (key : X → M) (P : X → Type 0) (all : List X) (x : X)
      → IsNearest view owner key P all class x
      → (owner x ≡ class) ⊎ IsAncestor view class (owner x)
  nearest-owned owner key P all x is = on_way is.nearer is.farther (owner x) is.way

-- ---- members

module _ {C M : Type 0} (view : View C M) where
  field-stands : (class : C) (name : Name) (field : ViewField C M) → ReadsField view class name (found field)
      → IsFieldOf view class name field
  field-stands class name field (ReadsField.nearest is) = record {
    stands = is.least.here;
    named = is.least.holds.0;
    owned = nearest-owned view class (λ f. f.owner) (λ f. f.key) (λ f. f.name ≡ name) view.fields field is;
  }

  method-stands : (class : C) (name : Name) (arity : ℕ) (declaration : ViewDeclaration C M)
      → ReadsMethod view class name arity (found declaration) → IsMethodOf view class name arity declaration
  method-stands class name arity declaration (ReadsMethod.nearest is) = record {
    stands = is.least.here;
    is_method = is.least.holds.0;
    owned = nearest-owned view class (λ d. d.owner) (λ d. d.key) _ view.declarations declaration is;
  }

  super_method-stands : (class : C) (name : Name) (arity : ℕ) (declaration : ViewDeclaration C M)
      → ReadsSuperMethod view class name arity (found declaration)
      → (above : C) × Extends view class above × IsMethodOf view above name arity declaration
  super_method-stands class name arity declaration (ReadsSuperMethod.from_above {above = above} extends reads) =
      (above, extends, method-stands above name arity declaration reads)

  constructor-stands : (class : C) (arity : ℕ) (constructor : Constructor C M) → HasClass view.classes class
      → ReadsConstructor view class arity (found constructor) → IsConstructorIn view class arity constructor
  constructor-stands class arity constructor stands (ReadsConstructor.declared least) = IsConstructorIn.is_declared least.here least.holds
  constructor-stands class arity constructor stands (ReadsConstructor.by_default default) = IsConstructorIn.is_default stands default

  super_constructor-stands : (class : C) (arity : ℕ) (constructor : Constructor C M)
      → ReadsSuperConstructor view class arity (found constructor)
      → (above : C) × Extends view class above × IsConstructorIn view above arity constructor
  super_constructor-stands class arity constructor (ReadsSuperConstructor.from_above {above = above} extends reads) =
      (above, extends, constructor-stands above arity constructor extends.stands reads)

  -- ---- variables

  variable-stands : (place : Place C) (name : Name) (variable : Variable C M) → ReadsVariable view place name (found variable)
      → IsVariableAt view place name variable
  variable-stands place name variable (ReadsVariable.nearest_local last) = IsVariableAt.is_local last.here
  variable-stands place name variable (ReadsVariable.first_parameter no_local first) = IsVariableAt.is_parameter first.here
  variable-stands place name variable (ReadsVariable.nearest_field {field = field} no_local no_parameter reads) =
      IsVariableAt.is_field (field-stands place.class name field reads)

  leftmost_variable-stands : (place : Place C) (first : Name) (rest : Names) (variable : Variable C M)
      → ReadsLeftmost view place first rest (leftmost_variable variable) → IsVariableAt view place first variable
  leftmost_variable-stands place first rest variable (ReadsLeftmost.by_variable reads) = variable-stands place first variable reads

  leftmost_class-stands : (place : Place C) (first : Name) (rest : Names) (class : C) (count : ℕ) → OwnStands view.classes place.header
      → ReadsLeftmost view place first rest (leftmost_class class count) → HasClass view.classes class
  leftmost_class-stands place first rest class count own (ReadsLeftmost.by_class none reads) =
      simple-stands view.classes place.header own first class reads
  leftmost_class-stands place first rest class count own (ReadsLeftmost.by_full_name {class = x} none reads fewest) =
      record { class = x; stands = fewest.here.here; is = refl }

  -- names that are not there are not among the fewest
  fewest-there : (first : Name) (rest : Names) (further : ℕ) (class : ViewClass C) → IsFewest view.classes first rest further class
      → further ≤ length rest
  fewest-there first rest further class fewest = by (cases_lt (length rest) further) where
    by : (length rest < further) ⊎ (further ≤ length rest) → further ≤ length rest
    by (inr there) = there
    by (inl longer) =
        let whole : take (length rest) rest ≡ take further rest
        = take_all (length rest) rest (omega arith) ∙ sym (take_all further rest (omega (arith, longer))) in
        absurd (All-contains (λ other. ¬ (full_name other ≡ joined first (take (length rest) rest))) view.classes.items class
        (fewest.none_fewer (length rest) longer) fewest.here.here
        (fewest.here.holds ∙ ap (λ names. joined first names) (sym whole)))

  leftmost_class-counted : (place : Place C) (first : Name) (rest : Names) (class : C) (count : ℕ)
      → ReadsLeftmost view place first rest (leftmost_class class count) → (0 < count) × (count ≤ suc (length rest))
  leftmost_class-counted place first rest class count (ReadsLeftmost.by_class none reads) = (omega arith, omega arith)
  leftmost_class-counted place first rest class count (ReadsLeftmost.by_full_name {further = further} {class = x} none reads fewest) =
      let there = fewest-there first rest further x fewest in (omega arith, omega (arith, there))

-- ---- members of values, and through the name of a class

module _ {C X : Type 0} (Reads : C → Found X → Type 0) (is_static : X → Bool) (arrays_have : Bool) where
  found_on : (type : StaticType C) (x : X) → ReadsOn Reads is_static arrays_have type (member x)
      → (class : C) × (type ≡ class_value class) × Reads class (found x)
  found_on type x (ReadsOn.of_class {class = class} reads (OnInstance.on_instance is)) = (class, refl, reads)

  static_on : (type : StaticType C) (x : X) → ReadsOn Reads is_static arrays_have type (static_member x)
      → (class : C) × (type ≡ class_value class) × Reads class (found x)
  static_on type x (ReadsOn.of_class {class = class} reads (OnInstance.on_static is)) = (class, refl, reads)

found_through : {X : Type 0} (Reads : Found X → Type 0) (is_static : X → Bool) (x : X) → Through Reads is_static (Some x) → Reads (found x)
found_through Reads is_static x (Through.static_found reads static) = reads

module _ {C M : Type 0} (view : View C M) where
  field_on-stands : (name : Name) (type : StaticType C) (field : ViewField C M)
      → ReadsFieldOn view name type (member field) ⊎ ReadsFieldOn view name type (static_member field)
      → (class : C) × (type ≡ class_value class) × IsFieldOf view class name field
  field_on-stands name type field (inl reads) =
      let of_class = found_on (λ class. ReadsField view class name) _ _ type field reads in
      (of_class.0, of_class.1, field-stands view of_class.0 name field of_class.2)
  field_on-stands name type field (inr reads) =
      let of_class = static_on (λ class. ReadsField view class name) _ _ type field reads in
      (of_class.0, of_class.1, field-stands view of_class.0 name field of_class.2)

  method_on-stands : (name : Name) (arity : ℕ) (type : StaticType C) (declaration : ViewDeclaration C M)
      → ReadsMethodOn view name arity type (member declaration) ⊎ ReadsMethodOn view name arity type (static_member declaration)
      → (class : C) × (type ≡ class_value class) × IsMethodOf view class name arity declaration
  method_on-stands name arity type declaration (inl reads) =
      let of_class = found_on (λ class. ReadsMethod view class name arity) _ _ type declaration reads in
      (of_class.0, of_class.1, method-stands view of_class.0 name arity declaration of_class.2)
  method_on-stands name arity type declaration (inr reads) =
      let of_class = static_on (λ class. ReadsMethod view class name arity) _ _ type declaration reads in
      (of_class.0, of_class.1, method-stands view of_class.0 name arity declaration of_class.2)

pub names_stand : (C M : Type 0) → NamesStand C M
names_stand C M = record {
  fields = λ view class name field reads. field-stands view class name field reads;
  methods = λ view class name arity declaration reads. method-stands view class name arity declaration reads;
  super_methods = λ view class name arity declaration reads. super_method-stands view class name arity declaration reads;
  constructors = λ view class arity constructor stands reads. constructor-stands view class arity constructor stands reads;
  super_constructors = λ view class arity constructor reads. super_constructor-stands view class arity constructor reads;
  variables = λ view place name variable reads. variable-stands view place name variable reads;
  leftmost_variables = λ view place first rest variable reads. leftmost_variable-stands view place first rest variable reads;
  leftmost_classes = λ view place first rest class count own reads. leftmost_class-stands view place first rest class count own reads;
  leftmost_counts = λ view place first rest class count reads. leftmost_class-counted view place first rest class count reads;
  fields_on = λ view name type field reads. field_on-stands view name type field reads;
  methods_on = λ view name arity type declaration reads. method_on-stands view name arity type declaration reads;
  static_fields = λ view class name field reads. field-stands view class name field
      (found_through (ReadsField view class name) (λ f. f.is_static) field reads);
  static_methods = λ view class name arity declaration reads. method-stands view class name arity declaration
      (found_through (ReadsMethod view class name arity) _ declaration reads);
}
