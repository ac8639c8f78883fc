-- Names read alike in views that differ in the superclasses of what is no class of them alone: going up from a class of the view meets
-- classes of it.
use Rattle.std.proofs.Common.{Bool, Contains, List, None, Option, Some, [], ap, drop, false, inl, inr, length, refl, subst, suc, true, zero, ℕ, ◌||◌, ◌∙◌, ◌∷◌, ◌≡◌, ◌⊎◌}
use Rattle.std.specs.List.{AllByRecursion, find, list_any}
use Rattle.std.specs.Option.{option_or}
use Rattle.std.specs.Ordering.{is_eq}
use Rattle.std.specs.Prelude.{if◌then◌else◌, ◌&&◌}
use Rattle.std.specs.Str.{bytes_eq}
use Rattle.jav_names.specs.DottedNames.{Name, Names}
use Rattle.jav_names.specs.Leftmost.{ReadsLeftmost, leftmost_class}
use Rattle.jav_names.specs.LookUps.{has_class, class_in, class_above, is_outside, is_met, unmet, each_above, way_from, way, last_extends_outside, ends_outside, is_ancestor, nearest, found_or, field_from, method_from, is_method, found_above, super_method, super_constructor, constructor_from, local_or, variable, variable_or, leftmost_type, leftmost, simple_type, last_place, first_place, on_instance, static_of, field_on, method_on, field_through, method_through}
use Rattle.jav_names.specs.Members.{is_object_method}
use Rattle.jav_names.specs.OnValues.{StaticType, mixed_value, class_value, unread_value, is_static_kind}
use Rattle.jav_names.specs.StaticTypes.{common, common_apart, upper_class, same_value, are_unread}
use Rattle.jav_names.specs.Types.{OwnStands}
use Rattle.jav_names.specs.Variables.{Place}
use Rattle.jav_names.specs.Views.{ViewType, primitive_type, void_type, class_type, outside_type, array_type, unread_type, ViewClass, ViewField, ViewDeclaration, View, Found, IsOrdered}
use Rattle.jav_names.proofs.FoundNames.{names_stand}
use Rattle.jav_names.proofs.Lists.{stands_nowhere, stands_where}
use Rattle.jav_names.proofs.NamesAnswered.{names_answered}

module _ {C M : Type 0} (view : View C M) where
  -- the view with other superclasses
  abbrev pub with_superclass : (C → Option (ViewType C)) → View C M
  with_superclass superclass = record {
    classes = view.classes;
    member_cmp = view.member_cmp;
    fields = view.fields;
    declarations = view.declarations;
    superclass = superclass;
  }

  abbrev pub StandsIn : C → Type 0
  StandsIn class = has_class view.classes class ≡ true

  abbrev pub StandsValue : StaticType C → Type 0
  StandsValue (class_value class) = StandsIn class
  StandsValue type = Unit {0}

module _ {C M : Type 0} (view : View C M) (superclass : C → Option (ViewType C))
    (agree : (class : C) → has_class view.classes class ≡ true → view.superclass class ≡ superclass class) where
  abbrev other : View C M
  other = with_superclass view superclass

  abbrev Stands : C → Type 0
  Stands = StandsIn view

  -- ---- going up

  above-same : (class : C) → Stands class → class_above view class ≡ class_above other class
  above-same class stands = ap (class_in view.classes) (agree class stands)

  above-stands : (class above : C) → class_above view class ≡ Some above → Stands above
  above-stands class above is = by (view.superclass class) is where
    at : (next : C) (b : Bool) → has_class view.classes next ≡ b → (if b then Some next else None) ≡ Some above → Stands above
    at next true has is = let same : next ≡ above = cc in subst Stands same has
    at next false has is = absurd cc

    by : (o : Option (ViewType C)) → class_in view.classes o ≡ Some above → Stands above
    by None is = absurd cc
    by (Some (class_type next)) is = at next (has_class view.classes next) refl is
    by (Some (primitive_type name)) is = absurd cc
    by (Some void_type) is = absurd cc
    by (Some (outside_type name)) is = absurd cc
    by (Some (array_type item)) is = absurd cc
    by (Some unread_type) is = absurd cc

  next-same : (met : List C) (first second : C → List C) (o : Option C) → ((above : C) → o ≡ Some above → first above ≡ second above)
      → each_above (unmet view.classes met o) first ≡ each_above (unmet view.classes met o) second
  next-same met first second None same = refl
  next-same met first second (Some above) same = by (is_met view.classes met above) where
    by : (b : Bool) → each_above (if b then None else Some above) first ≡ each_above (if b then None else Some above) second
    by true = refl
    by false = same above refl

  way_from-same : (steps : ℕ) (met : List C) (class : C) → Stands class → way_from steps view met class ≡ way_from steps other met class
  way_from-same zero met class stands = refl
  way_from-same (suc steps) met class stands =
      ap (λ rest. class ∷ rest)
      (next-same (class ∷ met) (λ above. way_from steps view (class ∷ met) above) (λ above. way_from steps other (class ∷ met) above)
      (class_above view class) (λ above is. way_from-same steps (class ∷ met) above (above-stands class above is))
      ∙ ap (λ o. each_above (unmet view.classes (class ∷ met) o) (λ above. way_from steps other (class ∷ met) above))
      (above-same class stands))

  next-all : (met : List C) (further : C → List C) (o : Option C)
      → ((above : C) → o ≡ Some above → AllByRecursion Stands (further above))
      → AllByRecursion Stands (each_above (unmet view.classes met o) further)
  next-all met further None all = tt {0}
  next-all met further (Some above) all = by (is_met view.classes met above) where
    by : (b : Bool) → AllByRecursion Stands (each_above (if b then None else Some above) further)
    by true = tt {0}
    by false = all above refl

  all-stand : (steps : ℕ) (met : List C) (class : C) → Stands class → AllByRecursion Stands (way_from steps view met class)
  all-stand zero met class stands = (stands, tt {0})
  all-stand (suc steps) met class stands = (
    stands,
    next-all (class ∷ met) (λ above. way_from steps view (class ∷ met) above) (class_above view class)
        (λ above is. all-stand steps (class ∷ met) above (above-stands class above is)),
  )

  last-same : (classes : List C) → AllByRecursion Stands classes → last_extends_outside view classes ≡ last_extends_outside other classes
  last-same [] all = refl
  last-same (class ∷ []) all = ap is_outside (agree class all.0)
  last-same (class ∷ above ∷ more) all = last-same (above ∷ more) all.1

  way-same : (class : C) → Stands class → way view class ≡ way other class
  way-same class stands = way_from-same (length view.classes.items) [] class stands

  ends-same : (class : C) → Stands class → ends_outside view class ≡ ends_outside other class
  ends-same class stands =
      last-same (way view class) (all-stand (length view.classes.items) [] class stands)
      ∙ ap (last_extends_outside other) (way-same class stands)

  ancestor-same : (class above : C) → Stands class → is_ancestor view class above ≡ is_ancestor other class above
  ancestor-same class above stands = ap (λ classes. is_met view.classes (drop 1 classes) above) (way-same class stands)

  -- ---- members

  nearest-same : {X : Type 0} (owner : X → C) (passes : X → Bool) (all : List X) (classes : List C)
      → nearest view owner passes all classes ≡ nearest other owner passes all classes
  nearest-same owner passes all [] = refl
  nearest-same owner passes all (class ∷ classes) =
      ap (option_or (find (λ x. passes x && is_eq (view.classes.cmp (owner x) class)) all)) (nearest-same owner passes all classes)

  pub fields-same : (class : C) (name : Name) → Stands class → field_from view class name ≡ field_from other class name
  fields-same class name stands =
      let passes : ViewField C M → Bool = λ field. bytes_eq field.name name in
      let owner : ViewField C M → C = λ field. field.owner in
      let members = nearest-same owner passes view.fields (way view class)
      ∙ ap (nearest other owner passes view.fields) (way-same class stands) in
      let outside = ends-same class stands in
      λ i. found_or (members i) (outside i)

  pub methods-same : (class : C) (name : Name) (arity : ℕ) → Stands class
      → method_from view class name arity ≡ method_from other class name arity
  methods-same class name arity stands =
      let owner : ViewDeclaration C M → C = λ declared. declared.owner in
      let members = nearest-same owner (is_method name arity) view.declarations (way view class)
      ∙ ap (nearest other owner (is_method name arity) view.declarations) (way-same class stands) in
      let outside = ends-same class stands in
      λ i. found_or (members i) (outside i || is_object_method name arity)

  above-found : {X : Type 0} (o : Option C) (first second : C → Found X) (b : Bool)
      → ((above : C) → o ≡ Some above → first above ≡ second above)
      → found_above o first b ≡ found_above o second b
  above-found None first second b same = refl
  above-found (Some above) first second b same = same above refl

  pub super_methods-same : (class : C) (name : Name) (arity : ℕ) → Stands class
      → super_method view class name arity ≡ super_method other class name arity
  super_methods-same class name arity stands =
      let up = above-same class stands in
      let outside = agree class stands in
      above-found (class_above view class) (λ above. method_from view above name arity) (λ above. method_from other above name arity)
      (is_outside (view.superclass class) || is_object_method name arity)
      (λ above is. methods-same above name arity (above-stands class above is))
      ∙ (λ i. found_above (up i) (λ above. method_from other above name arity) (is_outside (outside i) || is_object_method name arity))

  pub constructors-same : (class : C) (arity : ℕ) → constructor_from view class arity ≡ constructor_from other class arity
  constructors-same class arity = refl

  pub super_constructors-same : (class : C) (arity : ℕ) → Stands class
      → super_constructor view class arity ≡ super_constructor other class arity
  super_constructors-same class arity stands =
      let up = above-same class stands in
      let outside = agree class stands in
      λ i. found_above (up i) (λ above. constructor_from view above arity) (is_outside (outside i))

  pub variables-same : (place : Place C) (name : Name) → Stands place.class → variable view place name ≡ variable other place name
  variables-same place name stands =
      ap (local_or (last_place name place.locals) (first_place name place.params)) (fields-same place.class name stands)

  pub leftmosts-same : (place : Place C) (first : Name) (rest : Names) → Stands place.class
      → leftmost view place first rest ≡ leftmost other place first rest
  leftmosts-same place first rest stands =
      ap (λ v. variable_or v (leftmost_type view.classes first rest (simple_type view.classes place.header first)))
      (variables-same place first stands)

  -- ---- members of values

  abbrev StandsHere : StaticType C → Type 0
  StandsHere = StandsValue view

  pub fields_on-same : (name : Name) (type : StaticType C) → StandsHere type → field_on view name type ≡ field_on other name type
  fields_on-same name (class_value class) stands = ap (on_instance (λ field. field.is_static)) (fields-same class name stands)
  fields_on-same name type stands = refl

  pub methods_on-same : (name : Name) (arity : ℕ) (type : StaticType C) → StandsHere type
      → method_on view name arity type ≡ method_on other name arity type
  methods_on-same name arity (class_value class) stands =
      ap (on_instance (λ declared. is_static_kind declared.kind)) (methods-same class name arity stands)
  methods_on-same name arity type stands = refl

  pub fields_through-same : (class : C) (name : Name) → Stands class → field_through view class name ≡ field_through other class name
  fields_through-same class name stands = ap (static_of (λ field. field.is_static)) (fields-same class name stands)

  pub methods_through-same : (class : C) (name : Name) (arity : ℕ) → Stands class
      → method_through view class name arity ≡ method_through other class name arity
  methods_through-same class name arity stands =
      ap (static_of (λ declared. is_static_kind declared.kind)) (methods-same class name arity stands)

  upper-same : (first second : C) → Stands first → Stands second → upper_class view first second ≡ upper_class other first second
  upper-same first second left right =
      let down = ancestor-same second first right in
      let up = ancestor-same first second left in
      λ i. if down i then class_value first else if up i then class_value second else mixed_value

  apart-same : (first second : StaticType C) → StandsHere first → StandsHere second
      → common_apart view first second ≡ common_apart other first second
  apart-same (class_value first) (class_value second) left right = upper-same first second left right
  apart-same first second left right = refl

  pub choices-same : (first second : StaticType C) → StandsHere first → StandsHere second
      → common view first second ≡ common other first second
  choices-same first second left right =
      let apart = apart-same first second left right in
      λ i. if same_value view.classes.cmp first second then first else if are_unread first second then unread_value else apart i

  -- ---- what is found stands

  module _ (ordered : IsOrdered view) (itself : (class : C) → is_eq (view.classes.cmp class class) ≡ true) where
    any-stands : (p : ViewClass C → Bool) (classes : List (ViewClass C)) (class : ViewClass C) → Contains classes class → p class ≡ true
        → list_any p classes ≡ true
    any-stands p [] class stands is = absurd (stands_nowhere class stands)
    any-stands p (x ∷ classes) class stands is = by (stands_where x class classes stands)
        (λ later. any-stands p classes class later is) where
          or-true : (b : Bool) → (b || true) ≡ true
          or-true true = refl
          or-true false = refl

          by : (x ≡ class) ⊎ Contains classes class → (Contains classes class → list_any p classes ≡ true) → (p x || list_any p classes) ≡ true
          by (inl same) more = ap (λ b. b || list_any p classes) (ap p same ∙ is)
          by (inr later) more = ap (λ b. p x || b) (more later) ∙ or-true (p x)

    pub class-stands : (class : ViewClass C) → Contains view.classes.items class → Stands class.key
    class-stands class stands = any-stands (λ (c : ViewClass C). is_eq (view.classes.cmp c.key class.key)) view.classes.items class stands
        (itself class.key)

    pub leftmost-stands : (place : Place C) (first : Name) (rest : Names) (class : C) (count : ℕ) → OwnStands view.classes place.header
        → leftmost view place first rest ≡ leftmost_class class count → Stands class
    leftmost-stands place first rest class count own is =
        let has = (names_stand C M).leftmost_classes view place first rest class count own
        (subst (ReadsLeftmost view place first rest) is ((names_answered C M).leftmost view place first rest ordered).holds) in
        subst Stands has.is (class-stands has.class has.stands)
