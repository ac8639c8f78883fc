-- In views that are alike the ways up from classes are alike, and so are the nearest members on them.
use Rattle.std.proofs.Common.{◌≡◌, ℕ, zero, suc, Bool, true, false, ◌&&◌, ◌||◌, cond, List, [], ◌∷◌, map, length, drop, Option, Some, None, option_map, find, refl, ◌∙◌, ap}
use Rattle.std.specs.Option.{option_or}
use Rattle.std.specs.Ordering.{is_eq}
use Rattle.std.specs.Str.{bytes_eq}
use Rattle.jav_names.specs.DottedNames.{Name}
use Rattle.jav_names.specs.LookUps.{is_met, unmet, each_above, class_above, way_from, way, last_extends_outside, ends_outside, ancestors, is_ancestor, nearest, found_or, field_from, is_method, method_from}
use Rattle.jav_names.specs.Members.{is_object_method}
use Rattle.jav_names.specs.Views.{ViewField, ViewDeclaration, View}
use Rattle.jav_names_laws.specs.Alike.{ViewsAlike}
use Rattle.jav_names_laws.specs.Keys.{Keys, found_as, field_as, declaration_as}

pub option_or-mapped : {X Y : Type 0} (make : X → Y) (a b : Option X) → option_map make (option_or a b) ≡ option_or (option_map make a) (option_map make b)
option_or-mapped make None b = refl
option_or-mapped make (Some x) b = refl

pub found_or-mapped : {X Y : Type 0} (make : X → Y) (o : Option X) (b : Bool) → found_as make (found_or o b) ≡ found_or (option_map make o) b
found_or-mapped make (Some x) b = refl
found_or-mapped make None true = refl
found_or-mapped make None false = refl

pub drop-mapped : {X Y : Type 0} (make : X → Y) (xs : List X) → map make (drop 1 xs) ≡ drop 1 (map make xs)
drop-mapped make [] = refl
drop-mapped make (x ∷ xs) = refl

module _ {C M D N : Type 0} (keys : Keys C M D N) (view : View C M) (other : View D N) (alike : ViewsAlike keys view other) where
  pub met-is : (met : List C) (class : C) → is_met view.classes met class ≡ is_met other.classes (map keys.class met) (keys.class class)
  met-is [] class = refl
  met-is (before ∷ met) class = λ i. alike.same_class before class i || met-is met class i

  unmet-is : (met : List C) (o : Option C)
      → option_map keys.class (unmet view.classes met o) ≡ unmet other.classes (map keys.class met) (option_map keys.class o)
  unmet-is met None = refl
  unmet-is met (Some class) = by (is_met view.classes met class)
      ∙ ap (λ b. cond b None (Some (keys.class class))) (met-is met class) where
        by : (b : Bool) → option_map keys.class (cond b None (Some class)) ≡ cond b None (Some (keys.class class))
        by true = refl
        by false = refl

  pub way_from-is : (steps : ℕ) (met : List C) (class : C)
      → map keys.class (way_from steps view met class) ≡ way_from steps other (map keys.class met) (keys.class class)
  way_from-is zero met class = refl
  way_from-is (suc steps) met class = ap (λ classes. keys.class class ∷ classes)
      (by (unmet view.classes (class ∷ met) (class_above view class)) (λ above. way_from-is steps (class ∷ met) above)
      ∙ ap (λ o. each_above o (λ above. way_from steps other (keys.class class ∷ map keys.class met) above))
      (unmet-is (class ∷ met) (class_above view class)
      ∙ ap (unmet other.classes (keys.class class ∷ map keys.class met)) (alike.above class))) where
        by : (o : Option C) → ((above : C) → map keys.class (way_from steps view (class ∷ met) above)
            ≡ way_from steps other (keys.class class ∷ map keys.class met) (keys.class above))
            → map keys.class (each_above o (λ above. way_from steps view (class ∷ met) above))
            ≡ each_above (option_map keys.class o) (λ above. way_from steps other (keys.class class ∷ map keys.class met) above)
        by None more = refl
        by (Some above) more = more above

  pub way-is : (class : C) → map keys.class (way view class) ≡ way other (keys.class class)
  way-is class = way_from-is (length view.classes.items) [] class ∙ ap (λ steps. way_from steps other [] (keys.class class)) alike.as_many

  last-is : (classes : List C) → last_extends_outside view classes ≡ last_extends_outside other (map keys.class classes)
  last-is [] = refl
  last-is (class ∷ []) = alike.outside class
  last-is (class ∷ above ∷ more) = last-is (above ∷ more)

  pub ends-is : (class : C) → ends_outside view class ≡ ends_outside other (keys.class class)
  ends-is class = last-is (way view class) ∙ ap (last_extends_outside other) (way-is class)

  pub ancestor-is : (class above : C) → is_ancestor view class above ≡ is_ancestor other (keys.class class) (keys.class above)
  ancestor-is class above = met-is (ancestors view class) above
      ∙ ap (λ classes. is_met other.classes classes (keys.class above))
      (drop-mapped keys.class (way view class) ∙ ap (drop 1) (way-is class))

  pub nearest-is : {X Y : Type 0} (make : X → Y) (owner : X → C) (owner_as : Y → D) (passes : X → Bool) (passes_as : Y → Bool)
      (all : List X) (others : List Y)
      → ((class : C) → option_map make (find (λ x. passes x && is_eq (view.classes.cmp (owner x) class)) all)
      ≡ find (λ y. passes_as y && is_eq (other.classes.cmp (owner_as y) (keys.class class))) others)
      → (classes : List C) → option_map make (nearest view owner passes all classes)
      ≡ nearest other owner_as passes_as others (map keys.class classes)
  nearest-is make owner owner_as passes passes_as all others each [] = refl
  nearest-is make owner owner_as passes passes_as all others each (class ∷ classes) =
      option_or-mapped make (find (λ x. passes x && is_eq (view.classes.cmp (owner x) class)) all) (nearest view owner passes all classes)
      ∙ (λ i. option_or (each class i) (nearest-is make owner owner_as passes passes_as all others each classes i))

  pub field-is : (class : C) (name : Name) → found_as (field_as keys) (field_from view class name) ≡ field_from other (keys.class class) name
  field-is class name = found_or-mapped (field_as keys) _ (ends_outside view class)
      ∙ (λ i. found_or (nearest-is (field_as keys) (λ (f : ViewField C M). f.owner) (λ (f : ViewField D N). f.owner)
      (λ (f : ViewField C M). bytes_eq f.name name) (λ (f : ViewField D N). bytes_eq f.name name) view.fields other.fields
      (λ class. alike.fields class name) (way view class) i) (ends-is class i))
      ∙ ap (λ classes. found_or (nearest other (λ (f : ViewField D N). f.owner) (λ (f : ViewField D N). bytes_eq f.name name)
      other.fields classes) (ends_outside other (keys.class class))) (way-is class)

  pub method-is : (class : C) (name : Name) (arity : ℕ)
      → found_as (declaration_as keys) (method_from view class name arity) ≡ method_from other (keys.class class) name arity
  method-is class name arity = found_or-mapped (declaration_as keys) _ (ends_outside view class || is_object_method name arity)
      ∙ (λ i. found_or (nearest-is (declaration_as keys) (λ (d : ViewDeclaration C M). d.owner) (λ (d : ViewDeclaration D N). d.owner)
      (is_method name arity) (is_method name arity) view.declarations other.declarations
      (λ class. alike.methods class name arity) (way view class) i) (ends-is class i || is_object_method name arity))
      ∙ ap (λ classes. found_or (nearest other (λ (d : ViewDeclaration D N). d.owner) (is_method name arity)
      other.declarations classes) (ends_outside other (keys.class class) || is_object_method name arity)) (way-is class)
