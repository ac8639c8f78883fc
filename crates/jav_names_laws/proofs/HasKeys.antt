-- Views that differ in their keys alone are alike.
use Rattle.std.proofs.Common.{◌≡◌, ◌==◌, Bool, ◌&&◌, length, option_map, find, refl, sym, ◌∙◌, ap}
use Rattle.std.specs.List.{list_any}
use Rattle.std.specs.Ordering.{is_eq}
use Rattle.std.specs.Str.{bytes_eq}
use Rattle.std.proofs.lemmas.List.{length-map}
use Rattle.jav_names.specs.DottedNames.{Name}
use Rattle.jav_names.specs.LookUps.{class_named, has_class, is_constructor, is_method, declares_constructor}
use Rattle.jav_names.specs.Types.{full_name}
use Rattle.jav_names.specs.Views.{ViewClass, ViewField, ViewDeclaration, View}
use Rattle.jav_names_laws.specs.Alike.{ViewsAlike}
use Rattle.jav_names_laws.specs.HasKeys.{HasKeys}
use Rattle.jav_names_laws.specs.Keys.{Keys, class_as, field_as, declaration_as}
use Rattle.jav_names_laws.specs.Laws.{KeysAlike}
use Rattle.jav_names_laws.proofs.AboveAlike.{above-is, outside-is}
use Rattle.jav_names_laws.proofs.ListsAlike.{any-mapped, find-mapped}

module _ {C M D N : Type 0} (keys : Keys C M D N) (view : View C M) (other : View D N) (has : HasKeys keys view other) where
  has_class-is : (class : C) → has_class view.classes class ≡ has_class other.classes (keys.class class)
  has_class-is class =
      any-mapped (class_as keys.class) (λ (c : ViewClass C). is_eq (view.classes.cmp c.key class))
      (λ (c : ViewClass D). is_eq (other.classes.cmp c.key (keys.class class))) (λ c. has.same_class c.key class) view.classes.items
      ∙ ap (list_any (λ (c : ViewClass D). is_eq (other.classes.cmp c.key (keys.class class)))) has.classes

  class_named-is : (name : Name) → option_map (class_as keys.class) (class_named view.classes name) ≡ class_named other.classes name
  class_named-is name =
      find-mapped (class_as keys.class) (λ (c : ViewClass C). bytes_eq (full_name c) name) (λ (c : ViewClass D). bytes_eq (full_name c) name)
      (λ c. refl) view.classes.items
      ∙ ap (find (λ (c : ViewClass D). bytes_eq (full_name c) name)) has.classes

  module _ (passes : ViewField C M → Bool) (passes_as : ViewField D N → Bool)
      (same : (field : ViewField C M) → passes field ≡ passes_as (field_as keys field)) where
    field-is : option_map (field_as keys) (find passes view.fields) ≡ find passes_as other.fields
    field-is = find-mapped (field_as keys) passes passes_as same view.fields ∙ ap (find passes_as) has.fields

  module _ (passes : ViewDeclaration C M → Bool) (passes_as : ViewDeclaration D N → Bool)
      (same : (declared : ViewDeclaration C M) → passes declared ≡ passes_as (declaration_as keys declared)) where
    declaration-is : option_map (declaration_as keys) (find passes view.declarations) ≡ find passes_as other.declarations
    declaration-is = find-mapped (declaration_as keys) passes passes_as same view.declarations ∙ ap (find passes_as) has.declarations

  declares-is : (class : C) (declared : ViewDeclaration C M)
      → declares_constructor view class declared ≡ declares_constructor other (keys.class class) (declaration_as keys declared)
  declares-is class declared = ap (λ b. b && is_constructor declared.kind) (has.same_class declared.owner class)

  pub views : ViewsAlike keys view other
  views = record {
    same_class = has.same_class;
    as_many = sym (length-map view.classes.items (class_as keys.class)) ∙ ap length has.classes;
    classes = class_named-is;
    above = above-is keys view other has_class-is has.superclasses;
    outside = outside-is keys view other has_class-is has.superclasses;
    fields = λ class name. field-is
        (λ field. bytes_eq field.name name && is_eq (view.classes.cmp field.owner class))
        (λ field. bytes_eq field.name name && is_eq (other.classes.cmp field.owner (keys.class class)))
        (λ field. ap (λ b. bytes_eq field.name name && b) (has.same_class field.owner class));
    methods = λ class name arity. declaration-is
        (λ declared. is_method name arity declared && is_eq (view.classes.cmp declared.owner class))
        (λ declared. is_method name arity declared && is_eq (other.classes.cmp declared.owner (keys.class class)))
        (λ declared. ap (λ b. is_method name arity declared && b) (has.same_class declared.owner class));
    constructors = λ class arity. declaration-is
        (λ declared. declares_constructor view class declared && declared.arity == arity)
        (λ declared. declares_constructor other (keys.class class) declared && declared.arity == arity)
        (λ declared. ap (λ b. b && declared.arity == arity) (declares-is class declared));
    has_constructor = λ class.
        any-mapped (declaration_as keys) (declares_constructor view class) (declares_constructor other (keys.class class))
        (declares-is class) view.declarations
        ∙ ap (list_any (declares_constructor other (keys.class class))) has.declarations;
  }

pub keys_alike : (C M D N : Type 0) → KeysAlike C M D N
keys_alike C M D N keys view other has = views keys view other has
