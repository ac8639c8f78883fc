-- Views that differ in their keys alone.
use Rattle.std.specs.Prelude.{◌≡◌, map, option_map}
use Rattle.std.specs.Ordering.{is_eq}
use Rattle.jav_names.specs.Views.{View}
use Rattle.jav_names_laws.specs.Keys.{Keys, type_as, class_as, field_as, declaration_as}

-- The other view is the view with other keys: what stands in it is the same, in the same order, and two keys tie in both or in neither.
pub record HasKeys {C M D N : Type 0} (keys : Keys C M D N) (view : View C M) (other : View D N) : Type 0 where
  pub same_class : (first second : C)
      → is_eq (view.classes.cmp first second) ≡ is_eq (other.classes.cmp (keys.class first) (keys.class second))
  pub classes : map (class_as keys.class) view.classes.items ≡ other.classes.items
  pub fields : map (field_as keys) view.fields ≡ other.fields
  pub declarations : map (declaration_as keys) view.declarations ≡ other.declarations
  pub superclasses : (class : C) → option_map (type_as keys.class) (view.superclass class) ≡ other.superclass (keys.class class)
