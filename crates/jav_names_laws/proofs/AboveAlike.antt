-- Where two views have the same classes and each class extends the same, the class above each is the same.
use Rattle.std.proofs.Common.{◌≡◌, Bool, true, false, cond, Option, Some, None, option_map, refl, ◌∙◌, ap}
use Rattle.jav_names.specs.LookUps.{has_class, class_in, class_above, is_outside}
use Rattle.jav_names.specs.Views.{ViewType, class_type, outside_type, View}
use Rattle.jav_names_laws.specs.Keys.{Keys, type_as}

module _ {C M D N : Type 0} (keys : Keys C M D N) (view : View C M) (other : View D N)
    (has : (class : C) → has_class view.classes class ≡ has_class other.classes (keys.class class))
    (superclasses : (class : C) → option_map (type_as keys.class) (view.superclass class) ≡ other.superclass (keys.class class)) where
  class_in-is : (type : Option (ViewType C))
      → option_map keys.class (class_in view.classes type) ≡ class_in other.classes (option_map (type_as keys.class) type)
  class_in-is (Some (class_type above)) = by (has_class view.classes above) ∙ ap (λ b. cond b (Some (keys.class above)) None) (has above) where
    by : (b : Bool) → option_map keys.class (cond b (Some above) None) ≡ cond b (Some (keys.class above)) None
    by true = refl
    by false = refl
  class_in-is type = refl

  pub above-is : (class : C) → option_map keys.class (class_above view class) ≡ class_above other (keys.class class)
  above-is class = class_in-is (view.superclass class) ∙ ap (class_in other.classes) (superclasses class)

  is_outside-is : (type : Option (ViewType C)) → is_outside type ≡ is_outside (option_map (type_as keys.class) type)
  is_outside-is (Some (outside_type name)) = refl
  is_outside-is type = refl

  pub outside-is : (class : C) → is_outside (view.superclass class) ≡ is_outside (other.superclass (keys.class class))
  outside-is class = is_outside-is (view.superclass class) ∙ ap is_outside (superclasses class)
