-- Where no field has a name, a local or a parameter is all that it can be.
use Rattle.std.proofs.Common.{◌≡◌, ℕ, Bool, true, false, true≢false, cond, ◌||◌, ◌&&◌, List, [], ◌∷◌, find, Option, Some, None, refl, ◌∙◌, ap, bytes_eq}
use Rattle.std.specs.List.{list_any}
use Rattle.std.specs.Option.{option_or}
use Rattle.std.specs.Ordering.{is_eq}
use Rattle.jav_scope.specs.Answers.{answered}
use Rattle.jav_names.specs.DottedNames.{Name}
use Rattle.jav_names.specs.LookUps.{ends_outside, field_found, field_from, found_or, local_or, nearest, way}
use Rattle.jav_names.specs.Views.{ViewField, View}
use Rattle.mol_base.specs.declared.ident.Id.{Id}
use Rattle.mol_scope.specs.variables.Keys.{found_in, in_scope, variable_key}

module _ {X : Type 0} (passes : X → Bool) where
  none-too : (also : X → Bool) (xs : List X) → list_any passes xs ≡ false → find (λ x. passes x && also x) xs ≡ None
  none-too also [] none = refl
  none-too also (x ∷ xs) none = by (passes x) none (none-too also xs) where
    by : (b : Bool) → (b || list_any passes xs) ≡ false → (list_any passes xs ≡ false → find (λ y. passes y && also y) xs ≡ None)
        → cond (b && also x) (Some x) (find (λ y. passes y && also y) xs) ≡ None
    by true none more = absurd (true≢false none)
    by false none more = more none

  none-nearest : {C M : Type 0} (view : View C M) (owner : X → C) (all : List X) → list_any passes all ≡ false → (classes : List C)
      → nearest view owner passes all classes ≡ None
  none-nearest view owner all none [] = refl
  none-nearest view owner all none (class ∷ classes) =
      ap (λ o. option_or o (nearest view owner passes all classes)) (none-too (λ x. is_eq (view.classes.cmp (owner x) class)) all none)
      ∙ none-nearest view owner all none classes

none-found : (o : Option (ViewField Id Id)) (ends : Bool) → o ≡ None → None ≡ found_in (answered variable_key (field_found (found_or o ends)))
none-found None true is = refl
none-found None false is = refl
none-found (Some field) ends is = absurd cc

module _ (view : View Id Id) (class : Id) (name : Name)
    (none : list_any (λ (field : ViewField Id Id). bytes_eq field.name name) view.fields ≡ false) where
  pub scope-alone : (local parameter : Option ℕ)
      → in_scope local parameter ≡ found_in (answered variable_key (local_or local parameter (field_from view class name)))
  scope-alone (Some place) parameter = refl
  scope-alone None (Some place) = refl
  scope-alone None None = none-found _ (ends_outside view class)
      (none-nearest (λ (field : ViewField Id Id). bytes_eq field.name name) view (λ field. field.owner) view.fields none (way view class))
