-- From a class with the key of nothing up nothing is found.
use Rattle.std.proofs.Common.{◌≡◌, ℕ, zero, suc, Bool, true, false, ◌&&◌, ◌||◌, List, [], ◌∷◌, length, Some, None, find, refl, ◌∙◌, ap, if◌then◌else◌}
use Rattle.std.specs.List.{list_any}
use Rattle.std.specs.Option.{option_or}
use Rattle.std.specs.Ordering.{is_eq}
use Rattle.std.specs.Str.{bytes_eq}
use Rattle.jav_names.specs.DottedNames.{Name}
use Rattle.jav_names.specs.LookUps.{class_in, class_above, is_outside, unmet, each_above, way_from, way, last_extends_outside, ends_outside, nearest, found_or, field_from, is_method, method_from, found_above, super_method}
use Rattle.jav_names.specs.Members.{is_object_method}
use Rattle.jav_names.specs.Views.{ViewField, ViewDeclaration, View, not_found}
use Rattle.jav_names_laws.specs.Laws.{StrangeFindNothing}
use Rattle.jav_names_laws.specs.Strange.{IsStrange}

-- where the second of two tests passes nowhere, nothing passes both
find-none : {X : Type 0} (p q : X → Bool) (xs : List X) → list_any q xs ≡ false → find (λ x. p x && q x) xs ≡ None
find-none p q [] none = refl
find-none {X} p q (x ∷ xs) none = by_tests (p x) (q x) none (find-none p q xs) where
  by_tests : (a b : Bool) → (b || list_any q xs) ≡ false → (list_any q xs ≡ false → find (λ x. p x && q x) xs ≡ None)
      → (if a && b then Some x else find (λ x. p x && q x) xs) ≡ None
  by_tests a true fails more = absurd cc
  by_tests true false fails more = more fails
  by_tests false false fails more = more fails

module _ {C M : Type 0} (view : View C M) (class : C) (strange : IsStrange view class) where
  nothing_above : class_above view class ≡ None
  nothing_above = ap (class_in view.classes) strange.extends

  way-alone : way view class ≡ class ∷ []
  way-alone = by_steps (length view.classes.items) where
    by_steps : (steps : ℕ) → way_from steps view [] class ≡ class ∷ []
    by_steps zero = refl
    by_steps (suc steps) =
        ap (λ next. class ∷ each_above (unmet view.classes (class ∷ []) next) (λ above. way_from steps view (class ∷ []) above)) nothing_above

  not-outside : is_outside (view.superclass class) ≡ false
  not-outside = ap is_outside strange.extends

  ends-not : ends_outside view class ≡ false
  ends-not = ap (last_extends_outside view) way-alone ∙ not-outside

  none-nearest : {X : Type 0} (owner : X → C) (passes : X → Bool) (all : List X)
      → list_any (λ x. is_eq (view.classes.cmp (owner x) class)) all ≡ false → nearest view owner passes all (way view class) ≡ None
  none-nearest owner passes all none =
      ap (nearest view owner passes all) way-alone
      ∙ ap (λ o. option_or o None) (find-none passes (λ x. is_eq (view.classes.cmp (owner x) class)) all none)

  field-strange : (name : Name) → field_from view class name ≡ not_found
  field-strange name =
      ap (λ o. found_or o (ends_outside view class))
      (none-nearest (λ (field : ViewField C M). field.owner) (λ (field : ViewField C M). bytes_eq field.name name) view.fields strange.fields)
      ∙ ap (found_or None) ends-not

  method-strange : (name : Name) (arity : ℕ) → method_from view class name arity ≡ found_or None (is_object_method name arity)
  method-strange name arity =
      ap (λ o. found_or o (ends_outside view class || is_object_method name arity))
      (none-nearest (λ (declared : ViewDeclaration C M). declared.owner) (is_method name arity) view.declarations strange.declarations)
      ∙ ap (λ b. found_or None (b || is_object_method name arity)) ends-not

  super-strange : (name : Name) (arity : ℕ) → super_method view class name arity ≡ found_or None (is_object_method name arity)
  super-strange name arity =
      ap (λ a. found_above a (λ above. method_from view above name arity) (is_outside (view.superclass class) || is_object_method name arity))
      nothing_above
      ∙ ap (λ b. found_or None (b || is_object_method name arity)) not-outside

pub strange_find_nothing : {C M : Type 0} → StrangeFindNothing C M
strange_find_nothing = record {
  fields = λ view class name strange. field-strange view class strange name;
  methods = λ view class name arity strange. method-strange view class strange name arity;
  super_methods = λ view class name arity strange. super-strange view class strange name arity;
}
