-- The class that the fewest of several names spell, name by name.
use Rattle.std.proofs.Common.{◌≡◌, ◌⊎◌, inl, inr, ℕ, suc, ◌+◌, ◌<◌, ◌≤◌, ◌∷◌, length, take, Option, Some, None, option_map, refl, ◌∙◌, sym, ap, arith}
use Rattle.jav_names.proofs.index_lemmas.Searched.{below-or_from}
use Rattle.jav_names.specs.index.Spelled.{joined_names}
use Rattle.jav_scope.proofs.FewestNames.{NoneFewer, fewest-found, fewest-none}
use Rattle.jav_names.specs.DottedNames.{Name, Names, joined}
use Rattle.jav_names.specs.Leftmost.{Leftmost as Read, leftmost_class, leftmost_outside}
use Rattle.jav_names.specs.LookUps.{class_named, class_or_outside, fewest}
use Rattle.jav_names.specs.Views.{ViewClass, Classes}
use Rattle.mol_base.specs.declared.ident.Id.{Id}

module _ (classes : Classes Id) (names : Names) (place : ℕ) (first : Name) (rest : Names) (is : names ≡ first ∷ rest) where
  -- what the names up to this place spell
  abbrev named : Option (ViewClass Id)
  named = class_named classes (joined_names (take (place + 1) names))

  abbrev read : Read Id Id
  read = class_or_outside (fewest classes first rest)

  begun : named ≡ class_named classes (joined first (take place rest))
  begun = ap (class_named classes)
      (ap (λ all. joined_names (take (place + 1) all)) is ∙ ap (λ n. joined_names (take n (first ∷ rest))) next) where
        next : place + 1 ≡ suc place
        next = omega arith

  module _ (within : place < length names) (none : NoneFewer classes first rest place) where
    pub spelled-class : (class : Id) → Some class ≡ option_map (λ (c : ViewClass Id). c.key) named
        → leftmost_class class (place + 1) ≡ read
    spelled-class class found = by (class_named classes (joined first (take place rest))) refl
        (found ∙ ap (option_map (λ (c : ViewClass Id). c.key)) begun) where
          by : (o : Option (ViewClass Id)) → class_named classes (joined first (take place rest)) ≡ o
              → Some class ≡ option_map (λ (c : ViewClass Id). c.key) o → leftmost_class class (place + 1) ≡ read
          by None there same = absurd cc
          by (Some c) there same =
              let key : class ≡ c.key = cc in
              let next : place + 1 ≡ suc place = omega arith in
              let short : place ≤ length rest = omega (arith, within, ap length is) in
              (λ i. leftmost_class (key i) (next i))
              ∙ sym (ap (λ (o : Option (Id × ℕ)). class_or_outside {M = Id} o) (fewest-found classes place first rest c short none there))

    pub none-further : None ≡ option_map (λ (c : ViewClass Id). c.key) named → NoneFewer classes first rest (place + 1)
    none-further found k below = by (below-or_from k place) where
      nowhere : (o : Option (ViewClass Id)) → None ≡ option_map (λ (c : ViewClass Id). c.key) o → o ≡ None
      nowhere None same = refl
      nowhere (Some c) same = absurd cc

      here : class_named classes (joined first (take place rest)) ≡ None
      here = sym begun ∙ nowhere named found

      by : (k < place) ⊎ (place ≤ k) → class_named classes (joined first (take k rest)) ≡ None
      by (inl before) = none k before
      by (inr from) =
          let same : place ≡ k = omega (arith, from, below) in
          ap (λ n. class_named classes (joined first (take n rest))) (sym same) ∙ here

  -- none of the names spells one, with those before it
  pub none-spelled : length names ≤ place → NoneFewer classes first rest place → leftmost_outside ≡ read
  none-spelled all none = sym (ap (λ (o : Option (Id × ℕ)). class_or_outside {M = Id} o) (fewest-none classes first rest enough)) where
    enough : NoneFewer classes first rest (suc (length rest))
    enough k below = none k (omega (arith, below, all, ap length is))
