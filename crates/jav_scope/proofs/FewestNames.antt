-- The fewest names that spell a class, name by name.
use Rattle.std.proofs.Common.{◌≡◌, ℕ, zero, suc, ◌<◌, ◌≤◌, [], ◌∷◌, ◌++◌, length, take, Some, None, refl, ◌∙◌, ap, arith}
use Rattle.std.proofs.lemmas.List.{append_assoc}
use Rattle.jav_names.specs.DottedNames.{Name, Names, dot, joined}
use Rattle.jav_names.specs.LookUps.{class_named, fewest}
use Rattle.jav_names.specs.Views.{ViewClass, Classes}

joined-longer : (text next : Name) (rest : Names) → joined (text ++ dot ∷ next) rest ≡ text ++ dot ∷ joined next rest
joined-longer text next [] = refl
joined-longer text next (name ∷ rest) = append_assoc text (dot ∷ next) (dot ∷ joined name rest)

module _ {C : Type 0} (classes : Classes C) where
  -- none of the texts of fewer names than these is the full name of a class
  abbrev pub NoneFewer : Name → Names → ℕ → Type 0
  NoneFewer text rest n = (k : ℕ) → k < n → class_named classes (joined text (take k rest)) ≡ None

  pub fewest-found : (n : ℕ) (text : Name) (rest : Names) (class : ViewClass C) → n ≤ length rest → NoneFewer text rest n
      → class_named classes (joined text (take n rest)) ≡ Some class → fewest classes text rest ≡ Some (class.key, n)
  fewest-found zero text [] class within none is = rw is refl
  fewest-found zero text (next ∷ rest) class within none is = rw is refl
  fewest-found (suc n) text [] class within none is = absurd (omega (arith, within))
  fewest-found (suc n) text (next ∷ rest) class within none is =
      let more : fewest classes (text ++ dot ∷ next) rest ≡ Some (class.key, n) = fewest-found n (text ++ dot ∷ next) rest class
      (omega (arith, within))
      (λ k below. ap (class_named classes) (joined-longer text next (take k rest)) ∙ none (suc k) (omega (arith, below)))
      (ap (class_named classes) (joined-longer text next (take n rest)) ∙ is) in
      rw (none 0 (omega arith), more) refl

  pub fewest-none : (text : Name) (rest : Names) → NoneFewer text rest (suc (length rest)) → fewest classes text rest ≡ None
  fewest-none text [] none = rw (none 0 (omega arith)) refl
  fewest-none text (next ∷ rest) none =
      let more : fewest classes (text ++ dot ∷ next) rest ≡ None = fewest-none (text ++ dot ∷ next) rest
      (λ k below. ap (class_named classes) (joined-longer text next (take k rest)) ∙ none (suc k) (omega (arith, below))) in
      rw (none 0 (omega arith), more) refl
