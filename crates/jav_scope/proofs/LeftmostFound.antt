-- What the first of several names is found to be, as the name of a class or as the beginning of one.
use Rattle.std.proofs.Common.{◌≡◌, ◌⊎◌, inl, inr, ℕ, suc, ◌+◌, ◌<◌, ◌≤◌, ◌∷◌, length, take, Option, Some, None, option_map, refl, ◌∙◌, sym, ap, arith}
use Rattle.jav_names.specs.DottedNames.{Name, Names, joined}
use Rattle.jav_names.specs.LookUps.{class_named, class_or_outside, fewest, leftmost_type}
use Rattle.jav_names.specs.Types.{TypeReading, class_read, imported, written, no_type}
use Rattle.jav_names.specs.UnitViews.{MemberKey}
use Rattle.jav_names.specs.Views.{ViewClass, Classes}
use Rattle.jav_names.specs.index.Spelled.{joined_names}
use Rattle.jav_names.proofs.index_lemmas.Searched.{below-or_from}
use Rattle.jav_scope.specs.Answers.{reading_of, leftmost_answered}
use Rattle.jav_scope.specs.declared.found.Found.TheVariants as answer
use Rattle.jav_scope.specs.declared.found.Leftmost.TheVariants as leftmost
use Rattle.jav_scope.specs.declared.reading.Reading.TheVariants as reading
use Rattle.jav_scope.proofs.FewestNames.{NoneFewer, fewest-found, fewest-none}

-- ---- by what the first name reads as

module _ (classes : Classes ℕ) (first : Name) (rest : Names) where
  pub first-class : (read : TypeReading ℕ) (class : ℕ) → reading.Class class ≡ reading_of read
      → answer.Found (leftmost.Class class 1) ≡ leftmost_answered (leftmost_type {M = MemberKey} classes first rest read)
  first-class (class_read key) class is =
      ap (λ k. answer.Found (leftmost.Class k 1)) (let same : class ≡ key = cc in same)
  first-class (imported import more) class is = absurd cc
  first-class (written text) class is = absurd cc
  first-class no_type class is = absurd cc

  pub first-imported : (read : TypeReading ℕ) → reading.Imported ≡ reading_of read
      → answer.Outside ≡ leftmost_answered (leftmost_type {M = MemberKey} classes first rest read)
  first-imported (class_read key) is = absurd cc
  first-imported (imported import more) is = refl
  first-imported (written text) is = absurd cc
  first-imported no_type is = absurd cc

  pub first-written : (read : TypeReading ℕ) → reading.Written ≡ reading_of read
      → leftmost_answered (class_or_outside {M = MemberKey} (fewest classes first rest))
      ≡ leftmost_answered (leftmost_type {M = MemberKey} classes first rest read)
  first-written (class_read key) is = absurd cc
  first-written (imported import more) is = absurd cc
  first-written (written text) is = refl
  first-written no_type is = absurd cc

  pub first-nothing : (read : TypeReading ℕ) → reading.Nothing ≡ reading_of read
      → answer.Outside ≡ leftmost_answered (leftmost_type {M = MemberKey} classes first rest read)
  first-nothing (class_read key) is = absurd cc
  first-nothing (imported import more) is = absurd cc
  first-nothing (written text) is = absurd cc
  first-nothing no_type is = refl

-- ---- so many of the names

module _ (classes : Classes ℕ) (names : Names) (place : ℕ) (first : Name) (rest : Names) (is : names ≡ first ∷ rest) where
  -- the text of the names up to this place
  pub begun : joined_names (take (place + 1) names) ≡ joined first (take place rest)
  begun = ap (λ all. joined_names (take (place + 1) all)) is ∙ ap (λ n. joined_names (take n (first ∷ rest))) next where
    next : place + 1 ≡ suc place
    next = omega arith

  module _ (within : place < length names) (none : NoneFewer classes first rest place) where
    short : place ≤ length rest
    short = omega (arith, within, ap length is)

    pub spelled-class : (class : ℕ)
        → Some class ≡ option_map (λ (c : ViewClass ℕ). c.key) (class_named classes (joined_names (take (place + 1) names)))
        → answer.Found (leftmost.Class class (place + 1)) ≡ leftmost_answered (class_or_outside {M = MemberKey} (fewest classes first rest))
    spelled-class class named =
        by_class (class_named classes (joined first (take place rest))) refl
        (named ∙ ap (λ text. option_map (λ (c : ViewClass ℕ). c.key) (class_named classes text)) begun) where
          by_class : (o : Option (ViewClass ℕ)) → class_named classes (joined first (take place rest)) ≡ o
              → Some class ≡ option_map (λ (c : ViewClass ℕ). c.key) o
              → answer.Found (leftmost.Class class (place + 1))
              ≡ leftmost_answered (class_or_outside {M = MemberKey} (fewest classes first rest))
          by_class None found same = absurd cc
          by_class (Some c) found same =
              let key : class ≡ c.key = cc in
              let next : place + 1 ≡ suc place = omega arith in
              (λ i. answer.Found (leftmost.Class (key i) (next i)))
              ∙ sym (ap (λ o. leftmost_answered (class_or_outside {M = MemberKey} o))
              (fewest-found classes place first rest c short none found))

    pub none-further : None ≡ option_map (λ (c : ViewClass ℕ). c.key) (class_named classes (joined_names (take (place + 1) names)))
        → NoneFewer classes first rest (place + 1)
    none-further named = λ k below. by_place k below where
      nowhere : (o : Option (ViewClass ℕ)) → None ≡ option_map (λ (c : ViewClass ℕ). c.key) o → o ≡ None
      nowhere None same = refl
      nowhere (Some c) same = absurd cc

      here : class_named classes (joined first (take place rest)) ≡ None
      here = nowhere (class_named classes (joined first (take place rest)))
          (named ∙ ap (λ text. option_map (λ (c : ViewClass ℕ). c.key) (class_named classes text)) begun)

      by_place : (k : ℕ) → k < place + 1 → class_named classes (joined first (take k rest)) ≡ None
      by_place k below = by_side (below-or_from k place) where
        by_side : (k < place) ⊎ (place ≤ k) → class_named classes (joined first (take k rest)) ≡ None
        by_side (inl before) = none k before
        by_side (inr from) =
            let same : place ≡ k = omega (arith, from, below) in
            ap (λ n. class_named classes (joined first (take n rest))) (sym same) ∙ here

  -- none of the names spells one, with those before it
  pub none-spelled : length names ≤ place → NoneFewer classes first rest place
      → answer.Outside ≡ leftmost_answered (class_or_outside {M = MemberKey} (fewest classes first rest))
  none-spelled all none = sym (ap (λ o. leftmost_answered (class_or_outside {M = MemberKey} o))
      (fewest-none classes first rest enough)) where
        enough : NoneFewer classes first rest (suc (length rest))
        enough k below = none k (omega (arith, below, all, ap length is))
