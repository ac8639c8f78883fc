-- The numbers of classes of source files are below the number of files.
use Rattle.std.proofs.Common.{◌≡◌, ℕ, ◌<◌, List, map, length, Option, Some, None, option_map, slice_get, refl, sym, ◌∙◌, ap, arith}
use Rattle.std.specs.Option.{option_flatten}
use Rattle.std.proofs.lemmas.List.{length-map}
use Rattle.std.proofs.lemmas.List.FromFn.{get_or-enumerate_from, length-enumerate_from}
use Rattle.std.proofs.lemmas.Option.{same_Some, slice_get-get_or, slice_get-map, slice_get_within, get_or_from_slice_get}
use Rattle.jav_tree.specs.declared.unit.Unit.{Unit}
use Rattle.jav_names.specs.Ancestors.{Extends, HasClass}
use Rattle.jav_names.specs.UnitViews.{class_of, numbered, superclass_of}
use Rattle.jav_names.specs.Views.{ViewClass, ViewType, class_type}
use Rattle.jav_scope.specs.Entries.{units_of, classes_in, view_in}
use Rattle.jav_scope.specs.declared.source.SourceUnit.{SourceUnit}

-- what is numbered has its place as number
number-place : {X : Type 0} (xs : List X) (place : ℕ) (entry : ℕ × X) → slice_get (numbered xs) place ≡ Some entry → entry.0 ≡ place
number-place {X} xs place entry is =
    let within : place < length xs = omega (arith, slice_get_within (numbered xs) place entry is, length-enumerate_from 0 xs) in
    let same = sym (get_or_from_slice_get (numbered xs) place entry entry is) ∙ get_or-enumerate_from 0 xs place entry within in
    omega (arith, ap (λ (e : ℕ × X). e.0) same)

module _ (sources : List SourceUnit) where
  many : length (numbered (units_of sources)) ≡ length sources
  many = length-enumerate_from 0 (units_of sources) ∙ length-map sources (λ (s : SourceUnit). s.unit)

  pub class-below : (class : ℕ) → HasClass (classes_in sources) class → class < length sources
  class-below class has = by (slice_get (numbered (units_of sources)) place) refl there where
    place : ℕ
    place = has.stands.0

    there : option_map class_of (slice_get (numbered (units_of sources)) place) ≡ Some has.class
    there = sym (slice_get-map class_of (numbered (units_of sources)) place)
        ∙ slice_get-get_or (map class_of (numbered (units_of sources))) place has.class has.stands.1 ∙ ap (λ c. Some c) has.stands.2

    by : (o : Option (ℕ × Unit)) → slice_get (numbered (units_of sources)) place ≡ o → option_map class_of o ≡ Some has.class
        → class < length sources
    by None is none = absurd cc
    by (Some entry) is made =
        let key : entry.0 ≡ class = ap (λ (c : ViewClass ℕ). c.key) (same_Some (class_of entry) has.class made) ∙ has.is in
        let inside = slice_get_within (numbered (units_of sources)) place entry is in
        omega (arith, number-place (units_of sources) place entry is, key, inside, many)

  pub extending-below : (class above : ℕ) → Extends (view_in sources) class above → class < length sources
  extending-below class above extends = by (slice_get superclasses class) refl extends.named where
    superclasses : List (Option (ViewType ℕ))
    superclasses = map (superclass_of (classes_in sources)) (numbered (units_of sources))

    by : (o : Option (Option (ViewType ℕ))) → slice_get superclasses class ≡ o → option_flatten o ≡ Some (class_type above)
        → class < length sources
    by None is none = absurd cc
    by (Some type) is some =
        omega (
          arith,
          slice_get_within superclasses class type is,
          many,
          length-map (numbered (units_of sources)) (superclass_of (classes_in sources)),
        )
