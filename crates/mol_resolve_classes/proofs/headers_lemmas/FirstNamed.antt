-- The first classes of full names.
use Rattle.std.proofs.Common.{◌≡◌, ℕ, ◌<◌, List, map, length, Option, Some, None, option_map, Contains, slice_get, refl, sym, ◌∙◌, ap}
use Rattle.std.specs.Str.{bytes_eq}
use Rattle.std.proofs.lemmas.List.Elements.{All-contains}
use Rattle.std.proofs.lemmas.Option.{same_Some, slice_get-map, slice_get_within}
use Rattle.std.proofs.lemmas.Slice.Eq.{bytes_eq-Decides}
use Rattle.jav_tree.specs.declared.unit.Unit.{Unit}
use Rattle.jav_scope.specs.Entries.{units_of, classes_in}
use Rattle.jav_scope.specs.declared.source.SourceUnit.{SourceUnit}
use Rattle.jav_names.specs.DottedNames.{Name}
use Rattle.jav_names.specs.LookUps.{class_named}
use Rattle.jav_names.specs.Types.{full_name}
use Rattle.jav_names.specs.UnitViews.{class_of, numbered}
use Rattle.jav_names.specs.Views.{ViewClass}
use Rattle.jav_names.proofs.Lists.{stands-mapped, find-found, find-none}
use Rattle.mol_resolve_rules.proofs.Stands.{from_map, from_numbered, in_numbered}
use Rattle.mol_resolve_classes.specs.headers.Headers.{name_of, first_named}

module _ (sources : List SourceUnit) where
  abbrev entries : List (ℕ × Unit)
  entries = numbered (units_of sources)

  unit-there : (place : ℕ) → slice_get (units_of sources) place
      ≡ option_map (λ (source : SourceUnit). source.unit) (slice_get sources place)
  unit-there place = slice_get-map (λ (source : SourceUnit). source.unit) sources place

  -- the first class of a full name has it
  pub first-is : (name : Name) (first : ℕ) → first_named sources name ≡ Some first
      → (source : SourceUnit) × (slice_get sources first ≡ Some source) × (name_of source ≡ name)
  first-is name first is = by (class_named (classes_in sources) name) refl is where
    at : (unit : Unit) → full_name (class_of (0, unit)) ≡ name → (found : Option SourceUnit) → slice_get sources first ≡ found
        → option_map (λ (source : SourceUnit). source.unit) found ≡ Some unit
        → (source : SourceUnit) × (slice_get sources first ≡ Some source) × (name_of source ≡ name)
    at unit named None there is = absurd cc
    at unit named (Some source) there is =
        (source, there, ap (λ (unit : Unit). full_name (class_of (0, unit))) (same_Some source.unit unit is) ∙ named)

    of_class : (class : ViewClass ℕ) → class_named (classes_in sources) name ≡ Some class → class.key ≡ first
        → (source : SourceUnit) × (slice_get sources first ≡ Some source) × (name_of source ≡ name)
    of_class class found key =
        let stands = find-found (λ (c : ViewClass ℕ). full_name c ≡ name) (λ c. bytes_eq (full_name c) name)
        (λ c. bytes_eq-Decides (full_name c) name) (map class_of entries) class found in
        let entry = from_map class_of entries class stands.0 in
        let place : entry.0.0 ≡ first = ap (λ (c : ViewClass ℕ). c.key) entry.2 ∙ key in
        at entry.0.1 (ap (λ (c : ViewClass ℕ). full_name c) entry.2 ∙ stands.1) (slice_get sources first) refl
        (sym (unit-there first) ∙ ap (slice_get (units_of sources)) (sym place) ∙ from_numbered (units_of sources) entry.0 entry.1)

    by : (found : Option (ViewClass ℕ)) → class_named (classes_in sources) name ≡ found
        → option_map (λ (class : ViewClass ℕ). class.key) found ≡ Some first
        → (source : SourceUnit) × (slice_get sources first ≡ Some source) × (name_of source ≡ name)
    by None found none = absurd cc
    by (Some class) found key = of_class class found (same_Some class.key first key)

  pub first-below : (name : Name) (first : ℕ) → first_named sources name ≡ Some first → first < length sources
  first-below name first is = let known = first-is name first is in slice_get_within sources first known.0 known.1

  -- the full name of the class of a file has a first class
  pub first-there : (place : ℕ) (source : SourceUnit) → slice_get sources place ≡ Some source
      → (first : ℕ) × (first_named sources (name_of source) ≡ Some first)
  first-there place source at = by (class_named (classes_in sources) (name_of source)) refl where
    stands : Contains (map class_of entries) (class_of (place, source.unit))
    stands = stands-mapped class_of entries (place, source.unit) (in_numbered (units_of sources) place source.unit
        (unit-there place ∙ ap (option_map (λ (source : SourceUnit). source.unit)) at))

    by : (found : Option (ViewClass ℕ)) → class_named (classes_in sources) (name_of source) ≡ found
        → (first : ℕ) × (first_named sources (name_of source) ≡ Some first)
    by None none = absurd (All-contains (λ (c : ViewClass ℕ). ¬ (full_name c ≡ name_of source)) (map class_of entries)
        (class_of (place, source.unit))
        (find-none (λ (c : ViewClass ℕ). full_name c ≡ name_of source) (λ c. bytes_eq (full_name c) (name_of source))
        (λ c. bytes_eq-Decides (full_name c) (name_of source)) (map class_of entries) none) stands refl)
    by (Some class) found = (class.key, ap (option_map (λ (class : ViewClass ℕ). class.key)) found)
