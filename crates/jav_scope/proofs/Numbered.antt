-- One more element of a list, with its number.
use Rattle.std.proofs.Common.{◌≡◌, ℕ, ◌+◌, ◌<◌, List, [], ◌∷◌, ◌++◌, length, map, take, get_or, flat_map, filter_map, Option, Some, None, refl, sym, ◌∙◌, ap, arith, append-nil}
use Rattle.std.specs.List.{enumerate_from, cons_option}
use Rattle.std.specs.Option.{option_to_list}
use Rattle.std.proofs.lemmas.List.{take_more, length-take-le, length-map, map-append}
use Rattle.std.proofs.lemmas.List.Concat.{flat_map-append}
use Rattle.std.proofs.lemmas.List.Elements.{filter_map-append}
use Rattle.jav_tree.specs.declared.unit.Unit.{Unit}
use Rattle.jav_names.specs.UnitViews.{numbered}
use Rattle.jav_scope.specs.Entries.{units_of}
use Rattle.jav_scope.specs.declared.source.SourceUnit.{SourceUnit}

enumerate-append : {X : Type 0} (n : ℕ) (xs ys : List X) → enumerate_from n (xs ++ ys)
    ≡ enumerate_from n xs ++ enumerate_from (n + length xs) ys
enumerate-append n [] ys = ap (λ k. enumerate_from k ys) (omega arith)
enumerate-append n (x ∷ xs) ys =
    ap (λ zs. (n, x) ∷ zs)
    (enumerate-append (n + 1) xs ys ∙ ap (λ k. enumerate_from (n + 1) xs ++ enumerate_from k ys) (omega arith))

module _ {X : Type 0} (xs : List X) (i : ℕ) (x : X) (within : i < length xs) (is : x ≡ get_or xs i x) where
  pub one-more : take (i + 1) xs ≡ take i xs ++ x ∷ []
  one-more = take_more xs i x within ∙ ap (λ y. take i xs ++ y ∷ []) (sym is)

  so-many : length (take i xs) ≡ i
  so-many = length-take-le i xs (omega (arith, within))

  pub numbered-more : numbered (take (i + 1) xs) ≡ numbered (take i xs) ++ (i, x) ∷ []
  numbered-more =
      ap numbered one-more ∙ enumerate-append 0 (take i xs) (x ∷ [])
      ∙ ap (λ k. numbered (take i xs) ++ (k, x) ∷ []) (omega (arith, so-many))

  pub mapped-more : {Y : Type 0} (f : ℕ × X → Y) → map f (numbered (take (i + 1) xs)) ≡ map f (numbered (take i xs)) ++ f (i, x) ∷ []
  mapped-more f = ap (map f) numbered-more ∙ map-append f (numbered (take i xs)) ((i, x) ∷ [])

  pub filter_mapped-more : {Y : Type 0} (f : ℕ × X → Option Y)
      → filter_map f (numbered (take (i + 1) xs)) ≡ filter_map f (numbered (take i xs)) ++ option_to_list (f (i, x))
  filter_mapped-more {Y} f =
      ap (filter_map f) numbered-more ∙ filter_map-append f (numbered (take i xs)) ((i, x) ∷ [])
      ∙ ap (λ ys. filter_map f (numbered (take i xs)) ++ ys) (alone (f (i, x))) where
        alone : (o : Option Y) → cons_option o [] ≡ option_to_list o
        alone None = refl
        alone (Some y) = refl

-- and so of source files
module _ (sources : List SourceUnit) (i : ℕ) (source : SourceUnit) (within : i < length sources)
    (is : source ≡ get_or sources i source) where
  units-more : numbered (units_of (take (i + 1) sources)) ≡ numbered (units_of (take i sources)) ++ (i, source.unit) ∷ []
  units-more =
      ap (λ (all : List SourceUnit). numbered (units_of all)) (one-more sources i source within is)
      ∙ ap numbered (map-append (λ (s : SourceUnit). s.unit) (take i sources) (source ∷ []))
      ∙ enumerate-append 0 (units_of (take i sources)) (source.unit ∷ [])
      ∙ ap (λ k. numbered (units_of (take i sources)) ++ (k, source.unit) ∷ [])
      (omega (arith, length-map (take i sources) (λ (s : SourceUnit). s.unit), so-many sources i source within is))

  pub units-mapped-more : {Y : Type 0} (f : ℕ × Unit → Y)
      → map f (numbered (units_of (take (i + 1) sources))) ≡ map f (numbered (units_of (take i sources))) ++ f (i, source.unit) ∷ []
  units-mapped-more f = ap (map f) units-more ∙ map-append f (numbered (units_of (take i sources))) ((i, source.unit) ∷ [])

  pub units-flat_mapped-more : {Y : Type 0} (f : ℕ × Unit → List Y)
      → flat_map f (numbered (units_of (take (i + 1) sources))) ≡ flat_map f (numbered (units_of (take i sources))) ++ f (i, source.unit)
  units-flat_mapped-more f =
      ap (flat_map f) units-more ∙ flat_map-append f (numbered (units_of (take i sources))) ((i, source.unit) ∷ [])
      ∙ ap (λ ys. flat_map f (numbered (units_of (take i sources))) ++ ys) (append-nil (f (i, source.unit)))
