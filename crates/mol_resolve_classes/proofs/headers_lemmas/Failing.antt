-- Which files have a fault, from marks.
use Rattle.std.proofs.Common.{◌≡◌, ℕ, zero, suc, ◌+◌, Bool, false, List, [], ◌∷◌, map, length, get_or, Some, slice_get, refl, ◌∙◌, ap, arith}
use Rattle.std.specs.List.{enumerate_from}
use Rattle.std.proofs.lemmas.Option.{slice_get_within}
use Rattle.jav_names.specs.UnitViews.{numbered}
use Rattle.jav_scope.specs.declared.source.SourceUnit.{SourceUnit}
use Rattle.mol_resolve_rules.specs.FaultKinds.{duplicate_class}
use Rattle.mol_resolve_classes.specs.headers.Doubles.{shows_double}
use Rattle.mol_resolve_classes.specs.headers.Marks.{Marked}
use Rattle.mol_resolve_classes.specs.headers.Headers.{fails, failing}
use Rattle.mol_resolve_classes.proofs.headers_lemmas.DoublesFound.{double-is}

-- marks that are each what a function of the number and the element gives
each-failing : {X : Type 0} (f : ℕ × X → Bool) (n : ℕ) (xs : List X) (marks : List Bool) → length marks ≡ length xs
    → ((k : ℕ) (x : X) → slice_get xs k ≡ Some x → get_or marks k false ≡ f (n + k, x)) → marks ≡ map f (enumerate_from n xs)
each-failing f n [] [] size each = refl
each-failing f n [] (mark ∷ marks) size each = absurd (omega (arith, size))
each-failing f n (x ∷ xs) [] size each = absurd (omega (arith, size))
each-failing {X} f n (x ∷ xs) (mark ∷ marks) size each =
    let first : mark ≡ f (n, x) = each zero x refl ∙ ap {B = Bool} (λ (k : ℕ). f (k, x)) (omega arith) in
    let rest : marks ≡ map f (enumerate_from (n + 1) xs) =
    each-failing f (n + 1) xs marks (omega (arith, size))
    (λ (k : ℕ) (y : X) at. each (suc k) y at ∙ ap {B = Bool} (λ (i : ℕ). f (i, y)) (omega arith)) in
    λ i. first i ∷ rest i

module _ (sources : List SourceUnit) (marks : List Bool) (size : length marks ≡ length sources) where
  pub doubles-failing : Marked (shows_double sources) (numbered sources) marks → marks ≡ failing duplicate_class sources
  doubles-failing marked =
      each-failing (fails sources duplicate_class) 0 sources marks size
      (λ number source at. marked number (omega (arith, slice_get_within sources number source at, size))
      ∙ double-is sources number source at ∙ ap (λ k. fails sources duplicate_class (k, source)) (omega arith))
