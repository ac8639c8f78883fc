-- One step up, and how many classes there are.
use Rattle.std.proofs.Common.{◌≡◌, ◌≢◌, ℕ, zero, suc, ◌<◌, ◌-◌, false, List, [], ◌∷◌, map, length, Option, Some, None, refl, sym, ◌∙◌, ap, arith, nat_cmp}
use Rattle.std.specs.Ordering.{is_eq}
use Rattle.std.proofs.lemmas.List.{length-map}
use Rattle.std.proofs.lemmas.List.FromFn.{length-enumerate_from}
use Rattle.jav_names.specs.UnitViews.{class_of, numbered}
use Rattle.jav_names.specs.Views.{View}
use Rattle.jav_names.proofs.Lists.{Decides-fails}
use Rattle.jav_names.proofs.UnitsOrdered.{nat_cmp-IsKeyOrder}
use Rattle.jav_names.proofs.Ways.{same_key}
use Rattle.jav_scope.specs.Entries.{units_of, classes_in}
use Rattle.jav_scope.specs.declared.source.SourceUnit.{SourceUnit}
use Rattle.jav_scope.specs.ancestors.Steps.{next_up, and_on, steps_up}

module _ {M : Type 0} (view : View ℕ M) (from at : ℕ) where
  pub stepped : (n next : ℕ) → 0 < n → Some next ≡ next_up view from at
      → steps_up n view from at ≡ next ∷ steps_up (n - 1) view from next
  stepped zero next some is = absurd (omega (arith, some))
  stepped (suc n) next some is = ap (λ o. and_on o (steps_up n view from)) (sym is)
      ∙ ap (λ k. next ∷ steps_up k view from next) (let less : n ≡ suc n - 1 = omega arith in less)

  pub ended : (n : ℕ) → 0 < n → None ≡ next_up view from at → steps_up n view from at ≡ []
  ended zero some is = absurd (omega (arith, some))
  ended (suc n) some is = ap (λ o. and_on o (steps_up n view from)) (sym is)

pub many-classes : (sources : List SourceUnit) → length (classes_in sources).items ≡ length sources
many-classes sources = length-map (numbered (units_of sources)) class_of
    ∙ length-enumerate_from 0 (units_of sources) ∙ length-map sources (λ (s : SourceUnit). s.unit)

pub apart : (a b : ℕ) → a ≢ b → is_eq (nat_cmp a b) ≡ false
apart a b differ = Decides-fails (same_key nat_cmp-IsKeyOrder a b) differ
