-- What is kept of each file, at the place of one of them.
use Rattle.std.proofs.Common.{◌≡◌, ℕ, zero, suc, ◌+◌, ◌<◌, Bool, List, [], ◌∷◌, map, length, get_or, Some, slice_get, sym, ◌∙◌, ap, subst, arith}
use Rattle.std.specs.List.{enumerate_from, range_with_len}
use Rattle.std.proofs.lemmas.Option.{same_Some}
use Rattle.jav_scope.specs.Entries.{view_in}
use Rattle.jav_scope.specs.declared.source.SourceUnit.{SourceUnit}
use Rattle.jav_names.specs.LookUps.{is_in_circle}
use Rattle.jav_names.specs.UnitViews.{MemberKey}
use Rattle.jav_names.specs.Views.{View}
use Rattle.mol_resolve_classes.specs.headers.Headers.{fails, failing}
use Rattle.mol_resolve_members.proofs.sources_lemmas.Sourced.{sources_viewed}
use Rattle.mol_resolve_rules.specs.FaultKinds.{FaultKind, duplicate_class, package_is_class, super_cycle}
use Rattle.mol_resolve_classes.specs.header_faults.FaultyClasses.{AreFaulty}

-- what a list has at a place
abbrev pub HasAt : List Bool → ℕ → Bool → Type 0
HasAt marks place mark = (place < length marks) × ((d : Bool) → get_or marks place d ≡ mark)

numbered-at : {X : Type 0} (f : ℕ × X → Bool) (n : ℕ) (xs : List X) (k : ℕ) (x : X) → slice_get xs k ≡ Some x
    → HasAt (map f (enumerate_from n xs)) k (f (n + k, x))
numbered-at f n [] k x is = absurd cc
numbered-at f n (y ∷ xs) zero x is =
    (omega arith, λ d. ap (λ z. f (n, z)) (same_Some y x is) ∙ ap {B = Bool} (λ (i : ℕ). f (i, x)) (omega arith))
numbered-at f n (y ∷ xs) (suc k) x is =
    let rest = numbered-at f (n + 1) xs k x is in
    (omega (arith, rest.0), λ d. rest.1 d ∙ ap {B = Bool} (λ (i : ℕ). f (i, x)) (omega arith))

counted-at : {X : Type 0} (f : ℕ → Bool) (n : ℕ) (xs : List X) (k : ℕ) (x : X) → slice_get xs k ≡ Some x
    → HasAt (map f (range_with_len n (length xs))) k (f (n + k))
counted-at f n [] k x is = absurd cc
counted-at f n (y ∷ xs) zero x is = (omega arith, λ d. ap {B = Bool} f (omega arith))
counted-at f n (y ∷ xs) (suc k) x is =
    let rest = counted-at f (n + 1) xs k x is in
    (omega (arith, rest.0), λ d. rest.1 d ∙ ap {B = Bool} f (omega arith))

module _ (sources : List SourceUnit) (place : ℕ) (source : SourceUnit) (there : slice_get sources place ≡ Some source) where
  failing-at : (kind : FaultKind) → HasAt (failing kind sources) place (fails sources kind (place, source))
  failing-at kind = subst (λ (k : ℕ). HasAt (failing kind sources) place (fails sources kind (k, source))) (omega arith)
      (numbered-at (fails sources kind) 0 sources place source there)

  every-at : (f : ℕ → Bool) → HasAt (map f (range_with_len 0 (length sources))) place (f place)
  every-at f = subst (λ (k : ℕ). HasAt (map f (range_with_len 0 (length sources))) place (f k)) (omega arith)
      (counted-at f 0 sources place source there)

  -- as they are kept
  module _ (kept : List SourceUnit) (same : kept ≡ sources) (doubles packages circles : List Bool)
      (faulty : AreFaulty kept doubles packages circles) where
    pub doubles-at : HasAt doubles place (fails sources duplicate_class (place, source))
    doubles-at = subst (λ (marks : List Bool). HasAt marks place (fails sources duplicate_class (place, source)))
        (sym (faulty.doubles_are ∙ ap (failing duplicate_class) same)) (failing-at duplicate_class)

    pub packages-at : HasAt packages place (fails sources package_is_class (place, source))
    packages-at = subst (λ (marks : List Bool). HasAt marks place (fails sources package_is_class (place, source)))
        (sym (faulty.packages_are ∙ ap (failing package_is_class) same)) (failing-at package_is_class)

    pub circles-at : HasAt circles place (fails sources super_cycle (place, source))
    circles-at = subst (λ (view : View ℕ MemberKey). HasAt circles place (is_in_circle view place)) (sym (sources_viewed.same_view sources))
        (subst (λ (marks : List Bool). HasAt marks place (is_in_circle (view_in sources) place))
        (sym (faulty.circles_are
        ∙ ap (λ (all : List SourceUnit). map (is_in_circle (view_in all)) (range_with_len 0 (length all))) same))
        (every-at (is_in_circle (view_in sources))))
