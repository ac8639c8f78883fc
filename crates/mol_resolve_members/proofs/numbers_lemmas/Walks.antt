-- Going up from a class step by step is its way, where each class that is met is marked.
use Rattle.std.proofs.Common.{◌≡◌, ◌≢◌, ℕ, suc, ◌<◌, ◌==◌, Bool, true, false, ◌||◌, if◌then◌else◌, List, [], ◌∷◌, ◌++◌, All, length, get_or, set, reverse, Option, Some, None, refl, sym, ◌∙◌, ap, subst, arith, append_assoc, true≢false, eqb-true, eq-eqb}
use Rattle.std.proofs.lemmas.Bool.{false_from_ne_true}
use Rattle.std.proofs.lemmas.List.{get_or-set_same, get_or-set_other, length-map, length-set, reverse-append}
use Rattle.std.proofs.lemmas.List.Elements.{All-set}
use Rattle.std.proofs.lemmas.List.FromFn.{length-enumerate_from}
use Rattle.jav_names.specs.LookUps.{class_above, is_met, unmet, each_above, way_from, way}
use Rattle.jav_names.specs.UnitViews.{MemberKey, class_of, numbered}
use Rattle.jav_names.specs.Views.{View, IsOrdered}
use Rattle.jav_names.proofs.Lists.{Decides-fails}
use Rattle.jav_names.proofs.UnitsViewed.{units_viewed}
use Rattle.jav_names.proofs.Ways.{same_key as keys-decide, class_above-is}
use Rattle.jav_scope.specs.Entries.{units_of, view_in}
use Rattle.jav_scope.specs.declared.source.SourceUnit.{SourceUnit}
use Rattle.jav_scope.proofs.ascent_lemmas.ClassNumbers.{class-below}
use Rattle.mol_resolve_members.specs.numbers.Marks.{unmarked}

-- What is known on the way up from a class, where so many steps are left: the classes met are marked, as none was before.
pub record Walks (sources : List SourceUnit) (class walk : ℕ) (old : List ℕ) (left : ℕ) (way met : List ℕ) (at : ℕ) : Type 0 where
  pub size : length met ≡ length sources
  pub within : at < length sources
  pub on : way_from (length sources) (view_in sources) [] class ≡ way ++ way_from left (view_in sources) (reverse way) at
  pub marks : (k : ℕ) → k < length sources → (get_or met k 0 == walk) ≡ is_met (view_in sources).classes (reverse way) k
  pub unmet : (later : ℕ) → later ≢ walk → All (λ mark. mark ≢ later) old → All (λ mark. mark ≢ later) met

module _ (sources : List SourceUnit) where
  abbrev view : View ℕ MemberKey
  view = view_in sources

  ordered : IsOrdered view
  ordered = units_viewed.ordered (units_of sources)

  pub classes-counted : length view.classes.items ≡ length sources
  classes-counted = length-map (numbered (units_of sources)) class_of ∙ length-enumerate_from 0 (units_of sources)
      ∙ length-map sources (λ (source : SourceUnit). source.unit)

  pub above-below : (class above : ℕ) → class_above view class ≡ Some above → above < length sources
  above-below class above is = class-below sources above (class_above-is view ordered.classes class above is).stands

  -- ---- the next class

  module _ (met : List ℕ) (walk : ℕ) (classes : List ℕ)
      (marks : (k : ℕ) → k < length sources → (get_or met k 0 == walk) ≡ is_met view.classes classes k) where
    pub next-is : (class : ℕ) → unmarked met walk (class_above view class) ≡ unmet view.classes classes (class_above view class)
    next-is class = by (class_above view class) refl where
      by : (o : Option ℕ) → class_above view class ≡ o → unmarked met walk o ≡ unmet view.classes classes o
      by None is = refl
      by (Some above) is = rw (marks above (above-below class above is)) refl

  module _ (class walk left : ℕ) (old way met : List ℕ) (at : ℕ) (walks : Walks sources class walk old (suc left) way met at) where
    abbrev marked : List ℕ
    marked = set met at walk

    abbrev longer : List ℕ
    longer = way ++ at ∷ []

    pub marked-size : length marked ≡ length sources
    marked-size = length-set met at walk ∙ walks.size

    met-is : reverse longer ≡ at ∷ reverse way
    met-is = reverse-append way (at ∷ [])

    marks-at : (k : ℕ) → k < length sources → (get_or marked k 0 == walk) ≡ is_met view.classes (at ∷ reverse way) k
    marks-at k below = by (k == at) refl where
      by : (b : Bool) → (k == at) ≡ b → (get_or marked k 0 == walk) ≡ is_met view.classes (at ∷ reverse way) k
      by true same =
          let is : k ≡ at = eqb-true k at same in
          let here : (get_or marked at 0 == walk) ≡ true =
          eq-eqb (get_or marked at 0) walk (get_or-set_same met at walk 0 (omega (arith, walks.within, walks.size))) in
          ap (λ k. get_or marked k 0 == walk) is ∙ here
          ∙ sym (ap (λ b. b || is_met view.classes (reverse way) k) ((keys-decide ordered.classes.order at k).1 (sym is)))
      by false apart =
          let differs : k ≢ at = λ same. true≢false (sym (eq-eqb k at same) ∙ apart) in
          ap (λ mark. mark == walk) (get_or-set_other met at k walk 0 differs) ∙ walks.marks k below
          ∙ sym (ap (λ b. b || is_met view.classes (reverse way) k)
          (Decides-fails (keys-decide ordered.classes.order at k) (λ same. differs (sym same))))

    pub next : (o : Option ℕ) → o ≡ unmarked marked walk (class_above view at)
        → way_from (length sources) view [] class
        ≡ way ++ at ∷ each_above o (λ above. way_from left view (at ∷ reverse way) above)
    next o is =
        walks.on ∙ ap (λ o. way ++ at ∷ each_above o (λ above. way_from left view (at ∷ reverse way) above))
        (sym (is ∙ next-is marked walk (at ∷ reverse way) marks-at at))

    pub unmet-after : (later : ℕ) → later ≢ walk → All (λ mark. mark ≢ later) old → All (λ mark. mark ≢ later) marked
    unmet-after later differs before =
        All-set (λ mark. mark ≢ later) met at walk (λ same. differs (sym same)) (walks.unmet later differs before)

    pub goes_on : (above : ℕ) → Some above ≡ unmarked marked walk (class_above view at)
        → Walks sources class walk old left longer marked above
    goes_on above is = record {
      size = marked-size;
      within = inside (class_above view at) refl is;
      on = next (Some above) is
          ∙ sym (append_assoc way (at ∷ []) (way_from left view (at ∷ reverse way) above))
          ∙ ap (λ met. longer ++ way_from left view met above) (sym met-is);
      marks = λ k below. marks-at k below ∙ ap (λ met. is_met view.classes met k) (sym met-is);
      unmet = unmet-after;
    } where
      inside : (o : Option ℕ) → class_above view at ≡ o → Some above ≡ unmarked marked walk o → above < length sources
      inside None there some = absurd cc
      inside (Some class) there some = by (get_or marked class 0 == walk) some where
        by : (b : Bool) → Some above ≡ (if b then None else Some class) → above < length sources
        by true some = absurd cc
        by false some =
            let same : above ≡ class = cc in
            subst (λ c. c < length sources) (sym same) (above-below at class there)

  pub begins : (class walk : ℕ) (old : List ℕ) → length old ≡ length sources → class < length sources
      → All (λ mark. mark ≢ walk) old → Walks sources class walk old (length sources) [] old class
  begins class walk old size inside none = record {
    size = size;
    within = inside;
    on = refl;
    marks = λ k below. false_from_ne_true (get_or old k 0 == walk)
        (λ same. none k 0 (omega (arith, below, size)) (eqb-true (get_or old k 0) walk same));
    unmet = λ later differs before. before;
  }

  pub way-whole : (class : ℕ) → way_from (length sources) view [] class ≡ way view class
  way-whole class = ap (λ steps. way_from steps view [] class) (sym classes-counted)
