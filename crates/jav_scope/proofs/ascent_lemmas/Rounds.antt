-- Places that many steps lead to are those from which steps lead back; and so are classes in circles.
use Rattle.std.proofs.Common.{◌≡◌, ◌⊎◌, inl, inr, ℕ, zero, suc, ◌+◌, ◌-◌, ◌*◌, ◌<◌, ◌≤◌, ◌==◌, Bool, false, List, [], ◌∷◌, ◌++◌, All, map, length, get_or, slice_index, Option, Some, None, Contains, refl, sym, ◌∙◌, ap, subst, arith, mul-suc, add_comm}
use Rattle.std.specs.Bool.{Decides}
use Rattle.std.specs.List.{list_any, range_with_len}
use Rattle.std.specs.Prelude.{unwrap_or}
use Rattle.std.proofs.lemmas.Bool.{cases_lt}
use Rattle.std.proofs.lemmas.Bool.Decides.{Decides-eqb, same_from_decides}
use Rattle.std.proofs.lemmas.List.{get_or_append_left, get_or_push, length_push}
use Rattle.std.proofs.lemmas.List.FromFn.{fill_by_all, get_or-map-range_with_len, length-map-range_with_len}
use Rattle.jav_names.specs.Ancestors.{Extends, HasClass, Leads}
use Rattle.jav_names.specs.LookUps.{class_above, is_in_circle}
use Rattle.jav_names.specs.UnitViews.{MemberKey}
use Rattle.jav_names.specs.Views.{AreOrdered, View}
use Rattle.jav_names.proofs.AncestorsFound.{ancestors_known}
use Rattle.jav_names.proofs.Lists.{list_any-decides}
use Rattle.jav_names.proofs.Ways.{class_above-is, is-class_above}
use Rattle.jav_scope.specs.ascent.Circles.{link_up, AreReached}
use Rattle.jav_scope.specs.ascent.Walked.{walked, LeadsFar}
use Rattle.jav_scope.proofs.ascent_lemmas.Crossing.{Meets, meets}
use Rattle.jav_scope.proofs.ascent_lemmas.Walks.{walked-more, walked-exchange, walked-rounds, walked-within}

-- ---- places

module _ (links : List ℕ) (within : All (λ link. link < length links) links) where
  -- steps, one or more, lead back to it
  abbrev pub ComesBack : ℕ → Type 0
  ComesBack place = (steps : ℕ) × (walked links (suc steps) place ≡ place)

  -- as many steps as there are places, or more, lead to a place to which steps lead back
  pub comes_back : (steps from : ℕ) → length links ≤ steps → from < length links → ComesBack (walked links steps from)
  comes_back steps from enough below =
      by (meets (λ i. walked links i from) (length links) (λ i up. walked-within links within i from below)) where
        by : Meets (λ i. walked links i from) (length links) → ComesBack (walked links steps from)
        by twice =
            let round : ℕ = twice.second - twice.first in
            let rest : ℕ = steps - twice.first in
            let crossed = walked links twice.first from in
            let whole : steps ≡ rest + twice.first = omega (arith, twice.ordered, twice.within, enough) in
            let at : walked links steps from ≡ walked links rest crossed
            = ap (λ k. walked links k from) whole ∙ walked-more links rest twice.first from in
            let back : walked links round crossed ≡ crossed =
            sym (walked-more links round twice.first from)
            ∙ ap (λ k. walked links k from) (let e : round + twice.first ≡ twice.second = omega (arith, twice.ordered) in e)
            ∙ sym twice.same in
            let one : suc (round - 1) ≡ round = omega (arith, twice.ordered) in (
              round - 1,
              ap (walked links (suc (round - 1))) at ∙ ap (λ k. walked links k (walked links rest crossed)) one
                  ∙ walked-exchange links round rest crossed ∙ ap (walked links rest) back ∙ sym at,
            )

  -- and to each such place so many steps lead from some place
  pub led_to : (steps place : ℕ) → place < length links → ComesBack place
      → (from : ℕ) × (from < length links) × (walked links steps from ≡ place)
  led_to steps place below (round, back) = (
    walked links (steps * round) place,
    walked-within links within (steps * round) place below,
    sym (walked-more links steps (steps * round) place)
        ∙ ap (λ k. walked links k place) (add_comm steps (steps * round) ∙ sym (mul-suc steps round))
        ∙ walked-rounds links (suc round) place back steps,
  )

-- ---- classes

module _ (view : View ℕ MemberKey) (ordered : AreOrdered view.classes) (count : ℕ)
    (numbers : (class : ℕ) → HasClass view.classes class → class < count)
    (known : (class above : ℕ) → Extends view class above → class < count)
    (links : List ℕ) (are : links ≡ map (link_up view count) (range_with_len 0 count) ++ count ∷ []) where
  abbrev ups : List ℕ
  ups = map (link_up view count) (range_with_len 0 count)

  many : length ups ≡ count
  many = length-map-range_with_len (link_up view count) 0 count

  pub as_long : length links ≡ count + 1
  as_long = ap length are ∙ length_push ups count ∙ ap (λ n. n + 1) many

  link-of : (class d : ℕ) → class < count → get_or links class d ≡ link_up view count class
  link-of class d below =
      ap (λ all. get_or all class d) are ∙ get_or_append_left ups (count ∷ []) d class (omega (arith, below, many))
      ∙ get_or-map-range_with_len (link_up view count) 0 count class class d below (omega arith)

  last-link : (d : ℕ) → get_or links count d ≡ count
  last-link d = ap (λ all. get_or all count d) are ∙ get_or_push ups count d count many

  up-within : (class : ℕ) → link_up view count class < count + 1
  up-within class = by (class_above view class) refl where
    by : (o : Option ℕ) → class_above view class ≡ o → unwrap_or o count < count + 1
    by None is = omega arith
    by (Some above) is = let below = numbers above (class_above-is view ordered class above is).stands in omega (arith, below)

  pub links-within : All (λ link. link < length links) links
  links-within = λ place d below. by place d (omega (arith, below, as_long)) (cases_lt place count) where
    by : (place d : ℕ) → place < count + 1 → (place < count) ⊎ (count ≤ place) → get_or links place d < length links
    by place d below (inl class) = omega (arith, link-of place d class, up-within place, as_long)
    by place d below (inr last) =
        let same : place ≡ count = omega (arith, below, last) in
        omega (arith, ap (λ k. get_or links k d) same ∙ last-link d, as_long)

  one_up : (class above : ℕ) → Extends view class above → slice_index links class ≡ above
  one_up class above extends =
      link-of class 0 (known class above extends) ∙ ap (λ o. unwrap_or o count) (is-class_above view ordered class above extends)

  -- what a step to a class is
  stepped : (class : ℕ) → class < count + 1 → slice_index links class < count → Extends view class (slice_index links class)
  stepped class inside below = at (cases_lt class count) where
    by : (o : Option ℕ) → class_above view class ≡ o → slice_index links class ≡ unwrap_or o count
        → Extends view class (slice_index links class)
    by None none is = absurd (omega (arith, is, below))
    by (Some above) found is = subst (Extends view class) (sym is) (class_above-is view ordered class above found)

    at : (class < count) ⊎ (count ≤ class) → Extends view class (slice_index links class)
    at (inl first) = by (class_above view class) refl (link-of class 0 first)
    at (inr last) =
        let same : class ≡ count = omega (arith, inside, last) in
        absurd (omega (arith, below, ap (slice_index links) same ∙ last-link 0))

  -- steps lead to each class above
  leads-walked : (class top : ℕ) → Leads view class top → (steps : ℕ) × (walked links (suc steps) class ≡ top)
  leads-walked class top (Leads.last_step extends) = (zero, one_up class top extends)
  leads-walked class top (Leads.step {above = above} extends leads) =
      let rest = leads-walked above top leads in (
        suc rest.0,
        ap (λ k. walked links k class) (let e : suc (suc rest.0) ≡ suc rest.0 + 1 = omega arith in e)
            ∙ walked-more links (suc rest.0) 1 class ∙ ap (walked links (suc rest.0)) (one_up class above extends) ∙ rest.1,
      )

  leads_on : (class next top : ℕ) → Leads view class next → Extends view next top → Leads view class top
  leads_on class next top (Leads.last_step extends) last = Leads.step extends (Leads.last_step last)
  leads_on class next top (Leads.step {above = above} extends leads) last = Leads.step extends (leads_on above next top leads last)

  -- and where they lead to a class, it is above
  walked-leads : (steps class : ℕ) → class < count + 1 → walked links (suc steps) class < count
      → Leads view class (walked links (suc steps) class)
  walked-leads zero class inside below = Leads.last_step (stepped class inside below)
  walked-leads (suc steps) class inside below =
      by (cases_lt (walked links (suc steps) class) count) (walked-leads steps class inside) where
        before : walked links (suc steps) class < count + 1
        before = omega (arith, walked-within links links-within (suc steps) class (omega (arith, inside, as_long)), as_long)

        by : (walked links (suc steps) class < count) ⊎ (count ≤ walked links (suc steps) class)
            → (walked links (suc steps) class < count → Leads view class (walked links (suc steps) class))
            → Leads view class (walked links (suc (suc steps)) class)
        by (inl first) leads = leads_on class (walked links (suc steps) class) (walked links (suc (suc steps)) class)
            (leads first) (stepped (walked links (suc steps) class) before below)
        by (inr last) leads =
            let same : walked links (suc steps) class ≡ count = omega (arith, before, last) in
            absurd (omega (arith, below, ap (slice_index links) same ∙ last-link 0))

  -- ---- circles

  back-decides : (class : ℕ) → class < count → Decides (is_in_circle view class) (ComesBack links links-within class)
  back-decides class below = (
    λ is. leads-walked class class (circle.0 is),
    λ back. circle.1 (subst (Leads view class) back.1
        (walked-leads back.0 class (omega (arith, below)) (omega (arith, below, back.1)))),
  ) where
    circle : Decides (is_in_circle view class) (Leads view class class)
    circle = (ancestors_known ℕ MemberKey).circles view class ordered

  module _ (far : List ℕ) (leads : LeadsFar links far) where
    at_far : (from d : ℕ) → from < length links → get_or far from d ≡ walked links leads.steps from
    at_far from d below =
        ap (λ all. get_or all from d) leads.places
        ∙ get_or-map-range_with_len (walked links leads.steps) 0 (length links) from from d below (omega arith)

    far-long : length far ≡ length links
    far-long = ap length leads.places ∙ length-map-range_with_len (walked links leads.steps) 0 (length links)

    reached-decides : (class : ℕ) → class < count → Decides (list_any (λ place. place == class) far) (ComesBack links links-within class)
    reached-decides class below = (λ is. to (any.0 is), λ back. any.1 (from back)) where
      any : Decides (list_any (λ place. place == class) far) ((place : ℕ) × Contains far place × (place ≡ class))
      any = list_any-decides (λ place. place ≡ class) (λ place. place == class) (λ place. Decides-eqb place class) far

      to : (place : ℕ) × Contains far place × (place ≡ class) → ComesBack links links-within class
      to some =
          let inside : some.1.0 < length links = omega (arith, some.1.1, far-long) in
          subst (ComesBack links links-within) (sym (at_far some.1.0 some.0 inside) ∙ some.1.2 ∙ some.2)
          (comes_back links links-within leads.steps some.1.0 leads.enough inside)

      from : ComesBack links links-within class → (place : ℕ) × Contains far place × (place ≡ class)
      from back =
          let start = led_to links links-within leads.steps class (omega (arith, below, as_long)) back in
          (class, (start.0, omega (arith, start.1, far-long), at_far start.0 class start.1 ∙ start.2), refl)

    pub circles-are : (reached : List Bool) → AreReached far count reached → reached ≡ map (is_in_circle view) (range_with_len 0 count)
    circles-are reached marks = fill_by_all (is_in_circle view) reached count false marks.size
        (λ class below. marks.marks class below
        ∙ same_from_decides (list_any (λ place. place == class) far) (is_in_circle view class) (reached-decides class below)
        (back-decides class below))
