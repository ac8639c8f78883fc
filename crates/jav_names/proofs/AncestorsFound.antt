-- The ancestors of a class: what their function says, that they are classes of the view, and what going up leads to.
use Rattle.std.proofs.Common.{◌≡◌, ◌≢◌, ◌⊎◌, inl, inr, ℕ, zero, suc, Bool, true, false, Option, Some, None, List, [], ◌∷◌, ◌++◌, drop, length, Contains, refl, sym, ◌∙◌, ap, subst, true≢false}
use Rattle.std.specs.Bool.{Decides}
use Rattle.std.specs.Option.{option_map_or}
use Rattle.std.specs.Ordering.{is_eq}
use Rattle.jav_names.specs.Ancestors.{HasClass, Extends, Follows, Way, IsAncestor, Leads, HasNoCircle}
use Rattle.jav_names.specs.LookUps.{class_above, is_met, way_from, way, ancestors, is_ancestor, is_above, is_in_circle}
use Rattle.jav_names.specs.Standing.{AncestorsKnown}
use Rattle.jav_names.specs.Views.{AreOrdered, View}
use Rattle.jav_names.proofs.Lists.{stands_first, stands_later, stands_where, stands_nowhere, list_any-decides}
use Rattle.jav_names.proofs.Ways.{same_key, is_met-decides, class_above-is, is-class_above, one_above, way-is, one_way}

module _ {C M : Type 0} (view : View C M) where
  -- ---- the parts of a way

  -- it begins with its class
  way_from-first : (steps : ℕ) (met : List C) (class : C) → way_from steps view met class ≡ class ∷ drop 1 (way_from steps view met class)
  way_from-first zero met class = refl
  way_from-first (suc steps) met class = refl

  way-ancestors : (class : C) → way view class ≡ class ∷ ancestors view class
  way-ancestors class = way_from-first (length view.classes.items) [] class

  pub follows-first : {met : List C} {class : C} {classes : List C} → Follows view met class classes
      → (rest : List C) × (classes ≡ class ∷ rest)
  follows-first (Follows.up {way = above_it} extends new more) = (above_it, refl)
  follows-first (Follows.end ends) = ([], refl)

  -- a step up, and the way from there, where something stands after its class
  next_up : {met : List C} {class : C} {classes rest : List C} (above : C) → Follows view met class classes → classes ≡ class ∷ rest
      → Contains rest above
      → (next : C) × Extends view class next × (¬ Contains (class ∷ met) next) × Follows view (class ∷ met) next rest
  next_up above (Follows.up {met = met} {class = class} {above = next} extends new more) is stands =
      (next, extends, new, subst (Follows view (class ∷ met) next) (ap (drop 1) is) more)
  next_up above (Follows.end ends) is stands =
      absurd (stands_nowhere above (subst (λ classes. Contains classes above) (sym (ap (drop 1) is)) stands))

  -- ---- what stands on it

  -- each class on it but for the first is one of the view
  follows-stand : {met : List C} {class : C} {classes : List C} → Follows view met class classes → (x : C) → Contains classes x
      → (class ≡ x) ⊎ HasClass view.classes x
  follows-stand (Follows.up {way = above_it} {class = class} {above = above} extends new more) x stands =
      by_place (stands_where class x above_it stands) (follows-stand more x) where
        by_later : (above ≡ x) ⊎ HasClass view.classes x → (class ≡ x) ⊎ HasClass view.classes x
        by_later (inl same) = inr (subst (HasClass view.classes) same extends.stands)
        by_later (inr has) = inr has

        by_place : (class ≡ x) ⊎ Contains above_it x → (Contains above_it x → (above ≡ x) ⊎ HasClass view.classes x)
            → (class ≡ x) ⊎ HasClass view.classes x
        by_place (inl same) rest = inl same
        by_place (inr later) rest = by_later (rest later)
  follows-stand (Follows.end {class = class} ends) x stands = by_place (stands_where class x [] stands) where
    by_place : (class ≡ x) ⊎ Contains [] x → (class ≡ x) ⊎ HasClass view.classes x
    by_place (inl same) = inl same
    by_place (inr later) = absurd (stands_nowhere x later)

  -- no class on it was met before
  follows-new : {met : List C} {class : C} {classes : List C} → Follows view met class classes → ¬ Contains met class → (x : C)
      → Contains classes x
      → ¬ Contains met x
  follows-new (Follows.up {met = met} {way = above_it} {class = class} extends new more) first x stands =
      by_place (stands_where class x above_it stands) (follows-new more new x) where
        by_place : (class ≡ x) ⊎ Contains above_it x → (Contains above_it x → ¬ Contains (class ∷ met) x) → ¬ Contains met x
        by_place (inl same) rest = subst (λ c. ¬ Contains met c) same first
        by_place (inr later) rest = λ before. rest later (stands_later class x met before)
  follows-new (Follows.end {met = met} {class = class} ends) first x stands = by_place (stands_where class x [] stands) where
    by_place : (class ≡ x) ⊎ Contains [] x → ¬ Contains met x
    by_place (inl same) = subst (λ c. ¬ Contains met c) same first
    by_place (inr later) = absurd (stands_nowhere x later)

  -- going up leads to each class on it
  follows-leads : {met : List C} {class : C} {classes : List C} → Follows view met class classes → (x : C) → Contains classes x
      → (class ≡ x) ⊎ Leads view class x
  follows-leads (Follows.up {way = above_it} {class = class} {above = above} extends new more) x stands =
      by_place (stands_where class x above_it stands) (follows-leads more x) where
        by_later : (above ≡ x) ⊎ Leads view above x → (class ≡ x) ⊎ Leads view class x
        by_later (inl same) = inr (Leads.last_step (subst (Extends view class) same extends))
        by_later (inr leads) = inr (Leads.step extends leads)

        by_place : (class ≡ x) ⊎ Contains above_it x → (Contains above_it x → (above ≡ x) ⊎ Leads view above x)
            → (class ≡ x) ⊎ Leads view class x
        by_place (inl same) rest = inl same
        by_place (inr later) rest = by_later (rest later)
  follows-leads (Follows.end {class = class} ends) x stands = by_place (stands_where class x [] stands) where
    by_place : (class ≡ x) ⊎ Contains [] x → (class ≡ x) ⊎ Leads view class x
    by_place (inl same) = inl same
    by_place (inr later) = absurd (stands_nowhere x later)

  -- ---- ancestors

  pub ancestors-stand : (class above : C) → IsAncestor view class above → HasClass view.classes above
  ancestors-stand class above is =
      let up = next_up above is.way refl is.met in
      by_place up.0 up.1 (follows-stand up.3 above is.met) where
        by_place : (next : C) → Extends view class next → (next ≡ above) ⊎ HasClass view.classes above → HasClass view.classes above
        by_place next extends (inl same) = subst (HasClass view.classes) same extends.stands
        by_place next extends (inr has) = has

  pub ancestors-never_itself : (class : C) → ¬ IsAncestor view class class
  ancestors-never_itself class is =
      let up = next_up class is.way refl is.met in
      follows-new up.3 up.2 class is.met (stands_first class [])

  pub ancestors-led_to : (class above : C) → IsAncestor view class above → Leads view class above
  ancestors-led_to class above is =
      let up = next_up above is.way refl is.met in
      by_place up.0 up.1 (follows-leads up.3 above is.met) where
        by_place : (next : C) → Extends view class next → (next ≡ above) ⊎ Leads view next above → Leads view class above
        by_place next extends (inl same) = Leads.last_step (subst (Extends view class) same extends)
        by_place next extends (inr leads) = Leads.step extends leads

module _ {C M : Type 0} (view : View C M) (ordered : AreOrdered view.classes) where
  -- what the superclass of a class on the way is: it was met before, or is on the way too
  closed : {met : List C} {class : C} {classes : List C} → Follows view met class classes → (x above : C) → Contains classes x
      → Extends view x above
      → Contains met above ⊎ Contains classes above
  closed (Follows.up {met = met} {way = above_it} {class = class} {above = next} extends new more) x above stands extends-x =
      by_place (stands_where class x above_it stands) (λ later. closed more x above later extends-x) where
        by_later : Contains (class ∷ met) above ⊎ Contains above_it above → Contains met above ⊎ Contains (class ∷ above_it) above
        by_later (inl before) = by_met (stands_where class above met before) where
          by_met : (class ≡ above) ⊎ Contains met above → Contains met above ⊎ Contains (class ∷ above_it) above
          by_met (inl same) = inr (subst (Contains (class ∷ above_it)) same (stands_first class above_it))
          by_met (inr earlier) = inl earlier
        by_later (inr later) = inr (stands_later class above above_it later)

        at_next : class ≡ x → Contains above_it above
        at_next same =
            let is_next : next ≡ above = one_above view ordered x next above (subst (λ c. Extends view c next) same extends) extends-x in
            let first = follows-first view more in
            subst (Contains above_it) is_next (subst (λ classes. Contains classes next) (sym first.1) (stands_first next first.0))

        by_place : (class ≡ x) ⊎ Contains above_it x → (Contains above_it x → Contains (class ∷ met) above ⊎ Contains above_it above)
            → Contains met above ⊎ Contains (class ∷ above_it) above
        by_place (inl same) rest = inr (stands_later class above above_it (at_next same))
        by_place (inr later) rest = by_later (rest later)
  closed (Follows.end {met = met} {class = class} ends) x above stands extends-x = by_place (stands_where class x [] stands) where
    by_met : (class ≡ above) ⊎ Contains met above → Contains met above ⊎ Contains (class ∷ []) above
    by_met (inl same) = inr (subst (Contains (class ∷ [])) same (stands_first class []))
    by_met (inr earlier) = inl earlier

    by_place : (class ≡ x) ⊎ Contains [] x → Contains met above ⊎ Contains (class ∷ []) above
    by_place (inl same) = by_met (stands_where class above met (ends above (subst (λ c. Extends view c above) (sym same) extends-x)))
    by_place (inr later) = absurd (stands_nowhere x later)

  -- what a set of classes that is closed so has
  leads-in : (classes : List C) → ((x above : C) → Contains classes x → Extends view x above → Contains classes above) → (class top : C)
      → Leads view class top → Contains classes class → Contains classes top
  leads-in classes each class top (Leads.last_step extends) stands = each class top stands extends
  leads-in classes each class top (Leads.step {above = above} extends leads) stands =
      leads-in classes each above top leads (each class above stands extends)

  among-ancestors : (class above : C) → Contains (ancestors view class) above → IsAncestor view class above
  among-ancestors class above stands = record {
    ancestors = ancestors view class;
    way = subst (Way view class) (way-ancestors view class) (way-is view ordered class);
    met = stands;
  }

  pub ancestors-reached : (class above : C) → Leads view class above → above ≢ class → IsAncestor view class above
  ancestors-reached class above leads differs = by_place (stands_where class above (ancestors view class) on_way) where
    whole : Way view class (class ∷ ancestors view class)
    whole = subst (Way view class) (way-ancestors view class) (way-is view ordered class)

    each : (x up : C) → Contains (class ∷ ancestors view class) x → Extends view x up → Contains (class ∷ ancestors view class) up
    each x up stands extends = by_met (closed whole x up stands extends) where
      by_met : Contains [] up ⊎ Contains (class ∷ ancestors view class) up → Contains (class ∷ ancestors view class) up
      by_met (inl before) = absurd (stands_nowhere up before)
      by_met (inr there) = there

    on_way : Contains (class ∷ ancestors view class) above
    on_way = leads-in (class ∷ ancestors view class) each class above leads (stands_first class (ancestors view class))

    by_place : (class ≡ above) ⊎ Contains (ancestors view class) above → IsAncestor view class above
    by_place (inl same) = absurd (differs (sym same))
    by_place (inr later) = record { ancestors = ancestors view class; way = whole; met = later }

  pub is_ancestor-decides : (class above : C) → Decides (is_ancestor view class above) (IsAncestor view class above)
  is_ancestor-decides class above = (there, at) where
    there : is_ancestor view class above ≡ true → IsAncestor view class above
    there is = record {
      ancestors = ancestors view class;
      way = subst (Way view class) (way-ancestors view class) (way-is view ordered class);
      met = (is_met-decides view.classes ordered (ancestors view class) above).0 is;
    }

    at : IsAncestor view class above → is_ancestor view class above ≡ true
    at is =
        let same : way view class ≡ class ∷ is.ancestors = one_way view ordered (way-is view ordered class) is.way in
        ap (λ classes. is_met view.classes (drop 1 classes) above) same
        ∙ (is_met-decides view.classes ordered is.ancestors above).1 is.met

-- ---- where there is no circle

module _ {C M : Type 0} (view : View C M) where
  leads_on : (class next top : C) → Leads view class next → Extends view next top → Leads view class top
  leads_on class next top (Leads.last_step extends) last = Leads.step extends (Leads.last_step last)
  leads_on class next top (Leads.step {above = above} extends leads) last = Leads.step extends (leads_on above next top leads last)

  -- going up leads to the class from each that was met
  abbrev pub AreBelow : List C → C → Type 0
  AreBelow met class = (before : C) → Contains met before → Leads view before class

  below-next : (met : List C) (class above : C) → Extends view class above → AreBelow met class → AreBelow (class ∷ met) above
  below-next met class above extends below before stands = by_place (stands_where class before met stands) where
    by_place : (class ≡ before) ⊎ Contains met before → Leads view before above
    by_place (inl same) = Leads.last_step (subst (λ c. Extends view c above) same extends)
    by_place (inr earlier) = leads_on before class above (below before earlier) extends

  -- where a class on the way goes on
  pub record GoesOn (classes : List C) (x : C) : Type 0 where
    pub nearer : List C
    pub farther : List C
    pub met : List C
    pub is : classes ≡ nearer ++ farther
    pub follows : Follows view met x farther
    pub below : AreBelow met x

  goes_on_from : {met : List C} {class : C} {classes : List C} → Follows view met class classes → AreBelow met class → (x : C)
      → Contains classes x → GoesOn classes x
  goes_on_from (Follows.up {met = met} {way = above_it} {class = class} {above = above} extends new more) below x stands =
      by_place (stands_where class x above_it stands) (goes_on_from more (below-next met class above extends below) x) where
        here : GoesOn (class ∷ above_it) class
        here = record {
          nearer = [];
          farther = class ∷ above_it;
          met = met;
          is = refl;
          follows = Follows.up extends new more;
          below = below;
        }

        by_place : (class ≡ x) ⊎ Contains above_it x → (Contains above_it x → GoesOn above_it x) → GoesOn (class ∷ above_it) x
        by_place (inl same) later = subst (GoesOn (class ∷ above_it)) same here
        by_place (inr stands) later =
            let rest = later stands in record {
              nearer = class ∷ rest.nearer;
              farther = rest.farther;
              met = rest.met;
              is = ap (λ classes. class ∷ classes) rest.is;
              follows = rest.follows;
              below = rest.below;
            }
  goes_on_from (Follows.end {met = met} {class = class} ends) below x stands = by_place (stands_where class x [] stands) where
    here : GoesOn (class ∷ []) class
    here = record { nearer = []; farther = class ∷ []; met = met; is = refl; follows = Follows.end ends; below = below }

    by_place : (class ≡ x) ⊎ Contains [] x → GoesOn (class ∷ []) x
    by_place (inl same) = subst (GoesOn (class ∷ [])) same here
    by_place (inr later) = absurd (stands_nowhere x later)

  module _ (no_circle : HasNoCircle view) where
    -- what was met before is no matter
    follows-anew : {met : List C} {class : C} {classes : List C} → Follows view met class classes → AreBelow met class → (fewer : List C)
        → ((x : C) → Contains fewer x → Contains met x) → Follows view fewer class classes
    follows-anew (Follows.up {met = met} {class = class} {above = above} extends new more) below fewer among =
        Follows.up extends (λ stands. new (among_more above stands))
        (follows-anew more (below-next met class above extends below) (class ∷ fewer) among_more) where
          among_more : (x : C) → Contains (class ∷ fewer) x → Contains (class ∷ met) x
          among_more x stands = by_place (stands_where class x fewer stands) where
            by_place : (class ≡ x) ⊎ Contains fewer x → Contains (class ∷ met) x
            by_place (inl same) = subst (Contains (class ∷ met)) same (stands_first class met)
            by_place (inr later) = stands_later class x met (among x later)
    follows-anew (Follows.end {met = met} {class = class} ends) below fewer among = Follows.end
        (λ above extends. absurd (never above extends)) where
          never : (above : C) → ¬ Extends view class above
          never above extends = by_place (stands_where class above met (ends above extends)) where
            by_place : ¬ ((class ≡ above) ⊎ Contains met above)
            by_place (inl same) = no_circle class (Leads.last_step (subst (Extends view class) (sym same) extends))
            by_place (inr before) = no_circle above (leads_on above class above (below above before) extends)

    pub ways-end : (ordered : AreOrdered view.classes) (class above : C) → IsAncestor view class above
        → (nearer : List C) × (way view class ≡ nearer ++ way view above)
    ways-end ordered class above is =
        let on = goes_on_from is.way (λ before stands. absurd (stands_nowhere before stands)) above
        (stands_later class above is.ancestors is.met) in
        let anew = follows-anew on.follows on.below [] (λ x stands. absurd (stands_nowhere x stands)) in (
          on.nearer,
          one_way view ordered (way-is view ordered class) is.way ∙ on.is
              ∙ ap (λ classes. on.nearer ++ classes) (one_way view ordered anew (way-is view ordered above)),
        )

-- ---- circles

module _ {C M : Type 0} (view : View C M) (ordered : AreOrdered view.classes) where
  is_above-decides : (above class : C) → Decides (is_above view above class) (Extends view class above)
  is_above-decides above class = by (class_above view class) refl where
    by : (o : Option C) → class_above view class ≡ o
        → Decides (option_map_or (λ next. is_eq (view.classes.cmp next above)) o false) (Extends view class above)
    by None none = (
      λ is. absurd (true≢false (sym is)),
      λ extends. absurd (let no : None ≡ Some above = sym none ∙ is-class_above view ordered class above extends in cc),
    )
    by (Some next) found = (
      λ is. subst (Extends view class) ((same_key ordered.order next above).0 is) (class_above-is view ordered class next found),
      λ extends. (same_key ordered.order next above).1
          (one_above view ordered class next above (class_above-is view ordered class next found) extends),
    )

  -- the last step of a way back
  last_step : (class top : C) → Leads view class top → (before : C) × ((class ≡ before) ⊎ Leads view class before) × Extends view before top
  last_step class top (Leads.last_step extends) = (class, inl refl, extends)
  last_step class top (Leads.step {above = above} extends leads) =
      let rest = last_step above top leads in (rest.0, inr (later rest.0 rest.1), rest.2) where
        later : (before : C) → (above ≡ before) ⊎ Leads view above before → Leads view class before
        later before (inl same) = Leads.last_step (subst (Extends view class) same extends)
        later before (inr on) = Leads.step extends on

  circle-found : (class : C) → Decides (is_in_circle view class) (Leads view class class)
  circle-found class = (back, there) where
    any : Decides (is_in_circle view class) ((x : C) × Contains (way view class) x × Extends view x class)
    any = list_any-decides (λ x. Extends view x class) (is_above view class) (is_above-decides class) (way view class)

    back : is_in_circle view class ≡ true → Leads view class class
    back is =
        let found = any.0 is in
        by found.0 found.2 (stands_where class found.0 (ancestors view class)
        (subst (λ classes. Contains classes found.0) (way-ancestors view class) found.1)) where
          by : (x : C) → Extends view x class → (class ≡ x) ⊎ Contains (ancestors view class) x → Leads view class class
          by x extends (inl same) = Leads.last_step (subst (λ c. Extends view c class) (sym same) extends)
          by x extends (inr among) = leads_on view class x class
              (ancestors-led_to view class x (among-ancestors view ordered class x among)) extends

    there : Leads view class class → is_in_circle view class ≡ true
    there leads =
        let last = last_step class class leads in
        any.1 (last.0, subst (λ classes. Contains classes last.0) (sym (way-ancestors view class)) (on last.0 last.1), last.2) where
          reached : (x : C) → Leads view class x → (b : Bool) → is_eq (view.classes.cmp class x) ≡ b
              → Contains (class ∷ ancestors view class) x
          reached x up true same = subst (Contains (class ∷ ancestors view class)) ((same_key ordered.order class x).0 same)
              (stands_first class (ancestors view class))
          reached x up false apart =
              let is = ancestors-reached view ordered class x up
              (λ same. true≢false (sym ((same_key ordered.order class x).1 (sym same)) ∙ apart)) in
              let same : class ∷ is.ancestors ≡ class ∷ ancestors view class
              = sym (one_way view ordered (way-is view ordered class) is.way) ∙ way-ancestors view class in
              subst (λ classes. Contains classes x) same (stands_later class x is.ancestors is.met)

          on : (x : C) → (class ≡ x) ⊎ Leads view class x → Contains (class ∷ ancestors view class) x
          on x (inl same) = subst (Contains (class ∷ ancestors view class)) same (stands_first class (ancestors view class))
          on x (inr up) = reached x up (is_eq (view.classes.cmp class x)) refl

pub ancestors_known : (C M : Type 0) → AncestorsKnown C M
ancestors_known C M = record {
  tested = λ view class above ordered. is_ancestor-decides view ordered class above;
  stand = λ view class above is. ancestors-stand view class above is;
  never_itself = λ view class is. ancestors-never_itself view class is;
  led_to = λ view class above is. ancestors-led_to view class above is;
  reached = λ view class above ordered leads differs. ancestors-reached view ordered class above leads differs;
  circles = λ view class ordered. circle-found view ordered class;
  ways_begin = λ view class. way-ancestors view class;
  listed = λ view class above ordered stands. among-ancestors view ordered class above stands;
  ways_end = λ view class above ordered no_circle is. ways-end view no_circle ordered class above is;
}
