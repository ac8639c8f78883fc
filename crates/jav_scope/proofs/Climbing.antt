-- Going up through as many classes as there are, and one more, finds what the way from the class up has.
use Rattle.std.proofs.Common.{◌≡◌, ◌⊎◌, inl, inr, ℕ, zero, suc, Bool, true, false, cond, List, [], ◌∷◌, length, Option, Some, None, Contains, find, ◌&&◌, refl, sym, ◌∙◌, ap}
use Rattle.std.specs.Option.{option_or}
use Rattle.std.specs.Ordering.{is_eq}
use Rattle.jav_names.specs.LookUps.{class_above, is_outside, is_met, unmet, each_above, way_from, way, last_extends_outside, ends_outside, nearest, found_or}
use Rattle.jav_names.specs.Views.{View, AreOrdered, Found, not_found}
use Rattle.jav_names.proofs.Lists.{stands_first, stands_later, stands_where, stands_nowhere}
use Rattle.jav_names.proofs.Ways.{class_above-is, is_met-decides}
use Rattle.jav_scope.specs.Climbs.{found_first, look_from, climb}

module _ {X C M : Type 0} (view : View C M) (ordered : AreOrdered view.classes) (owner : X → C) (p : X → Bool) (all : List X) where
  abbrev pub here : C → Option X
  here class = find (λ x. p x && is_eq (view.classes.cmp (owner x) class)) all

  -- this class has nothing, and what it extends is one of these
  abbrev IsPassed : List C → C → Type 0
  IsPassed classes class = (here class ≡ None) × ((above : C) × (class_above view class ≡ Some above) × Contains classes above)

  extends-class : (class above : C) → class_above view class ≡ Some above → is_outside (view.superclass class) ≡ false
  extends-class class above is = ap is_outside (class_above-is view ordered class above is).named

  -- nothing is found in a circle of classes that have nothing
  circle : (classes : List C) → ((class : C) → Contains classes class → IsPassed classes class) → (steps : ℕ) (class : C)
      → Contains classes class
      → climb steps view here class ≡ not_found
  circle classes passed zero class within = refl
  circle classes passed (suc steps) class within =
      let at = passed class within in
      rw (at.0, at.1.1) (circle classes passed steps at.1.0 at.1.2)

  way-more : (steps : ℕ) (met : List C) (class above : C)
      → last_extends_outside view (class ∷ way_from steps view met above) ≡ last_extends_outside view (way_from steps view met above)
  way-more zero met class above = refl
  way-more (suc steps) met class above = refl

  abbrev on_way : List C → Found X
  on_way classes = found_or (nearest view owner p all classes) (last_extends_outside view classes)

  -- a class with nothing, whose superclass is among those that were met
  in_circle : (steps : ℕ) (met : List C) (class above : C) → here class ≡ None → class_above view class ≡ Some above
      → ((m : C) → Contains met m → IsPassed (class ∷ met) m) → Contains (class ∷ met) above
      → climb steps view here above ≡ found_or None (is_outside (view.superclass class))
  in_circle steps met class above none is passed stops =
      circle (class ∷ met) each steps above stops ∙ sym (ap (found_or None) (extends-class class above is)) where
        each : (c : C) → Contains (class ∷ met) c → IsPassed (class ∷ met) c
        each c within = by_place (stands_where class c met within) where
          by_place : (class ≡ c) ⊎ Contains met c → IsPassed (class ∷ met) c
          by_place (inl same) = (ap here (sym same) ∙ none, (above, ap (class_above view) (sym same) ∙ is, stops))
          by_place (inr later) = passed c later

  -- a class that has nothing was passed, where its superclass is next
  passed-on : (met : List C) (class above : C) → here class ≡ None → class_above view class ≡ Some above
      → ((m : C) → Contains met m → IsPassed (class ∷ met) m) → (m : C) → Contains (class ∷ met) m → IsPassed (above ∷ class ∷ met) m
  passed-on met class above none is passed m within = by_place (stands_where class m met within) where
    by_place : (class ≡ m) ⊎ Contains met m → IsPassed (above ∷ class ∷ met) m
    by_place (inl same) = (ap here (sym same) ∙ none, (above, ap (class_above view) (sym same) ∙ is, stands_first above (class ∷ met)))
    by_place (inr later) =
        let at = passed m later in
        (at.0, (at.1.0, at.1.1, stands_later above at.1.0 (class ∷ met) at.1.2))

  ends : (steps : ℕ) (b : Bool) → look_from (found_or None b) (climb steps view here) ≡ found_or None b
  ends steps true = refl
  ends steps false = refl

  -- the way on from a class, if there is one above it
  abbrev after : ℕ → List C → C → Option C → List C
  after steps met class o = each_above o (λ above. way_from steps view (class ∷ met) above)

  -- and that going up from the next class finds what that way has
  abbrev Further : ℕ → List C → C → Type 0
  Further steps met class = (above : C) → ((m : C) → Contains (class ∷ met) m → IsPassed (above ∷ class ∷ met) m)
      → climb (suc steps) view here above ≡ on_way (way_from steps view (class ∷ met) above)

  climbs : (steps : ℕ) (met : List C) (class : C) → ((m : C) → Contains met m → IsPassed (class ∷ met) m)
      → climb (suc steps) view here class ≡ on_way (way_from steps view met class)
  climbs zero met class passed = by_here (here class) refl where
    by_above : (o : Option C) → class_above view class ≡ o
        → look_from (found_or o (is_outside (view.superclass class))) (climb zero view here)
        ≡ found_or None (is_outside (view.superclass class))
    by_above None is = ends zero (is_outside (view.superclass class))
    by_above (Some above) is = sym (ap (found_or None) (extends-class class above is))

    by_here : (o : Option X) → here class ≡ o
        → found_first o (look_from (found_or (class_above view class) (is_outside (view.superclass class))) (climb zero view here))
        ≡ found_or (option_or o None) (is_outside (view.superclass class))
    by_here (Some x) is = refl
    by_here None none = by_above (class_above view class) refl
  climbs (suc steps) met class passed = by_here (here class) refl (λ above all-passed. climbs steps (class ∷ met) above all-passed) where
    by_met : (above : C) → here class ≡ None → class_above view class ≡ Some above → Further steps met class → (b : Bool)
        → is_met view.classes (class ∷ met) above ≡ b
        → climb (suc steps) view here above
        ≡ found_or (nearest view owner p all (after steps met class (cond b None (Some above))))
        (last_extends_outside view (class ∷ after steps met class (cond b None (Some above))))
    by_met above none is more true seen =
        in_circle (suc steps) met class above none is passed ((is_met-decides view.classes ordered (class ∷ met) above).0 seen)
    by_met above none is more false new =
        more above (passed-on met class above none is passed)
        ∙ ap (found_or (nearest view owner p all (way_from steps view (class ∷ met) above)))
        (sym (way-more steps (class ∷ met) class above))

    by_above : here class ≡ None → (o : Option C) → class_above view class ≡ o → Further steps met class
        → look_from (found_or o (is_outside (view.superclass class))) (climb (suc steps) view here)
        ≡ found_or (nearest view owner p all (after steps met class (unmet view.classes (class ∷ met) o)))
        (last_extends_outside view (class ∷ after steps met class (unmet view.classes (class ∷ met) o)))
    by_above none None is more = ends (suc steps) (is_outside (view.superclass class))
    by_above none (Some above) is more = by_met above none is more (is_met view.classes (class ∷ met) above) refl

    by_here : (o : Option X) → here class ≡ o → Further steps met class
        → found_first o (look_from (found_or (class_above view class) (is_outside (view.superclass class))) (climb (suc steps) view here))
        ≡ found_or (option_or o (nearest view owner p all
        (after steps met class (unmet view.classes (class ∷ met) (class_above view class)))))
        (last_extends_outside view (class ∷ after steps met class (unmet view.classes (class ∷ met) (class_above view class))))
    by_here (Some x) is more = refl
    by_here None none more = by_above none (class_above view class) refl more

  pub climb-way : (class : C) → climb (suc (length view.classes.items)) view here class
      ≡ found_or (nearest view owner p all (way view class)) (ends_outside view class)
  climb-way class = climbs (length view.classes.items) [] class (λ m within. absurd (stands_nowhere m within))
