-- Following superclasses leads to the classes on a way, and to no others.
use Rattle.std.proofs.Common.{◌≡◌, ◌⊎◌, inl, inr, ℕ, zero, suc, ◌<◌, Bool, true, false, cond, not, ◌||◌, List, [], ◌∷◌, ◌++◌, length, filter, Option, Some, None, is_some, refl, sym, ◌∙◌, ap, subst, arith, true≢false}
use Rattle.std.specs.Bool.{Decides}
use Rattle.std.specs.FinMap.{get, entries, keys, len, len-entries, contains_key-keys}
use Rattle.std.specs.List.{list_any}
use Rattle.std.proofs.lemmas.List.{length-map}
use Rattle.std.proofs.lemmas.List.Folds.{list_any-append}
use Rattle.std.proofs.lemmas.Map.Views.{Contains-from_any}
use Rattle.jav_names.proofs.Ways.{fewer, filter-length}
use Rattle.mol_base.specs.declared.ident.Id.{Id}
use Rattle.mol_table_rules.proofs.Counts.{none-some, some-same}
use Rattle.mol_table_rules.proofs.Living.{id_tied, same_id-own}
use Rattle.mol_table_rules.specs.Ancestors.{living_parent, unmet, walk, is_on_way}
use Rattle.mol_table_rules.specs.Heights.{upward}
use Rattle.mol_table_rules.specs.Program.{Program, same_id, value_at, is_yes, living_at, parent_at}
use Rattle.mol_table_rules.specs.Rules.{IsProgram}
use Rattle.mol_values_types.specs.Slots.{has_slot}
use Rattle.mol_values_types.specs.declared.cell.Slot.TheVariants as slots
use Rattle.mol_values_types.specs.declared.known.Known.{Known}
use Rattle.mol_values_types.specs.declared.value.Value.{Value}
use Rattle.mol_scope_classes.specs.hierarchy.Reaching.{Reaches}
use Rattle.mol_scope_classes.proofs.hierarchy_lemmas.Following.{itself, one-step, further, stays}

or-right : (a b : Bool) → b ≡ true → (a || b) ≡ true
or-right true b is = refl
or-right false b is = is

or-left : (a b : Bool) → a ≡ true → (a || b) ≡ true
or-left a b is = ap (λ c. c || b) is

or-cases : (a b : Bool) → (a || b) ≡ true → (a ≡ true) ⊎ (b ≡ true)
or-cases true b is = inl refl
or-cases false b is = inr is

pub turned : (a b : Bool) → (a || (b || false)) ≡ (b || a)
turned true true = refl
turned true false = refl
turned false true = refl
turned false false = refl

module _ (program : Program) where
  -- how many known identities are not among these
  abbrev pub left : List Id → ℕ
  left met = length (filter (λ id. not (list_any (same_id id) met)) (keys program.known))

  -- one fewer, once another one is
  pub fewer-left : (met more : List Id) (id : Id) → is_some (get program.known id) ≡ true → list_any (same_id id) met ≡ false
      → ((x : Id) → list_any (same_id x) more ≡ (same_id x id || list_any (same_id x) met)) → left more < left met
  fewer-left met more id known new is = fewer (λ x. not (list_any (same_id x) met)) (λ x. not (list_any (same_id x) more))
      (λ x passes. was (same_id x id) (list_any (same_id x) met) (ap not (sym (is x)) ∙ passes)) (keys program.known) id
      (Contains-from_any id_tied id (keys program.known) (sym (contains_key-keys program.known id) ∙ known))
      (ap not new)
      (ap not (is id ∙ ap (λ b. b || list_any (same_id id) met) (same_id-own id))) where
        was : (a b : Bool) → not (a || b) ≡ true → not b ≡ true
        was true b passes = absurd (true≢false (sym passes))
        was false b passes = passes

  pub appended : (met : List Id) (id x : Id) → list_any (same_id x) (met ++ id ∷ []) ≡ (same_id x id || list_any (same_id x) met)
  appended met id x = list_any-append (same_id x) met (id ∷ []) ∙ turned (list_any (same_id x) met) (same_id x id)

  module _ (rules : IsProgram program) where
    pub living-known : (id : Id) → living_at program id ≡ true → is_some (get program.known id) ≡ true
    living-known id lives = by (get program.known id) refl where
      held : (o : Option Value) → is_yes o ≡ true → is_some o ≡ true
      held None is = absurd (true≢false (sym is))
      held (Some value) is = refl

      by : (o : Option Known) → get program.known id ≡ o → is_some (get program.known id) ≡ true
      by None none = absurd (true≢false (sym (held (value_at program id slots.Live) lives) ∙ rules.whole id slots.Live
          ∙ ap (λ k. has_slot k slots.Live) none))
      by (Some known) is = ap is_some is

    pub above-known : (class above : Id) → upward program (Some class) ≡ Some above → is_some (get program.known above) ≡ true
    above-known class above is = by (parent_at program class) is where
      choose : (parent : Id) (b : Bool) → living_at program parent ≡ b → cond b (Some parent) None ≡ Some above
          → is_some (get program.known above) ≡ true
      choose parent true lives some =
          subst (λ id. is_some (get program.known id) ≡ true) (some-same parent above some) (living-known parent lives)
      choose parent false dead none = absurd (none-some above none)

      by : (o : Option Id) → living_parent program o ≡ Some above → is_some (get program.known above) ≡ true
      by None none = absurd (none-some above none)
      by (Some parent) some = choose parent (living_at program parent) refl some

    -- ---- the classes on a walk

    abbrev On : List Id → Id → Type 0
    On ids id = list_any (same_id id) ids ≡ true

    begins : (steps : ℕ) (met : List Id) (class : Id) → 0 < steps → On (walk steps program met (Some class)) class
    begins zero met class some = absurd (omega (arith, some))
    begins (suc steps) met class some = or-left (same_id class class) _ (same_id-own class)

    nothing : (steps : ℕ) (met : List Id) (id : Id) → On (walk steps program met None) id → ⊥
    nothing zero met id on = true≢false (sym on)
    nothing (suc steps) met id on = true≢false (sym on)

    -- the walk behind its first class
    abbrev next_of : ℕ → List Id → Id → Option Id → List Id
    next_of steps met class o = walk steps program (class ∷ met) (unmet (class ∷ met) o)

    abbrev rest_of : ℕ → List Id → Id → List Id
    rest_of steps met class = next_of steps met class (upward program (Some class))

    -- it was met before, or is on the walk
    abbrev IsSeen : ℕ → List Id → Id → Id → Type 0
    IsSeen steps met class above = On met above ⊎ On (class ∷ rest_of steps met class) above

    -- what is extended by a class on it was met before, or is on it
    closed : (steps : ℕ) (met : List Id) (class : Id) → left (class ∷ met) < steps → (below above : Id)
        → On (walk steps program met (Some class)) below → upward program (Some below) ≡ Some above
        → On met above ⊎ On (walk steps program met (Some class)) above
    closed zero met class few below above on is = absurd (omega (arith, few))
    closed (suc steps) met class few below above on is =
        by (or-cases (same_id below class) (list_any (same_id below) (rest_of steps met class)) on)
        (λ next few. closed steps (class ∷ met) next few below above) where
          met-here : On (class ∷ met) above → IsSeen steps met class above
          met-here before = at (or-cases (same_id above class) (list_any (same_id above) met) before) where
            at : (same_id above class ≡ true) ⊎ On met above → IsSeen steps met class above
            at (inl same) = inr (or-left (same_id above class) (list_any (same_id above) (rest_of steps met class)) same)
            at (inr was) = inl was

          later : On (rest_of steps met class) above → IsSeen steps met class above
          later on-rest = inr (or-right (same_id above class) (list_any (same_id above) (rest_of steps met class)) on-rest)

          fewer-next : (next : Id) → upward program (Some class) ≡ Some next → list_any (same_id next) (class ∷ met) ≡ false
              → left (next ∷ class ∷ met) < left (class ∷ met)
          fewer-next next up new = fewer-left (class ∷ met) (next ∷ class ∷ met) next (above-known class next up) new (λ x. refl)

          rest-is : (next : Id) (b : Bool) → upward program (Some class) ≡ Some next → list_any (same_id next) (class ∷ met) ≡ b
              → (rest_of steps met class) ≡ walk steps program (class ∷ met) (cond b None (Some next))
          rest-is next b up test = ap (next_of steps met class) up
              ∙ ap (λ b. walk steps program (class ∷ met) (cond b None (Some next))) test

          own : upward program (Some class) ≡ Some above → IsSeen steps met class above
          own up = at (list_any (same_id above) (class ∷ met)) refl where
            at : (b : Bool) → list_any (same_id above) (class ∷ met) ≡ b → IsSeen steps met class above
            at true before = met-here before
            at false new = later (subst (λ ids. On ids above) (sym (rest-is above false up new))
                (begins steps (class ∷ met) above (omega (arith, few, fewer-next above up new))))

          by : (same_id below class ≡ true) ⊎ On (rest_of steps met class) below
              → ((next : Id) → left (next ∷ class ∷ met) < steps → On (walk steps program (class ∷ met) (Some next)) below
              → upward program (Some below) ≡ Some above → On (class ∷ met) above ⊎ On (walk steps program (class ∷ met) (Some next)) above)
              → IsSeen steps met class above
          by (inl same) more = own (ap (λ c. upward program (Some c)) (sym (id_tied below class same)) ∙ is)
          by (inr on-rest) more = at (upward program (Some class)) refl where
            at : (o : Option Id) → upward program (Some class) ≡ o → IsSeen steps met class above
            at None up = absurd (nothing steps (class ∷ met) below (subst (λ ids. On ids below) (ap (next_of steps met class) up) on-rest))
            at (Some next) up = choose (list_any (same_id next) (class ∷ met)) refl where
              choose : (b : Bool) → list_any (same_id next) (class ∷ met) ≡ b → IsSeen steps met class above
              choose true before =
                  absurd (nothing steps (class ∷ met) below (subst (λ ids. On ids below) (rest-is next true up before) on-rest))
              choose false new = after (more next (omega (arith, few, fewer-next next up new))
                  (subst (λ ids. On ids below) (rest-is next false up new) on-rest) is) where
                    after : On (class ∷ met) above ⊎ On (walk steps program (class ∷ met) (Some next)) above → IsSeen steps met class above
                    after (inl before) = met-here before
                    after (inr on-next) = later (subst (λ ids. On ids above) (sym (rest-is next false up new)) on-next)

    sound : (steps : ℕ) (met : List Id) (class above : Id) → On (walk steps program met (Some class)) above → Reaches program class above
    sound zero met class above on = absurd (true≢false (sym on))
    sound (suc steps) met class above on =
        by (or-cases (same_id above class) (list_any (same_id above) (rest_of steps met class)) on)
        (upward program (Some class)) refl (λ next. sound steps (class ∷ met) next above) where
          choose : (next : Id) → upward program (Some class) ≡ Some next
              → (On (walk steps program (class ∷ met) (Some next)) above → Reaches program next above)
              → (b : Bool) → On (walk steps program (class ∷ met) (cond b None (Some next))) above → Reaches program class above
          choose next up more true on-rest = absurd (nothing steps (class ∷ met) above on-rest)
          choose next up more false on-rest = further program class next above (one-step program class next up) (more on-rest)

          by : (same_id above class ≡ true) ⊎ On (rest_of steps met class) above → (o : Option Id)
              → upward program (Some class) ≡ o
              → ((next : Id) → On (walk steps program (class ∷ met) (Some next)) above → Reaches program next above)
              → Reaches program class above
          by (inl same) o up more = subst (Reaches program class) (sym (id_tied above class same)) (itself program class)
          by (inr on-rest) None up more = absurd (nothing steps (class ∷ met) above
              (subst (λ ids. On ids above) (ap (next_of steps met class) up) on-rest))
          by (inr on-rest) (Some next) up more = choose next up (more next) (list_any (same_id next) (class ∷ met))
              (subst (λ ids. On ids above) (ap (next_of steps met class) up) on-rest)

    abbrev whole : Id → List Id
    whole class = walk (suc (len program.known)) program [] (Some class)

    pub on_way-decides : (class above : Id) → Decides (is_on_way program class above) (Reaches program class above)
    on_way-decides class above = (
      sound (suc (len program.known)) [] class above,
      λ (reaches : Reaches program class above). stays program (On (whole class)) inside reaches.steps class above reaches.leads
          (begins (suc (len program.known)) [] class (omega arith)),
    ) where
      few : left (class ∷ []) < suc (len program.known)
      few =
          let most = filter-length (λ id. not (list_any (same_id id) (class ∷ []))) (keys program.known) in
          let all = length-map (entries program.known) (λ (e : Id × Known). e.0) in
          omega (arith, most, all, len-entries program.known)

      inside : (below above : Id) → On (whole class) below → upward program (Some below) ≡ Some above → On (whole class) above
      inside below above on is = at (closed (suc (len program.known)) [] class few below above on is) where
        at : On [] above ⊎ On (whole class) above → On (whole class) above
        at (inl none) = absurd (true≢false (sym none))
        at (inr on) = on
