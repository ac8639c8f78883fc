-- The pairs of a declaration with those above it, found path by path on the way up.
use Rattle.std.proofs.Common.{◌≡◌, ◌⊎◌, inl, inr, ℕ, zero, suc, ◌+◌, ◌-◌, ◌<◌, ◌≤◌, Bool, true, false, cond, ◌||◌, List, [], ◌∷◌, length, Option, Some, None, Contains, refl, sym, ◌∙◌, ap, subst, arith, true≢false}
use Rattle.std.specs.FinMap.{entries, len, len-entries}
use Rattle.std.specs.List.{list_any}
use Rattle.std.proofs.lemmas.Bool.{cases_lt}
use Rattle.std.proofs.lemmas.List.{length-map}
use Rattle.mol_base.specs.declared.ident.Id.{Id}
use Rattle.mol_scope_classes.proofs.classes_lemmas.KnownIds.{ids-are}
use Rattle.mol_scope_classes.specs.hierarchy.Paths.{ArePaths, place_on, position_in}
use Rattle.mol_scope_classes.specs.declared.hierarchy.position.Position.{Position}
use Rattle.mol_scope_classes.proofs.hierarchy_lemmas.Following.{climb-on, climb-none}
use Rattle.mol_scope_classes.proofs.hierarchy_lemmas.OnWays.{on_way-decides}
use Rattle.mol_scope_classes.proofs.hierarchy_lemmas.PathsClimbed.{climbed-at, climbs, top-at}
use Rattle.mol_faults_entities.specs.override_faults.Overridden.{Adds, ArePlaced, IsAlong, IsOver, naming_at, pair_above}
use Rattle.mol_faults_entities.specs.declared.override_faults.declaration.Declaration.{Declaration}
use Rattle.mol_faults_entities.proofs.override_faults_lemmas.PairsAbove.{owners-apart}
use Rattle.mol_faults_entities.specs.declared.pair_faults.pair.Pair.{Pair}
use Rattle.mol_table_rules.proofs.Counts.{none-some, some-same}
use Rattle.mol_table_rules.proofs.Living.{id_tied}
use Rattle.mol_table_rules.specs.Ancestors.{is_on_way, unmet, walk}
use Rattle.mol_table_rules.specs.Heights.{climb, upward}
use Rattle.mol_table_rules.specs.Identities.{IsAscending, AreKnown}
use Rattle.mol_table_rules.specs.Program.{Program, same_id}
use Rattle.mol_table_rules.specs.Rules.{IsProgram}
use Rattle.mol_values_types.specs.declared.known.Known.{Known}

pub ids-count : (program : Program) (ids : List Id) → IsAscending ids → AreKnown program ids → length ids ≡ len program.known
ids-count program ids ascending known =
    let same = ap (λ (xs : List Id). length xs) (ids-are program ids ascending known) in
    let all = length-map (entries program.known) (λ (e : Id × Known). e.0) in
    omega (arith, same, all, len-entries program.known)

module _ (program : Program) where
  -- ---- a class on a walk is reached in fewer steps than it has

  abbrev On : List Id → Id → Type 0
  On ids id = list_any (same_id id) ids ≡ true

  nothing : (steps : ℕ) (met : List Id) (id : Id) → On (walk steps program met None) id → ⊥
  nothing zero met id on = true≢false (sym on)
  nothing (suc steps) met id on = true≢false (sym on)

  walked : (steps : ℕ) (met : List Id) (class above : Id) → On (walk steps program met (Some class)) above
      → (n : ℕ) × (n < steps) × (climb program n (Some class) ≡ Some above)
  walked zero met class above on = absurd (true≢false (sym on))
  walked (suc steps) met class above on =
      by (same_id above class) refl on (λ next. walked steps (class ∷ met) next above) where
        after : Option Id → List Id
        after o = walk steps program (class ∷ met) (unmet (class ∷ met) o)

        choose : (next : Id) → upward program (Some class) ≡ Some next
            → (On (walk steps program (class ∷ met) (Some next)) above
            → (n : ℕ) × (n < steps) × (climb program n (Some next) ≡ Some above))
            → (b : Bool) → On (walk steps program (class ∷ met) (cond b None (Some next))) above
            → (n : ℕ) × (n < suc steps) × (climb program n (Some class) ≡ Some above)
        choose next up more true on = absurd (nothing steps (class ∷ met) above on)
        choose next up more false on =
            let found = more on in (suc found.0, omega (arith, found.1), ap (climb program found.0) up ∙ found.2)

        at : (o : Option Id) → upward program (Some class) ≡ o → On (after o) above
            → ((next : Id) → On (walk steps program (class ∷ met) (Some next)) above
            → (n : ℕ) × (n < steps) × (climb program n (Some next) ≡ Some above))
            → (n : ℕ) × (n < suc steps) × (climb program n (Some class) ≡ Some above)
        at None up on more = absurd (nothing steps (class ∷ met) above on)
        at (Some next) up on more = choose next up (more next) (list_any (same_id next) (class ∷ met)) on

        by : (b : Bool) → same_id above class ≡ b → (b || list_any (same_id above) (after (upward program (Some class)))) ≡ true
            → ((next : Id) → On (walk steps program (class ∷ met) (Some next)) above
            → (n : ℕ) × (n < steps) × (climb program n (Some next) ≡ Some above))
            → (n : ℕ) × (n < suc steps) × (climb program n (Some class) ≡ Some above)
        by true is on more = (0, omega arith, ap (λ (id : Id). Some id) (sym (id_tied above class is)))
        by false is on more = at (upward program (Some class)) refl on more

-- ---- going up

module _ (program : Program) (positions : List (Id × Position)) (rows : List Declaration) (row : Declaration) where
  -- The pair is that with one that is named alike in a class that is reached in so many steps, and some.
  pub record IsWithin (used : ℕ) (pair : Pair) : Type 0 where
    pub above : Declaration
    pub stands : Contains rows above
    pub alike : naming_at row ≡ naming_at above
    pub made : pair_above row above ≡ Some pair
    pub steps : ℕ
    pub some : 0 < steps
    pub most : steps ≤ used
    pub leads : climb program steps (Some row.owner) ≡ Some above.owner

  -- The class is reached in so many steps, or fewer.
  pub record IsNear (used : ℕ) (class : Id) : Type 0 where
    pub steps : ℕ
    pub most : steps ≤ used
    pub leads : climb program steps (Some row.owner) ≡ Some class

  -- Those that are reached in the steps that are used are added, at least one step a turn; the next class is that one step further, and
  -- the mark is behind it.
  pub record IsGoingUp (turns : ℕ) (at : Option Id) (mark : Id) (old new : List Pair) : Type 0 where
    pub used : ℕ
    pub some : turns ≤ used
    pub next : at ≡ climb program (suc used) (Some row.owner)
    pub marked : IsNear used mark
    pub adds : Adds (IsWithin used) old new

  pub up-begun : (at : Option Id) (pairs : List Pair) → at ≡ upward program (Some row.owner) → IsGoingUp 0 at row.owner pairs pairs
  up-begun at pairs is = record {
    used = 0;
    some = omega arith;
    next = is;
    marked = record { steps = 0; most = omega arith; leads = refl };
    adds = λ pair. (λ stands. inl stands, by pair);
  } where
    by : (pair : Pair) → Contains pairs pair ⊎ IsWithin 0 pair → Contains pairs pair
    by pair (inl stands) = stands
    by pair (inr within) = absurd (omega (arith, within.some, within.most))

  -- ---- one path more

  module _ (are : ArePaths program positions) (placed : ArePlaced positions rows) (turns : ℕ) (class mark : Id) (position : Position)
      (old before after : List Pair) (going : IsGoingUp turns (Some class) mark old before)
      (is : position ≡ position_in positions class) (adds : Adds (IsAlong rows row position) before after) where
    here : climb program (suc going.used) (Some row.owner) ≡ Some class
    here = sym going.next

    stands_at : (depth steps : ℕ) → position.depth ≡ depth + steps
        → position_in positions class ≡ place_on position.top (depth + steps)
    stands_at depth steps same = sym is ∙ ap (place_on position.top) same

    abbrev all_used : ℕ
    all_used = suc going.used + position.depth

    to-top : climb program position.depth (Some class) ≡ Some position.top
    to-top =
        let whole : position.depth ≡ 0 + position.depth = omega arith in
        climbs program positions are position.depth 0 class position.top position.top (stands_at 0 position.depth whole)
        (top-at program positions are position.depth class position.top (sym is))

    next-is : upward program (Some position.top) ≡ climb program (suc all_used) (Some row.owner)
    next-is =
        let one : suc all_used ≡ all_used + 1 = omega arith in
        sym (ap (λ n. climb program n (Some row.owner)) one ∙ climb-on program all_used 1 (Some row.owner)
        ∙ ap (λ o. climb program 1 o) (climb-on program (suc going.used) position.depth (Some row.owner)
        ∙ ap (climb program position.depth) here ∙ to-top))

    along-within : (pair : Pair) → IsAlong rows row position pair → IsWithin all_used pair
    along-within pair along =
        let steps = position.depth - along.above.key.position.depth in
        let whole : position.depth ≡ along.above.key.position.depth + steps = omega (arith, along.up) in
        let there : position_in positions along.above.owner ≡ place_on position.top along.above.key.position.depth =
        sym (placed along.above along.stands) ∙ (λ i. place_on (along.path i) along.above.key.position.depth) in
        let up = climbs program positions are steps along.above.key.position.depth class along.above.owner position.top
        (stands_at along.above.key.position.depth steps whole) there in
        record {
          above = along.above;
          stands = along.stands;
          alike = along.alike;
          made = along.made;
          steps = suc going.used + steps;
          some = omega arith;
          most = omega (arith, whole);
          leads = climb-on program (suc going.used) steps (Some row.owner) ∙ ap (climb program steps) here ∙ up;
        }

    within-along : (pair : Pair) → (within : IsWithin all_used pair) → suc going.used ≤ within.steps → IsAlong rows row position pair
    within-along pair within late =
        let steps = within.steps - suc going.used in
        let depth = position.depth - steps in
        let all : within.steps ≡ suc going.used + steps = omega (arith, late) in
        let whole : position.depth ≡ depth + steps = omega (arith, within.most, all) in
        let up : climb program steps (Some class) ≡ Some within.above.owner =
        ap (climb program steps) (sym here) ∙ sym (climb-on program (suc going.used) steps (Some row.owner))
        ∙ ap (λ n. climb program n (Some row.owner)) (sym all) ∙ within.leads in
        let there : within.above.key.position ≡ place_on position.top depth =
        placed within.above within.stands
        ∙ climbed-at program positions are steps depth class within.above.owner position.top (stands_at depth steps whole) up in
        let deep : within.above.key.position.depth ≡ depth = ap (λ (p : Position). p.depth) there in
        record {
          above = within.above;
          stands = within.stands;
          alike = within.alike;
          path = ap (λ (p : Position). p.top) there;
          up = omega (arith, deep, whole);
          made = within.made;
        }

    wider : (pair : Pair) → IsWithin going.used pair → IsWithin all_used pair
    wider pair within = record {
      above = within.above;
      stands = within.stands;
      alike = within.alike;
      made = within.made;
      steps = within.steps;
      some = within.some;
      most = omega (arith, within.most);
      leads = within.leads;
    }

    fewer : (pair : Pair) (within : IsWithin all_used pair) → within.steps ≤ going.used → IsWithin going.used pair
    fewer pair within most = record {
      above = within.above;
      stands = within.stands;
      alike = within.alike;
      made = within.made;
      steps = within.steps;
      some = within.some;
      most = most;
      leads = within.leads;
    }

    more-added : Adds (IsWithin all_used) old after
    more-added pair = (to, from) where
      was : Contains old pair ⊎ IsWithin going.used pair → Contains old pair ⊎ IsWithin all_used pair
      was (inl stands) = inl stands
      was (inr within) = inr (wider pair within)

      added : Contains before pair ⊎ IsAlong rows row position pair → Contains old pair ⊎ IsWithin all_used pair
      added (inl stands) = was ((going.adds pair).0 stands)
      added (inr along) = inr (along-within pair along)

      to : Contains after pair → Contains old pair ⊎ IsWithin all_used pair
      to stands = added ((adds pair).0 stands)

      kept : Contains old pair ⊎ IsWithin going.used pair → Contains after pair
      kept stands = (adds pair).1 (inl ((going.adds pair).1 stands))

      at : (within : IsWithin all_used pair) → (going.used < within.steps) ⊎ (within.steps ≤ going.used) → Contains after pair
      at within (inl late) = (adds pair).1 (inr (within-along pair within (omega (arith, late))))
      at within (inr early) = kept (inr (fewer pair within early))

      from : Contains old pair ⊎ IsWithin all_used pair → Contains after pair
      from (inl stands) = kept (inl stands)
      from (inr within) = at within (cases_lt going.used within.steps)

    pub up-more : (at : Option Id) (later : Id) → at ≡ upward program (Some position.top) → (later ≡ mark) ⊎ (later ≡ class)
        → IsGoingUp (turns + 1) at later old after
    up-more at later up either = record {
      used = all_used;
      some = omega (arith, going.some);
      next = up ∙ next-is;
      marked = by either;
      adds = more-added;
    } where
      by : (later ≡ mark) ⊎ (later ≡ class) → IsNear all_used later
      by (inl same) = subst (IsNear all_used) (sym same) (record {
        steps = going.marked.steps;
        most = omega (arith, going.marked.most);
        leads = going.marked.leads;
      })
      by (inr same) = subst (IsNear all_used) (sym same) (record { steps = suc going.used; most = omega arith; leads = here })

  -- ---- all of them

  module _ (rules : IsProgram program) where
    within-over : (used : ℕ) (pair : Pair) → IsWithin used pair → IsOver program rows row pair
    within-over used pair within = record {
      above = within.above;
      stands = within.stands;
      on_way = (on_way-decides program rules row.owner within.above.owner).1 (record { steps = within.steps; leads = within.leads });
      alike = within.alike;
      made = within.made;
    }

    over-all : (used : ℕ) (old new : List Pair)
        → ((above : Id) → is_on_way program row.owner above ≡ true → IsNear used above)
        → Adds (IsWithin used) old new → Adds (IsOver program rows row) old new
    over-all used old new reached adds pair = (to, from) where
      over : Contains old pair ⊎ IsWithin used pair → Contains old pair ⊎ IsOver program rows row pair
      over (inl stands) = inl stands
      over (inr within) = inr (within-over used pair within)

      to : Contains new pair → Contains old pair ⊎ IsOver program rows row pair
      to stands = over ((adds pair).0 stands)

      within : (is : IsOver program rows row pair) (n : ℕ) → n ≤ used → climb program n (Some row.owner) ≡ Some is.above.owner
          → IsWithin used pair
      within is zero most leads = absurd (owners-apart row is.above pair is.made (some-same row.owner is.above.owner leads))
      within is (suc n) most leads = record {
        above = is.above;
        stands = is.stands;
        alike = is.alike;
        made = is.made;
        steps = suc n;
        some = omega arith;
        most = most;
        leads = leads;
      }

      from : Contains old pair ⊎ IsOver program rows row pair → Contains new pair
      from (inl stands) = (adds pair).1 (inl stands)
      from (inr is) =
          let near = reached is.above.owner is.on_way in
          (adds pair).1 (inr (within is near.steps near.most near.leads))

    -- there is no class further up
    pub up-ended : (turns : ℕ) (mark : Id) (old new : List Pair) → IsGoingUp turns None mark old new
        → Adds (IsOver program rows row) old new
    up-ended turns mark old new going = over-all going.used old new reached going.adds where
      near : (above : Id) (n : ℕ) → climb program n (Some row.owner) ≡ Some above → (going.used < n) ⊎ (n ≤ going.used)
          → IsNear going.used above
      near above n leads (inr most) = record { steps = n; most = most; leads = leads }
      near above n leads (inl late) =
          let more = n - suc going.used in
          let all : n ≡ suc going.used + more = omega (arith, late) in
          absurd (none-some above (sym (climb-none program more) ∙ ap (climb program more) going.next
          ∙ sym (climb-on program (suc going.used) more (Some row.owner)) ∙ ap (λ n. climb program n (Some row.owner)) (sym all) ∙ leads))

      reached : (above : Id) → is_on_way program row.owner above ≡ true → IsNear going.used above
      reached above on =
          let led = (on_way-decides program rules row.owner above).0 on in
          near above led.steps led.leads (cases_lt going.used led.steps)

    -- the next class is the mark, so that all further ones are behind it
    pub up-round : (turns : ℕ) (mark : Id) (old new : List Pair) → IsGoingUp turns (Some mark) mark old new
        → Adds (IsOver program rows row) old new
    up-round turns mark old new going = over-all going.used old new reached going.adds where
      near : (above : Id) (fuel n : ℕ) → n < fuel → climb program n (Some row.owner) ≡ Some above → IsNear going.used above
      near above zero n few leads = absurd (omega (arith, few))
      near above (suc fuel) n few leads = by (cases_lt going.used n) (near above fuel) where
        by : (going.used < n) ⊎ (n ≤ going.used)
            → ((n : ℕ) → n < fuel → climb program n (Some row.owner) ≡ Some above → IsNear going.used above) → IsNear going.used above
        by (inr most) more = record { steps = n; most = most; leads = leads }
        by (inl late) more =
            let rest = n - suc going.used in
            let all : n ≡ suc going.used + rest = omega (arith, late) in
            more (going.marked.steps + rest) (omega (arith, few, all, going.marked.most))
            (climb-on program going.marked.steps rest (Some row.owner)
            ∙ ap (climb program rest) (going.marked.leads ∙ going.next)
            ∙ sym (climb-on program (suc going.used) rest (Some row.owner)) ∙ ap (λ n. climb program n (Some row.owner)) (sym all) ∙ leads)

      reached : (above : Id) → is_on_way program row.owner above ≡ true → IsNear going.used above
      reached above on =
          let led = (on_way-decides program rules row.owner above).0 on in near above (suc led.steps) led.steps (omega arith) led.leads

    -- there were as many turns as there are known identities
    pub up-out : (turns : ℕ) (at : Option Id) (mark : Id) (old new : List Pair) → len program.known ≤ turns
        → IsGoingUp turns at mark old new → Adds (IsOver program rows row) old new
    up-out turns at mark old new all going = over-all going.used old new reached going.adds where
      reached : (above : Id) → is_on_way program row.owner above ≡ true → IsNear going.used above
      reached above on =
          let found = walked program (suc (len program.known)) [] row.owner above on in
          record { steps = found.0; most = omega (arith, found.1, all, going.some); leads = found.2 }
