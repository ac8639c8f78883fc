-- Where no pair conflicts, all orders of two histories leave the same program: the histories differ only in cells of what is dead after
-- both.
use Rattle.std.proofs.Common.{◌≡◌, ◌≢◌, ◌∙◌, refl, sym, ap, subst, true≢false, ℕ, List, [], ◌∷◌, Option, None, Some}
use mathlib.Core.Logic.{inl, inr}
use Rattle.std.specs.Prelude.{◌⊎◌, ◌&&◌, Bool, true, false}
use Rattle.std.specs.List.{AllByRecursion, list_any}
use Rattle.std.specs.Option.{option_or}
use Rattle.std.specs.FinMap.{get, entries, same_map}
use Rattle.mol_base.specs.Order.{id_cmp-total, id_cmp-IsAntisymmetric}
use Rattle.mol_base.specs.declared.ident.Id.{Id}
use Rattle.mol_table_rules.specs.Life.{is_living_decl, lives_method, lives, entity_in, is_living_entity}
use Rattle.mol_table_rules.specs.Program.{Program, Knowns, cell, same_id, is_yes, living_at}
use Rattle.mol_table_rules.specs.Rules.{IsProgram}
use Rattle.mol_table_rules.specs.Sameness.{Same}
use Rattle.mol_values_types.specs.declared.cell.Cell.{Cell}
use Rattle.mol_values_types.specs.declared.cell.Slot.TheVariants as slots
use Rattle.mol_values_types.specs.declared.known.Known.{Known}
use Rattle.mol_values_types.specs.declared.known.Known.TheVariants as knowns
use Rattle.mol_values_types.specs.declared.value.Value.{Value}
use Rattle.mol_op.specs.ChangeLaws.{none-some, some-same, get-know_all}
use Rattle.mol_op.specs.Changes.{first_name, last_write, written}
use Rattle.mol_op.specs.EntryLaws.{within-leaves}
use Rattle.mol_op.specs.Operation.{Within}
use Rattle.mol_log_rules.specs.Histories.{Stamped, History, changes, after, last, AppliesOn}
use Rattle.mol_log_rules.specs.Lawful.{AreLawful}
use Rattle.mol_log_rules.specs.Living.{HasNoDead}
use Rattle.mol_merge_rules.specs.TwoLogs.{TagsDiffer}
use Rattle.mol_merge_rules.specs.Interleavings.{Interleaves, done, from_first, from_second}
use Rattle.mol_merge_laws.proofs.Orders.{clash, first-each, last-cells, AgreeAt, order-known, order-cells}
use Rattle.mol_log_rules.proofs.WhatIsLeft.{rules-after, no-cell}
use Rattle.mol_merge_laws.proofs.Lives.{plain, entity_as, lives-known, entity-some, dead-plain, entries-known, any-same, dead-by, dead-decl}

-- ---- one of two values

data OneOf : Option Value → Option Value → Option Value → Type 0 where
  neither : OneOf None None None
  by_first : {v : Value} {m : Option Value} → OneOf (Some v) m (Some v)
  by_second : {v : Value} {l : Option Value} → OneOf l (Some v) (Some v)

one-first : {l m w : Option Value} (x : Option Value) → OneOf l m w → OneOf (option_or l x) m (option_or w x)
one-first None neither = neither
one-first (Some v) neither = by_first
one-first x by_first = by_first
one-first x by_second = by_second

one-second : {l m w : Option Value} (x : Option Value) → OneOf l m w → OneOf l (option_or m x) (option_or w x)
one-second None neither = neither
one-second (Some v) neither = by_second
one-second x by_first = by_first
one-second x by_second = by_second

one-cell : {l m w : Option Value} (b : Option Value) → OneOf l m w → (option_or w b ≡ option_or l b) ⊎ (option_or w b ≡ option_or m b)
one-cell b neither = inl refl
one-cell b by_first = inl refl
one-cell b by_second = inr refl

last-one-of : {one other log : History} → Interleaves one other log → (at : Cell) → OneOf (last one at) (last other at) (last log at)
last-one-of done at = neither
last-one-of (from_first {x = entry} rest) at = one-first (last_write entry.change.writes at) (last-one-of rest at)
last-one-of (from_second {y = entry} rest) at = one-second (last_write entry.change.writes at) (last-one-of rest at)

-- ---- two histories

-- what a history makes known has a tag of it
made-tag : (history : History) (program : Program) → AreLawful history → AppliesOn program history → (id : Id) (what : Known)
    → get program.known id ≡ None
    → get (after program history).known id ≡ Some what → (P : List ℕ → Type 0)
    → AllByRecursion (λ (entry : Stamped). P entry.stamp.tag) history → P id.tag
made-tag [] program laws applies id what none some P all = absurd (clash (get program.known id) what some none)
made-tag (entry ∷ history) program laws applies id what none some P all =
    by (λ e. made-tag history next laws.1 applies.1 id what e some P all.1) (get next.known id) refl where
      next : Program
      next = written program entry.change.writes entry.change.names

      tagged : (k : Known) → (get program.known id ≡ Some k) ⊎ ((get program.known id ≡ None) × (id.tag ≡ entry.stamp.tag)) → P id.tag
      tagged k (inl known) = absurd (clash (get program.known id) k known none)
      tagged k (inr new) = subst P (sym new.1) all.0

      by : (get next.known id ≡ None → P id.tag) → (o : Option Known) → get next.known id ≡ o → P id.tag
      by later None e = later e
      by later (Some k) e =
          tagged k (first-each (λ id k. (get program.known id ≡ Some k) ⊎ ((get program.known id ≡ None) × (id.tag ≡ entry.stamp.tag)))
          entry.change.names
          (laws.0.named program.known applies.0) id k
          (sym (ap (λ o. option_or o (first_name entry.change.names id)) none)
          ∙ sym (get-know_all entry.change.names program.known id) ∙ e))

module _ (base : Program) (one other : History) (laws : AreLawful one) (more : AreLawful other)
    (first : AppliesOn base one) (second : AppliesOn base other) (differ : TagsDiffer one other) (rules : IsProgram base) where
  abbrev L : Program
  L = after base one

  abbrev M : Program
  M = after base other

  pub rules_one : IsProgram L
  rules_one = rules-after base one laws first rules

  pub rules_other : IsProgram M
  rules_other = rules-after base other more second rules

  pub within-one : Within base.known L.known
  within-one = within-leaves (changes one) base

  pub within-other : Within base.known M.known
  within-other = within-leaves (changes other) base

  -- both know only what the base knows
  pub apart : (id : Id) (a b : Known) → get base.known id ≡ None → get L.known id ≡ Some a → get M.known id ≡ Some b → ⊥
  apart id a b none in_one in_other =
      made-tag other base more second id b none in_other (λ tag. id.tag ≢ tag)
      (made-tag one base laws first id a none in_one (λ tag. AllByRecursion (λ (entry : Stamped). tag ≢ entry.stamp.tag) other) differ) refl

  -- a history that does not know an identity writes no cell of it
  pub no-write : (history : History) → IsProgram (after base history) → (at : Cell) → get (after base history).known at.id ≡ None
      → last history at ≡ None
  no-write history is at none = by (last history at) refl where
    by : (o : Option Value) → last history at ≡ o → o ≡ None
    by None e = refl
    by (Some v) e = absurd (none-some v (sym (no-cell (after base history) is at.id at.slot none)
        ∙ last-cells history base at ∙ ap (λ o. option_or o (get base.cells at)) e))

  module _ (alive : HasNoDead base)
      -- no pair conflict of the kinds Twice and GoneChanged
      (twice : (at : Cell) → is_living_entity L at.id ≡ true → is_living_entity M at.id ≡ true → AgreeAt one other at)
      (gone_one : (at : Cell) → is_living_entity base at.id ≡ true → is_living_entity L at.id ≡ false
      → is_living_entity M at.id ≡ true → last other at ≡ None)
      (gone_other : (at : Cell) → is_living_entity base at.id ≡ true → is_living_entity M at.id ≡ false
      → is_living_entity L at.id ≡ true → last one at ≡ None) where
    -- an entity that the base knows, and that lives after a history, lives in the base
    pub alive-at : (left : Program) → Within base.known left.known → (id : Id) (k : Known) → get base.known id ≡ Some k
        → is_living_entity left id ≡ true → is_living_entity base id ≡ true
    alive-at left within id k e lives =
        let found = lives-known left id lives in
        let same : k ≡ found.0 = some-same k found.0 (sym (within id k e) ∙ entity-some (get left.known id) found.0 found.1) in
        alive id found.0 (ap entity_in (e ∙ sym (within id k e)) ∙ found.1)

    unknown-in : (known : Knowns) (id : Id) → ((k : Known) → get known id ≡ Some k → ⊥) → (o : Option Known) → get known id ≡ o
        → get known id ≡ None
    unknown-in known id never None e = e
    unknown-in known id never (Some k) e = absurd (never k e)

    -- what lives after one history alone is written by one alone
    alone-other : (at : Cell) → is_living_entity L at.id ≡ false → is_living_entity M at.id ≡ true → AgreeAt one other at
    alone-other at dead lives x y is also = by (get base.known at.id) refl where
      found : (what : Known) × (entity_in (get M.known at.id) ≡ Some what)
      found = lives-known M at.id lives

      by : (o : Option Known) → get base.known at.id ≡ o → x ≡ y
      by None e = absurd (clash (last one at) x is (no-write one rules_one at
          (unknown-in L.known at.id (λ k so. apart at.id k found.0 e so (entity-some (get M.known at.id) found.0 found.1))
          (get L.known at.id) refl)))
      by (Some k) e = absurd (clash (last other at) y also (gone_one at (alive-at M within-other at.id k e lives) dead lives))

    alone-one : (at : Cell) → is_living_entity M at.id ≡ false → is_living_entity L at.id ≡ true → AgreeAt one other at
    alone-one at dead lives x y is also = by (get base.known at.id) refl where
      found : (what : Known) × (entity_in (get L.known at.id) ≡ Some what)
      found = lives-known L at.id lives

      by : (o : Option Known) → get base.known at.id ≡ o → x ≡ y
      by None e = absurd (clash (last other at) y also (no-write other rules_other at
          (unknown-in M.known at.id (λ k so. apart at.id found.0 k e (entity-some (get L.known at.id) found.0 found.1) so)
          (get M.known at.id) refl)))
      by (Some k) e = absurd (clash (last one at) x is (gone_other at (alive-at L within-one at.id k e lives) dead lives))

    -- the histories agree at each cell of what is not dead after both
    agree-unless : (at : Cell) → (is_living_entity L at.id ≡ false → is_living_entity M at.id ≡ false → ⊥) → AgreeAt one other at
    agree-unless at some = by (is_living_entity L at.id) refl (is_living_entity M at.id) refl where
      by : (l : Bool) → is_living_entity L at.id ≡ l → (m : Bool) → is_living_entity M at.id ≡ m → AgreeAt one other at
      by true l true m = twice at l m
      by true l false m = alone-one at m l
      by false l true m = alone-other at l m
      by false l false m = absurd (some l m)

    module _ (log : History) (order : Interleaves one other log) where
      abbrev W : Program
      W = after base log

      pub known-is : (id : Id) → get W.known id ≡ option_or (get L.known id) (get M.known id)
      known-is = order-known base one other laws more first second differ log order

      -- of what is known after an order, each history knows the same or nothing
      pub from-one : (id : Id) (what : Known) → get W.known id ≡ Some what → (get L.known id ≡ None) ⊎ (get L.known id ≡ Some what)
      from-one id what is = by (get L.known id) refl where
        by : (o : Option Known) → get L.known id ≡ o → (get L.known id ≡ None) ⊎ (get L.known id ≡ Some what)
        by None e = inl e
        by (Some k) e = inr (e ∙ sym (known-is id ∙ ap (λ o. option_or o (get M.known id)) e) ∙ is)

      pub from-other : (id : Id) (what : Known) → get W.known id ≡ Some what → (get M.known id ≡ None) ⊎ (get M.known id ≡ Some what)
      from-other id what is = by (get M.known id) refl (get L.known id) refl where
        by : (o : Option Known) → get M.known id ≡ o → (p : Option Known) → get L.known id ≡ p
            → (get M.known id ≡ None) ⊎ (get M.known id ≡ Some what)
        by None e p f = inl e
        by (Some k) e None f = inr (sym (known-is id ∙ ap (λ o. option_or o (get M.known id)) f) ∙ is)
        by (Some k) e (Some l) f = at (get base.known id) refl where
          at : (o : Option Known) → get base.known id ≡ o → (get M.known id ≡ None) ⊎ (get M.known id ≡ Some what)
          at None none = absurd (apart id l k none f e)
          at (Some b) known = inr (within-other id b known ∙ sym (within-one id b known) ∙ f
              ∙ sym (known-is id ∙ ap (λ o. option_or o (get M.known id)) f) ∙ is)

      -- a cell has the value that one of the histories leaves
      one-of-cells : (at : Cell) → (get W.cells at ≡ get L.cells at) ⊎ (get W.cells at ≡ get M.cells at)
      one-of-cells at = by (one-cell (get base.cells at) (last-one-of order at)) where
        w : get W.cells at ≡ option_or (last log at) (get base.cells at)
        w = last-cells log base at

        by : (option_or (last log at) (get base.cells at) ≡ option_or (last one at) (get base.cells at))
            ⊎ (option_or (last log at) (get base.cells at) ≡ option_or (last other at) (get base.cells at))
            → (get W.cells at ≡ get L.cells at) ⊎ (get W.cells at ≡ get M.cells at)
        by (inl e) = inl (w ∙ e ∙ sym (last-cells one base at))
        by (inr e) = inr (w ∙ e ∙ sym (last-cells other base at))

      dead-at : (id : Id) → living_at L id ≡ false → living_at M id ≡ false → living_at W id ≡ false
      dead-at id l m = by (one-of-cells (cell id slots.Live)) where
        by : (get W.cells (cell id slots.Live) ≡ get L.cells (cell id slots.Live))
            ⊎ (get W.cells (cell id slots.Live) ≡ get M.cells (cell id slots.Live)) → living_at W id ≡ false
        by (inl e) = ap is_yes e ∙ l
        by (inr e) = ap is_yes e ∙ m

      dead-plain-at : (id : Id) (what : Known) → plain what ≡ true → get W.known id ≡ Some what → is_living_entity L id ≡ false
          → is_living_entity M id ≡ false → living_at W id ≡ false
      dead-plain-at id what is known l m =
          dead-at id (dead-plain L rules_one id what is l (from-one id what known))
          (dead-plain M rules_other id what is m (from-other id what known))

      dead-method : (id : Id) → is_living_entity L id ≡ false → is_living_entity M id ≡ false → lives_method W id ≡ false
      dead-method id l m = dead-by W id (λ decl known. dead-at decl
          (dead-decl L rules_one id decl l (from-one decl (knowns.Decl id) known))
          (dead-decl M rules_other id decl m (from-other decl (knowns.Decl id) known)))

      -- what is dead after both histories is dead after each order
      pub dead : (id : Id) → is_living_entity L id ≡ false → is_living_entity M id ≡ false → is_living_entity W id ≡ false
      dead id l m = by (get W.known id) refl where
        by : (o : Option Known) → get W.known id ≡ o → entity_as W id (get W.known id) ≡ false
        by None e = ap (entity_as W id) e
        by (Some (knowns.Param method)) e = ap (entity_as W id) e
        by (Some (knowns.Method kind)) e = ap (entity_as W id) e ∙ dead-method id l m
        by (Some knowns.Class) e = ap (entity_as W id) e ∙ dead-plain-at id knowns.Class refl e l m
        by (Some knowns.Field) e = ap (entity_as W id) e ∙ dead-plain-at id knowns.Field refl e l m
        by (Some (knowns.Decl method)) e = ap (entity_as W id) e ∙ dead-plain-at id (knowns.Decl method) refl e l m

    -- ---- two orders

    module _ (log also : History) (order : Interleaves one other log) (too : Interleaves one other also) where
      abbrev here : Program
      here = after base log

      abbrev there : Program
      there = after base also

      pub same-known : (id : Id) → get here.known id ≡ get there.known id
      same-known id = known-is log order id ∙ sym (known-is also too id)

      same-cells : (at : Cell) → AgreeAt one other at → get here.cells at ≡ get there.cells at
      same-cells at agree =
          order-cells base one other laws more first second differ log order at agree
          ∙ sym (order-cells base one other laws more first second differ also too at agree)

      -- what has a cell of its own that says whether it lives
      same-plain : (id : Id) (what : Known) → get here.known id ≡ Some what → plain what ≡ true → living_at here id ≡ living_at there id
      same-plain id what known is = by (is_living_entity L id) refl (is_living_entity M id) refl where
        agreed : (is_living_entity L id ≡ false → is_living_entity M id ≡ false → ⊥) → living_at here id ≡ living_at there id
        agreed some = ap is_yes (same-cells (cell id slots.Live) (agree-unless (cell id slots.Live) some))

        by : (l : Bool) → is_living_entity L id ≡ l → (m : Bool) → is_living_entity M id ≡ m → living_at here id ≡ living_at there id
        by true l m e = agreed (λ gone _. true≢false (sym l ∙ gone))
        by false l true e = agreed (λ _ gone. true≢false (sym e ∙ gone))
        by false l false e =
            dead-plain-at log order id what is known l e ∙ sym (dead-plain-at also too id what is (sym (same-known id) ∙ known) l e)

      same-decl : (method id : Id) (what : Known) → get here.known id ≡ Some what
          → is_living_decl here method (id, what) ≡ is_living_decl there method (id, what)
      same-decl method id knowns.Class known = refl
      same-decl method id knowns.Field known = refl
      same-decl method id (knowns.Method kind) known = refl
      same-decl method id (knowns.Param of) known = refl
      same-decl method id (knowns.Decl of) known = ap (λ b. same_id method of && b) (same-plain id (knowns.Decl of) known refl)

      same-method : (method : Id) → lives_method here method ≡ lives_method there method
      same-method method =
          any-same (is_living_decl here method) (is_living_decl there method) (entries here.known)
          (at (entries here.known) (entries-known here.known))
          ∙ ap (λ known. list_any (is_living_decl there method) (entries known))
          (same_map id_cmp-total id_cmp-IsAntisymmetric here.known there.known same-known)
        where
          at : (part : List (Id × Known)) → AllByRecursion (λ e. get here.known e.0 ≡ Some e.1) part
              → AllByRecursion (λ e. is_living_decl here method e ≡ is_living_decl there method e) part
          at [] all = tt {0}
          at (e ∷ part) all = (same-decl method e.0 e.1 all.0, at part all.1)

      same-life : (id : Id) → is_living_entity here id ≡ is_living_entity there id
      same-life id = by (get here.known id) refl ∙ ap (entity_as there id) (same-known id) where
        by : (o : Option Known) → get here.known id ≡ o → entity_as here id (get here.known id) ≡ entity_as there id (get here.known id)
        by None e = ap (entity_as here id) e ∙ sym (ap (entity_as there id) e)
        by (Some (knowns.Param method)) e = ap (entity_as here id) e ∙ sym (ap (entity_as there id) e)
        by (Some (knowns.Method kind)) e = ap (entity_as here id) e ∙ same-method id ∙ sym (ap (entity_as there id) e)
        by (Some knowns.Class) e = ap (entity_as here id) e ∙ same-plain id knowns.Class e refl ∙ sym (ap (entity_as there id) e)
        by (Some knowns.Field) e = ap (entity_as here id) e ∙ same-plain id knowns.Field e refl ∙ sym (ap (entity_as there id) e)
        by (Some (knowns.Decl method)) e = ap (entity_as here id) e ∙ same-plain id (knowns.Decl method) e refl
            ∙ sym (ap (entity_as there id) e)

      -- two orders leave the same program
      pub orders-same : Same here there
      orders-same = record {
        living = same-life;
        agree = λ id slot lives. same-cells (cell id slot)
            (agree-unless (cell id slot) (λ l m. true≢false (sym lives ∙ dead log order id l m)));
      }
