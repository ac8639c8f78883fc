-- Where no entries are in conflict, what a history knows and lives in the united program lives after the history.
use Rattle.std.proofs.Common.{◌≡◌, ◌≢◌, ◌∙◌, refl, sym, ap, subst, zero, true≢false, [], ◌++◌, Option, None, Some, Contains, arith}
use mathlib.Core.Logic.{inl, inr}
use Rattle.std.specs.FinMap.{get}
use Rattle.std.specs.Option.{option_or}
use Rattle.std.specs.Prelude.{◌⊎◌, Bool, true, false, is_some}
use Rattle.mol_base.proofs.Tags.{both_true}
use Rattle.mol_base.specs.declared.ident.Id.{Id}
use Rattle.mol_log_rules.proofs.WhatIsLeft.{no-cell}
use Rattle.mol_log_rules.specs.Histories.{History, after, last, AppliesOn}
use Rattle.mol_log_rules.specs.Lawful.{AreLawful}
use Rattle.mol_log_rules.specs.Living.{HasNoDead}
use Rattle.mol_merge_laws.proofs.Commutes.{no-pair, twice, gone_one, gone_other}
use Rattle.mol_merge_laws.proofs.Lives.{plain, entity_as, entity-plain, dead-plain, dead-decl, lives-known, entity-some, decl-lives}
use Rattle.mol_merge_laws.proofs.Orders.{all_in_order, last-cells, clash}
use Rattle.mol_merge_laws.proofs.Sameness.{rules_one, rules_other, apart, no-write, within-one, within-other, alive-at, from-one, from-other, dead}
use Rattle.mol_merge_laws.proofs.UnitedIs.{united-is}
use Rattle.mol_merge_rules.specs.PairConflicts as pairs
use Rattle.mol_merge_rules.specs.PairConflicts.{Pair, IsGone, ArePairs}
use Rattle.mol_merge_rules.specs.TwoLogs.{TagsDiffer}
use Rattle.mol_merge_rules.specs.United.{united}
use Rattle.mol_merge_laws.proofs.MergedLog.{each-of}
use Rattle.mol_op.specs.ChangeLaws.{none-some, some-same}
use Rattle.mol_op.specs.Operation.{Within}
use Rattle.mol_table_rules.specs.Forms.{is_formed}
use Rattle.mol_table_rules.specs.Life.{is_living_entity, lives_as, lives_method, entity_in}
use Rattle.mol_table_rules.specs.Mentions.{Mention, a_class, mentions}
use Rattle.mol_table_rules.specs.Program.{Program, cell, is_yes, living_at, value_at}
use Rattle.mol_table_rules.specs.Rules.{IsProgram, fills}
use Rattle.mol_table_rules.specs.Tidy.{references}
use Rattle.mol_spell_rules.specs.Clean.{Clean}
use Rattle.mol_values_types.specs.Slots.{has_slot, same_slot, slot_of}
use Rattle.mol_values_types.specs.declared.cell.Cell.{Cell}
use Rattle.mol_values_types.specs.declared.cell.Slot.{Slot}
use Rattle.mol_values_types.specs.declared.cell.Slot.TheVariants as slots
use Rattle.mol_values_types.specs.declared.known.Known.{Known}
use Rattle.mol_values_types.specs.declared.known.Known.TheVariants as knowns
use Rattle.mol_values_types.specs.declared.value.Value.{Value}
use Rattle.mol_values_types.specs.declared.value.Value.TheVariants as values

-- a declaration holds its method
held : (program : Program) → IsProgram program → (decl method : Id) → get program.known decl ≡ Some (knowns.Decl method)
    → value_at program decl slots.Method ≡ Some (values.Method method)
held program rules decl method known = by (value_at program decl slots.Method) refl where
  formed : (value : Value) → value_at program decl slots.Method ≡ Some value → same_slot (slot_of value) slots.Method ≡ true
  formed value is =
      (both_true (same_slot (slot_of value) slots.Method) (is_formed (knowns.Decl method) value)
      (rules.forms decl slots.Method (knowns.Decl method) value known is)).0

  by-value : (value : Value) → value_at program decl slots.Method ≡ Some value → same_slot (slot_of value) slots.Method ≡ true
      → Some value ≡ Some (values.Method method)
  by-value (values.Live live) is form = absurd (true≢false (sym form))
  by-value (values.Package name) is form = absurd (true≢false (sym form))
  by-value (values.Owner owner) is form = absurd (true≢false (sym form))
  by-value (values.Method own) is form = ap (λ m. Some (values.Method m))
      (method_is (some-same _ _ (sym (rules.methods decl own is) ∙ known))) where
        of : Known → Id
        of (knowns.Decl id) = id
        of other = decl

        method_is : knowns.Decl own ≡ knowns.Decl method → own ≡ method
        method_is same = ap of same
  by-value (values.Name name) is form = absurd (true≢false (sym form))
  by-value (values.Super parent) is form = absurd (true≢false (sym form))
  by-value (values.Result ty) is form = absurd (true≢false (sym form))
  by-value (values.Params params) is form = absurd (true≢false (sym form))
  by-value (values.Kind kind) is form = absurd (true≢false (sym form))
  by-value (values.Fixed fixed) is form = absurd (true≢false (sym form))
  by-value (values.Words words) is form = absurd (true≢false (sym form))
  by-value (values.Notes notes) is form = absurd (true≢false (sym form))
  by-value (values.Body body) is form = absurd (true≢false (sym form))
  by-value (values.Value ty init) is form = absurd (true≢false (sym form))

  by : (o : Option Value) → value_at program decl slots.Method ≡ o → o ≡ Some (values.Method method)
  by None is = absurd (true≢false (sym (sym (ap is_some is) ∙ rules.whole decl slots.Method ∙ ap (λ k. has_slot k slots.Method) known)))
  by (Some value) is = by-value value is (formed value is)

-- ---- slots that name a class above

-- none of them holds a value with words that are tidied
fixed-above : (value : Value) (slot : Slot) → (slot ≡ slots.Owner) ⊎ (slot ≡ slots.Super) → same_slot (slot_of value) slot ≡ true
    → (program : Program) → references program value ≡ mentions value
fixed-above (values.Live live) slot above form program = refl
fixed-above (values.Package name) slot above form program = refl
fixed-above (values.Owner owner) slot above form program = refl
fixed-above (values.Method method) slot above form program = refl
fixed-above (values.Name name) slot above form program = refl
fixed-above (values.Super parent) slot above form program = refl
fixed-above (values.Result ty) slot above form program = refl
fixed-above (values.Params params) slot above form program = refl
fixed-above (values.Kind kind) slot above form program = refl
fixed-above (values.Fixed fixed) slot above form program = refl
fixed-above (values.Words words) slot above form program = refl
fixed-above (values.Notes notes) slot above form program = refl
fixed-above (values.Body body) slot (inl is) form program = absurd (true≢false (sym form ∙ ap (same_slot slots.Body) is))
fixed-above (values.Body body) slot (inr is) form program = absurd (true≢false (sym form ∙ ap (same_slot slots.Body) is))
fixed-above (values.Value ty init) slot (inl is) form program = absurd (true≢false (sym form ∙ ap (same_slot slots.Value) is))
fixed-above (values.Value ty init) slot (inr is) form program = absurd (true≢false (sym form ∙ ap (same_slot slots.Value) is))

-- what has one of them lives by a cell of its own
plain-above : (known : Known) (slot : Slot) → (slot ≡ slots.Owner) ⊎ (slot ≡ slots.Super) → has_slot (Some known) slot ≡ true
    → plain known ≡ true
plain-above knowns.Class slot above has = refl
plain-above knowns.Field slot above has = refl
plain-above (knowns.Decl method) slot above has = refl
plain-above (knowns.Method kind) slot (inl is) has = absurd (true≢false (sym has ∙ ap (has_slot (Some (knowns.Method kind))) is))
plain-above (knowns.Method kind) slot (inr is) has = absurd (true≢false (sym has ∙ ap (has_slot (Some (knowns.Method kind))) is))
plain-above (knowns.Param method) slot above has = absurd (true≢false (sym has))

-- what fills the place of a class is one
class-filled : (owner : Id) (o : Option Known) → fills owner a_class o ≡ true → o ≡ Some knowns.Class
class-filled owner None fit = absurd (true≢false (sym fit))
class-filled owner (Some knowns.Class) fit = refl
class-filled owner (Some knowns.Field) fit = absurd (true≢false (sym fit))
class-filled owner (Some (knowns.Decl method)) fit = absurd (true≢false (sym fit))
class-filled owner (Some (knowns.Method kind)) fit = absurd (true≢false (sym fit))
class-filled owner (Some (knowns.Param method)) fit = absurd (true≢false (sym fit))

-- ---- two histories of which no entries are in conflict

module _ (decide : (x y : Value) → (x ≡ y) ⊎ (x ≢ y)) (base : Program) (one other : History) (laws : AreLawful one) (more : AreLawful other)
    (first : AppliesOn base one) (second : AppliesOn base other) (differ : TagsDiffer one other) (rules : IsProgram base)
    (alive : HasNoDead base) (none : ArePairs base one other []) where
  abbrev L : Program
  L = after base one

  abbrev M : Program
  M = after base other

  abbrev U : Program
  U = united base one other

  pub no : (pair : Pair) → pairs.IsPair base one other pair → ⊥
  no = no-pair decide base one other laws more first second differ rules alive none

  pub rules_l : IsProgram L
  rules_l = rules_one base one other laws more first second differ rules

  pub rules_m : IsProgram M
  rules_m = rules_other base one other laws more first second differ rules

  pub within-l : Within base.known L.known
  within-l = within-one base one other laws more first second differ rules

  pub within-m : Within base.known M.known
  within-m = within-other base one other laws more first second differ rules

  pub no-write-m : (at : Cell) → get M.known at.id ≡ None → last other at ≡ None
  no-write-m = no-write base one other laws more first second differ rules other rules_m

  -- both know only what the base knows
  pub both-know : (id : Id) (a b : Known) → get base.known id ≡ None → get L.known id ≡ Some a → get M.known id ≡ Some b → ⊥
  both-know = apart base one other laws more first second differ rules

  pub alive-in : (left : Program) → Within base.known left.known → (id : Id) (k : Known) → get base.known id ≡ Some k
      → is_living_entity left id ≡ true → is_living_entity base id ≡ true
  alive-in =
      alive-at base one other laws more first second differ rules alive
      (twice decide base one other laws more first second differ rules alive none)
      (gone_one decide base one other laws more first second differ rules alive none)
      (gone_other decide base one other laws more first second differ rules alive none)

  known-l : (id : Id) (what : Known) → get U.known id ≡ Some what → (get L.known id ≡ None) ⊎ (get L.known id ≡ Some what)
  known-l =
      from-one base one other laws more first second differ rules alive
      (twice decide base one other laws more first second differ rules alive none)
      (gone_one decide base one other laws more first second differ rules alive none)
      (gone_other decide base one other laws more first second differ rules alive none)
      (one ++ other) (all_in_order one other)

  known-m : (id : Id) (what : Known) → get U.known id ≡ Some what → (get M.known id ≡ None) ⊎ (get M.known id ≡ Some what)
  known-m =
      from-other base one other laws more first second differ rules alive
      (twice decide base one other laws more first second differ rules alive none)
      (gone_one decide base one other laws more first second differ rules alive none)
      (gone_other decide base one other laws more first second differ rules alive none)
      (one ++ other) (all_in_order one other)

  dead-in : (id : Id) → is_living_entity L id ≡ false → is_living_entity M id ≡ false → is_living_entity U id ≡ false
  dead-in =
      dead base one other laws more first second differ rules alive
      (twice decide base one other laws more first second differ rules alive none)
      (gone_one decide base one other laws more first second differ rules alive none)
      (gone_other decide base one other laws more first second differ rules alive none)
      (one ++ other) (all_in_order one other)

  pub in-united : (id : Id) (what : Known) → get L.known id ≡ Some what → get U.known id ≡ Some what
  in-united id what in_l = (united-is base one other).known id ∙ ap (λ o. option_or o (get M.known id)) in_l

  -- a cell that the other history does not write holds what the one leaves
  pub unwritten : (at : Cell) → last other at ≡ None → get U.cells at ≡ get L.cells at
  unwritten at e =
      (united-is base one other).cells at ∙ ap (λ o. option_or o (option_or (last one at) (get base.cells at))) e
      ∙ sym (last-cells one base at)

  -- and one that it writes what the other leaves
  pub written-by : (at : Cell) (v : Value) → last other at ≡ Some v → get U.cells at ≡ get M.cells at
  written-by at v e =
      (united-is base one other).cells at ∙ ap (λ o. option_or o (option_or (last one at) (get base.cells at))) e
      ∙ sym (last-cells other base at ∙ ap (λ o. option_or o (get base.cells at)) e)

  -- what lives in the united program and not after the one history has its life from the other
  life-from : (id : Id) → living_at U id ≡ true → living_at L id ≡ false
      → (is_some (last other (cell id slots.Live)) ≡ true) × (living_at M id ≡ true)
  life-from id lives dead = by (last other (cell id slots.Live)) refl where
    by : (o : Option Value) → last other (cell id slots.Live) ≡ o
        → (is_some (last other (cell id slots.Live)) ≡ true) × (living_at M id ≡ true)
    by None e = absurd (true≢false (sym lives ∙ ap is_yes (unwritten (cell id slots.Live) e) ∙ dead))
    by (Some v) e = (ap is_some e, ap is_yes (sym (written-by (cell id slots.Live) v e)) ∙ lives)

  -- an entity that is gone after the one is not written by the other
  never-changed : (at : Cell) → IsGone base one other at.id → is_some (last other at) ≡ true → ⊥
  never-changed at gone some = no (pairs.gone_changed at.id) (pairs.gone_after_one (pairs.changed at gone some))

  module _ (id : Id) (dead_l : is_living_entity L id ≡ false) (lives_m : is_living_entity M id ≡ true) (b : Known)
      (known : get base.known id ≡ Some b) where
    gone : IsGone base one other id
    gone = record {
      lived = alive-in M within-m id b known lives_m;
      dead = dead_l;
      lives = lives_m;
    }

    plainly : (what : Known) → plain what ≡ true → get U.known id ≡ Some what → is_living_entity U id ≡ true
        → (get L.known id ≡ None) ⊎ (get L.known id ≡ Some what) → ⊥
    plainly what is in_u lives in_l =
        never-changed (cell id slots.Live) gone
        (life-from id (sym (ap (entity_as U id) in_u ∙ entity-plain U id what is) ∙ lives) (dead-plain L rules_l id what is dead_l in_l)).0

    -- a method that lives by a declaration which the other history added
    added : (decl : Id) → get M.known decl ≡ Some (knowns.Decl id) → get base.known decl ≡ None → living_at M decl ≡ true → ⊥
    added decl in_m new lives = by (last other (cell decl slots.Method)) refl where
      here : value_at M decl slots.Method ≡ Some (values.Method id)
      here = held M rules_m decl id in_m

      by : (o : Option Value) → last other (cell decl slots.Method) ≡ o → ⊥
      by None e = none-some (values.Method id) (sym (last-cells other base (cell decl slots.Method)
          ∙ (λ i. option_or (e i) (no-cell base rules decl slots.Method new i))) ∙ here)
      by (Some v) e =
          let is : v ≡ values.Method id = some-same v (values.Method id)
          (sym (last-cells other base (cell decl slots.Method)
          ∙ ap (λ o. option_or o (get base.cells (cell decl slots.Method))) e) ∙ here) in
          no (pairs.gone_used id (cell decl slots.Method)) (pairs.gone_after_one (pairs.used gone
          (ap (entity_as M decl) in_m ∙ lives) (e ∙ ap (λ v. Some v) is) (zero, omega arith, refl)))

    -- or by one of the base
    of-base : (decl : Id) (what : Known) → get base.known decl ≡ Some what → get L.known decl ≡ Some (knowns.Decl id)
        → get M.known decl ≡ Some (knowns.Decl id)
        → living_at L decl ≡ false → living_at M decl ≡ true → is_some (last other (cell decl slots.Live)) ≡ true → ⊥
    of-base decl what in_base in_l in_m dead lives some =
        never-changed (cell decl slots.Live) (record {
          lived = alive decl (knowns.Decl id) (ap entity_in (in_base ∙ sym (within-m decl what in_base) ∙ in_m));
          dead = ap (entity_as L decl) in_l ∙ dead;
          lives = ap (entity_as M decl) in_m ∙ lives;
        }) some

    by-method : get U.known id ≡ get U.known id → lives_method U id ≡ true → ⊥
    by-method _ lives = at (get M.known d.0) refl (get base.known d.0) refl where
      d : (decl : Id) × (get U.known decl ≡ Some (knowns.Decl id)) × (living_at U decl ≡ true)
      d = decl-lives U id lives

      from_l : (get L.known d.0 ≡ None) ⊎ (get L.known d.0 ≡ Some (knowns.Decl id))
      from_l = known-l d.0 (knowns.Decl id) d.1

      from_m : (get M.known d.0 ≡ None) ⊎ (get M.known d.0 ≡ Some (knowns.Decl id))
      from_m = known-m d.0 (knowns.Decl id) d.1

      dead : living_at L d.0 ≡ false
      dead = dead-decl L rules_l id d.0 dead_l from_l

      life : (is_some (last other (cell d.0 slots.Live)) ≡ true) × (living_at M d.0 ≡ true)
      life = life-from d.0 d.2 dead

      at : (m : Option Known) → get M.known d.0 ≡ m → (k : Option Known) → get base.known d.0 ≡ k → ⊥
      at None e k f = true≢false (sym life.0 ∙ ap is_some (no-write-m (cell d.0 slots.Live) e))
      at (Some m) e None f = by from_m where
        by : (get M.known d.0 ≡ None) ⊎ (get M.known d.0 ≡ Some (knowns.Decl id)) → ⊥
        by (inl nothing) = clash (get M.known d.0) m e nothing
        by (inr is) = added d.0 is f life.1
      at (Some m) e (Some k) f = by from_l from_m where
        by : (get L.known d.0 ≡ None) ⊎ (get L.known d.0 ≡ Some (knowns.Decl id))
            → (get M.known d.0 ≡ None) ⊎ (get M.known d.0 ≡ Some (knowns.Decl id)) → ⊥
        by (inl nothing) other_one = clash (get L.known d.0) k (within-l d.0 k f) nothing
        by (inr l) (inl nothing) = clash (get M.known d.0) m e nothing
        by (inr l) (inr is) = of-base d.0 k f l is dead life.1 life.0

    -- so nothing that is gone after the one lives in the united program
    never : is_living_entity U id ≡ true → (what : Known) → get L.known id ≡ Some what → get U.known id ≡ Some what → ⊥
    never lives knowns.Class in_l in_u = plainly knowns.Class refl in_u lives (inr in_l)
    never lives knowns.Field in_l in_u = plainly knowns.Field refl in_u lives (inr in_l)
    never lives (knowns.Decl method) in_l in_u = plainly (knowns.Decl method) refl in_u lives (inr in_l)
    never lives (knowns.Param method) in_l in_u = true≢false (sym lives ∙ ap (entity_as U id) in_u)
    never lives (knowns.Method kind) in_l in_u = by-method refl (sym (ap (entity_as U id) in_u) ∙ lives)

  pub united-lives : (id : Id) (what : Known) → get L.known id ≡ Some what → is_living_entity U id ≡ true → is_living_entity L id ≡ true
  united-lives id what in_l lives = by (is_living_entity L id) refl (is_living_entity M id) refl (get base.known id) refl where
    in_u : get U.known id ≡ Some what
    in_u = in-united id what in_l

    by : (l : Bool) → is_living_entity L id ≡ l → (m : Bool) → is_living_entity M id ≡ m → (k : Option Known) → get base.known id ≡ k
        → l ≡ true
    by true l m e k f = refl
    by false l false e k f = absurd (true≢false (sym lives ∙ dead-in id l e))
    by false l true e (Some b) f = absurd (never id l e b f lives what in_l in_u)
    by false l true e None f =
        let found = lives-known M id e in
        absurd (both-know id what found.0 f in_l (entity-some (get M.known id) found.0 found.1))

  -- ---- what is named

  module _ (clean : Clean M) where
    -- a class that lives after the one history and not in the united program is gone after the other
    dead-class : (k : Id) → get L.known k ≡ Some knowns.Class → is_living_entity L k ≡ true → is_living_entity U k ≡ false
        → IsGone base other one k
    dead-class k in_l lives_l dead_u = at (get base.known k) refl where
      in_u : get U.known k ≡ Some knowns.Class
      in_u = (united-is base one other).known k ∙ ap (λ o. option_or o (get M.known k)) in_l

      l : living_at L k ≡ true
      l = sym (ap (entity_as L k) in_l) ∙ lives_l

      u : living_at U k ≡ false
      u = sym (ap (entity_as U k) in_u) ∙ dead_u

      -- its life was written by the other
      written : (o : Option Value) → last other (cell k slots.Live) ≡ o
          → (is_some (last other (cell k slots.Live)) ≡ true) × (living_at M k ≡ false)
      written None e = absurd (true≢false (sym l ∙ sym (ap is_yes (unwritten (cell k slots.Live) e)) ∙ u))
      written (Some v) e = (ap is_some e, sym (ap is_yes (written-by (cell k slots.Live) v e)) ∙ u)

      life : (is_some (last other (cell k slots.Live)) ≡ true) × (living_at M k ≡ false)
      life = written (last other (cell k slots.Live)) refl

      m-known : (m : Option Known) → get M.known k ≡ m → (what : Known) × (get M.known k ≡ Some what)
      m-known None e = absurd (true≢false (sym life.0 ∙ ap is_some (no-write-m (cell k slots.Live) e)))
      m-known (Some what) e = (what, e)

      found : (what : Known) × (get M.known k ≡ Some what)
      found = m-known (get M.known k) refl

      at : (b : Option Known) → get base.known k ≡ b → IsGone base other one k
      at None e = absurd (both-know k knowns.Class found.0 e in_l found.1)
      at (Some b) e = record {
        lived = alive-in L within-l k b e lives_l;
        dead = ap (entity_as M k) (within-m k b e ∙ sym (within-l k b e) ∙ in_l) ∙ life.1;
        lives = lives_l;
      }

    -- what is gone after the other is known there as it is after the one
    class-there : (k : Id) → IsGone base other one k → get L.known k ≡ Some knowns.Class → get M.known k ≡ Some knowns.Class
    class-there k gone in_l =
        let found = lives-known base k gone.lived in
        let before = entity-some (get base.known k) found.0 found.1 in
        within-m k found.0 before ∙ sym (within-l k found.0 before) ∙ in_l

    -- A class that a cell names, which both hold alike and whose entity lives in the united program, lives there where it lives after the
    -- one.
    targets : (at : Cell) (value : Value) (what : Known) (k : Id) → plain what ≡ true
        → ((program : Program) → references program value ≡ mentions value)
        → get L.known at.id ≡ Some what → is_living_entity U at.id ≡ true
        → get U.cells at ≡ Some value → get L.cells at ≡ Some value → Contains (mentions value) (record { role = a_class; id = k })
        → get L.known k ≡ Some knowns.Class → is_living_entity L k ≡ true → is_living_entity U k ≡ true
    targets at value what k is fixed in_l lives_u held_u held_l names class lives_k = by (is_living_entity U k) refl where
      named_in : (program : Program) → Contains (references program value) (record { role = a_class; id = k })
      named_in program = subst (λ these. Contains these (record { role = a_class; id = k })) (sym (fixed program)) names

      lives_l : is_living_entity L at.id ≡ true
      lives_l = united-lives at.id what in_l lives_u

      in_u : get U.known at.id ≡ Some what
      in_u = (united-is base one other).known at.id ∙ ap (λ o. option_or o (get M.known at.id)) in_l

      -- where the one did not write the cell, the other leaves it too
      held-m : last one at ≡ None → (o : Option Value) → last other at ≡ o → get M.cells at ≡ Some value
      held-m e None f = last-cells other base at ∙ ap (λ o. option_or o (get base.cells at)) f
          ∙ sym (last-cells one base at ∙ ap (λ o. option_or o (get base.cells at)) e) ∙ held_l
      held-m e (Some w) f = sym (written-by at w f) ∙ held_u

      used-by : (v : Value) → last one at ≡ Some v → IsGone base other one k → ⊥
      used-by v e gone =
          let same : v ≡ value = some-same v value (sym (last-cells one base at ∙ ap (λ o. option_or o (get base.cells at)) e) ∙ held_l) in
          no (pairs.gone_used k at) (pairs.gone_after_other (pairs.used gone lives_l (e ∙ ap (λ v. Some v) same) (named_in L)))

      unused : last one at ≡ None → IsGone base other one k → ⊥
      unused e gone = life (is_living_entity M at.id) refl where
        m : get M.cells at ≡ Some value
        m = held-m e (last other at) refl

        m-known : (o : Option Known) → get M.known at.id ≡ o → (found : Known) × (get M.known at.id ≡ Some found)
        m-known None f = absurd (none-some value (sym (no-cell M rules_m at.id at.slot f) ∙ m))
        m-known (Some found) f = (found, f)

        found : (known : Known) × (get M.known at.id ≡ Some known)
        found = m-known (get M.known at.id) refl

        -- the entity is of the base, and gone after the other: then the one wrote its life
        dead-there : is_living_entity M at.id ≡ false → (b : Option Known) → get base.known at.id ≡ b → ⊥
        dead-there d None f = both-know at.id what found.0 f in_l found.1
        dead-there d (Some b) f = by_life (last one (cell at.id slots.Live)) refl where
          m_is : get M.known at.id ≡ Some what
          m_is = within-m at.id b f ∙ sym (within-l at.id b f) ∙ in_l

          u : living_at U at.id ≡ true
          u = sym (ap (entity_as U at.id) in_u ∙ entity-plain U at.id what is) ∙ lives_u

          not_m : living_at M at.id ≡ false
          not_m = sym (ap (entity_as M at.id) m_is ∙ entity-plain M at.id what is) ∙ d

          by_life : (o : Option Value) → last one (cell at.id slots.Live) ≡ o → ⊥
          by_life (Some v) g = no (pairs.gone_changed at.id) (pairs.gone_after_other (pairs.changed (cell at.id slots.Live) (record {
            lived = alive-in L within-l at.id b f lives_l;
            dead = d;
            lives = lives_l;
          }) (ap is_some g)))
          by_life None g = true≢false (sym u ∙ ap is_yes ((united-is base one other).cells (cell at.id slots.Live)
              ∙ (λ i. option_or (last other (cell at.id slots.Live)) (option_or (g i) (get base.cells (cell at.id slots.Live))))
              ∙ sym (last-cells other base (cell at.id slots.Live))) ∙ not_m)

        life : (b : Bool) → is_living_entity M at.id ≡ b → ⊥
        life true f = clean.present at k (record {
          owner_lives = f;
          value = value;
          holds = m;
          role = a_class;
          refers = named_in M;
          gone = ap (lives_as M k) (class-there k gone class) ∙ sym (ap (entity_as M k) (class-there k gone class)) ∙ gone.dead;
        })
        life false f = dead-there f (get base.known at.id) refl

      gone-not : IsGone base other one k → (o : Option Value) → last one at ≡ o → ⊥
      gone-not gone (Some v) e = used-by v e gone
      gone-not gone None e = unused e gone

      by : (b : Bool) → is_living_entity U k ≡ b → b ≡ true
      by true e = refl
      by false e = absurd (gone-not (dead-class k class lives_k e) (last one at) refl)

    pub above : (at : Cell) (value : Value) (class : Id) → (at.slot ≡ slots.Owner) ⊎ (at.slot ≡ slots.Super)
        → is_living_entity U at.id ≡ true
        → get U.cells at ≡ Some value → get L.cells at ≡ Some value → Contains (mentions value) (record { role = a_class; id = class })
        → is_living_entity L class ≡ true → is_living_entity U class ≡ true
    above at value class slot lives_u held_u held_l names lives_l = by (get L.known at.id) refl where
      has : has_slot (get L.known at.id) at.slot ≡ true
      has = sym (rules_l.whole at.id at.slot) ∙ ap is_some held_l

      class_known : get L.known class ≡ Some knowns.Class
      class_known = class-filled at.id (get L.known class)
          (each-of (λ (mention : Mention). fills at.id mention.role (get L.known mention.id)) (mentions value)
          (rules_l.references at.id at.slot value held_l) (record { role = a_class; id = class }) names)

      by : (o : Option Known) → get L.known at.id ≡ o → is_living_entity U class ≡ true
      by None is = absurd (true≢false (sym has ∙ ap (λ o. has_slot o at.slot) is))
      by (Some what) is =
          targets at value what class (plain-above what at.slot slot (sym (ap (λ o. has_slot o at.slot) is) ∙ has))
          (fixed-above value at.slot slot
          (both_true (same_slot (slot_of value) at.slot) (is_formed what value) (rules_l.forms at.id at.slot what value is held_l)).0)
          is lives_u held_u held_l names class_known lives_l
