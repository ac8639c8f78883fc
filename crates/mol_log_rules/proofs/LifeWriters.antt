-- What lives before a history and not behind it was made so by an entry of it.
use Rattle.std.proofs.Common.{◌≡◌, ◌∙◌, refl, sym, ap, true≢false, List, [], ◌∷◌, Option, None, Some}
use Rattle.std.specs.FinMap.{get, entries, get-entries}
use Rattle.std.specs.FinMap as finite
use Rattle.std.specs.List.{AllByRecursion, list_any}
use Rattle.std.specs.Option.{option_or}
use Rattle.std.specs.Prelude.{◌&&◌, ◌||◌, Bool, true, false, cond, IsTrue, IsFalse, IsSome, is_some}
use Rattle.mol_base.specs.Order.{id_cmp, id_cmp-total, id_cmp-IsAntisymmetric}
use Rattle.mol_base.specs.declared.ident.Id.{Id}
use Rattle.mol_log_rules.proofs.WhoWrote.{some-or, some-cond, writers-together}
use Rattle.mol_log_rules.specs.Histories.{History, changes, after, last}
use Rattle.mol_log_rules.specs.Living.{is_life_cell, is_known_decl}
use Rattle.mol_log_rules.specs.Writers.{writes_some, last_writer, life_writer, same_cell}
use Rattle.mol_op.specs.ChangeLaws.{none-some, some-same, id_is, id_self, cell_is}
use Rattle.mol_op.specs.Changes.{Write}
use Rattle.mol_op.specs.EntryLaws.{get-leaves, within-leaves}
use Rattle.mol_table_rules.proofs.Counts.{each_found}
use Rattle.mol_table_rules.specs.Life.{is_living_decl, lives_method, lives_as, entity_in, is_living_entity}
use Rattle.mol_table_rules.specs.Program.{Program, cell, same_id, is_yes, living_at}
use Rattle.mol_values_types.specs.declared.cell.Cell.{Cell}
use Rattle.mol_values_types.specs.declared.cell.Slot.TheVariants as slots
use Rattle.mol_values_types.specs.declared.known.Known.{Known}
use Rattle.mol_values_types.specs.declared.known.Known.TheVariants as knowns
use Rattle.mol_values_types.specs.declared.value.Value.{Value}

or-true : (a : Bool) → (a || true) ≡ true
or-true true = refl
or-true false = refl

-- ---- a test that passes more cells finds a writer too

or-both : (a b c d : Bool) → (a ≡ true → c ≡ true) → (b ≡ true → d ≡ true) → (a || b) ≡ true → (c || d) ≡ true
or-both true b c d first second is = ap (λ x. x || d) (first refl)
or-both false b c d first second is = ap (λ x. c || x) (second is) ∙ or-true c

any-more : {X : Type 0} (p q : X → Bool) (xs : List X) → ((x : X) → p x ≡ true → q x ≡ true) → list_any p xs ≡ true → list_any q xs ≡ true
any-more p q [] more is = is
any-more p q (x ∷ xs) more is = or-both (p x) (list_any p xs) (q x) (list_any q xs) (more x) (any-more p q xs more) is

writer-more : (p q : Cell → Bool) → ((at : Cell) → p at ≡ true → q at ≡ true) → (history : History)
    → is_some (last_writer p history) ≡ true → is_some (last_writer q history) ≡ true
writer-more p q more [] is = is
writer-more p q more (entry ∷ history) is =
    some-or (last_writer q history) (cond (writes_some q entry.change) (Some entry.stamp) None)
    ∙ or-both (is_some (last_writer p history)) (is_some (cond (writes_some p entry.change) (Some entry.stamp) None))
    (is_some (last_writer q history)) (is_some (cond (writes_some q entry.change) (Some entry.stamp) None))
    (writer-more p q more history)
    (λ so. some-cond (writes_some q entry.change) entry.stamp
    ∙ any-more (λ (write : Write). p write.0) (λ (write : Write). q write.0) entry.change.writes (λ write. more write.0)
    (sym (some-cond (writes_some p entry.change) entry.stamp) ∙ so))
    (sym (some-or (last_writer p history) (cond (writes_some p entry.change) (Some entry.stamp) None)) ∙ is)

-- ---- a cell `live`

-- one that is yes before and not behind is written
life-written : (base : Program) (history : History) (id : Id) → living_at base id ≡ true → living_at (after base history) id ≡ false
    → is_some (last history (cell id slots.Live)) ≡ true
life-written base history id was now = by (last history (cell id slots.Live)) refl where
  by : (o : Option Value) → last history (cell id slots.Live) ≡ o → is_some o ≡ true
  by (Some value) e = refl
  by None e =
      let same = get-leaves (changes history) base (cell id slots.Live) ∙ ap (λ o. option_or o (get base.cells (cell id slots.Live))) e in
      absurd (true≢false (sym was ∙ ap is_yes (sym same) ∙ now))

own-life : (program : Program) (id : Id) → is_life_cell program id (cell id slots.Live) ≡ true
own-life program id = ap (λ b. b || is_known_decl id (get program.known id)) (id_self id)

decl-life : (program : Program) (method decl : Id) → get program.known decl ≡ Some (knowns.Decl method)
    → is_life_cell program method (cell decl slots.Live) ≡ true
decl-life program method decl known =
    ap (λ o. same_id method decl || is_known_decl method o) known ∙ ap (λ b. same_id method decl || b) (id_self method)
    ∙ or-true (same_id method decl)

-- ---- methods live by their declarations

or-left : (a b : Bool) → a ≡ true → (a || b) ≡ true
or-left a b is = ap (λ x. x || b) is

or-right : (a b : Bool) → b ≡ true → (a || b) ≡ true
or-right a b is = ap (λ x. a || x) is ∙ or-true a

-- what is known under an identity is found among all that is known
any-known : (p : Id × Known → Bool) (program : Program) (id : Id) (what : Known) → get program.known id ≡ Some what → p (id, what) ≡ true
    → list_any p (entries program.known) ≡ true
any-known p program id what is passes = any-entry (entries program.known) (sym (get-entries program.known id) ∙ is) where
  any-entry : (es : List (Id × Known)) → finite.find id_cmp id es ≡ Some what → list_any p es ≡ true
  any-entry [] found = absurd (none-some what found)
  any-entry (e ∷ es) found = at (same_id id e.0) refl found (any-entry es) where
    at : (b : Bool) → same_id id e.0 ≡ b → cond b (Some e.1) (finite.find id_cmp id es) ≡ Some what
        → (finite.find id_cmp id es ≡ Some what → list_any p es ≡ true) → (p e || list_any p es) ≡ true
    at true same so more =
        or-left (p e) (list_any p es)
        (ap (λ k. p (e.0, k)) (some-same e.1 what so) ∙ ap (λ i. p (i, what)) (sym (id_is id e.0 same)) ∙ passes)
    at false same so more = or-right (p e) (list_any p es) (more so)

some-known : (P : Id × Known → Type 0) (p : Id × Known → Bool) (es : List (Id × Known)) → AllByRecursion P es → list_any p es ≡ true
    → (e : Id × Known) × (P e) × (p e ≡ true)
some-known P p [] all is = absurd (true≢false (sym is))
some-known P p (e ∷ es) all is = by (p e) refl is (some-known P p es all.1) where
  by : (b : Bool) → p e ≡ b → (b || list_any p es) ≡ true → (list_any p es ≡ true → (f : Id × Known) × (P f) × (p f ≡ true))
      → (f : Id × Known) × (P f) × (p f ≡ true)
  by true passes so rest = (e, all.0, passes)
  by false passes so rest = rest so

-- a living method has a declaration that lives
living-decl : (program : Program) (method : Id) → lives_method program method ≡ true
    → (decl : Id) × (get program.known decl ≡ Some (knowns.Decl method)) × (living_at program decl ≡ true)
living-decl program method lives = at found.0.0 found.0.1 found.1 found.2 where
  found : (e : Id × Known) × (get program.known e.0 ≡ Some e.1) × (is_living_decl program method e ≡ true)
  found = some-known (λ e. get program.known e.0 ≡ Some e.1) (is_living_decl program method) (entries program.known)
      (each_found id_cmp-total id_cmp-IsAntisymmetric program.known) lives

  at : (id : Id) (what : Known) → get program.known id ≡ Some what → is_living_decl program method (id, what) ≡ true
      → (decl : Id) × (get program.known decl ≡ Some (knowns.Decl method)) × (living_at program decl ≡ true)
  at id knowns.Class is so = absurd (true≢false (sym so))
  at id knowns.Field is so = absurd (true≢false (sym so))
  at id (knowns.Method kind) is so = absurd (true≢false (sym so))
  at id (knowns.Param of) is so = absurd (true≢false (sym so))
  at id (knowns.Decl own) is so = by (same_id method own) refl so where
    by : (b : Bool) → same_id method own ≡ b → (b && living_at program id) ≡ true
        → (decl : Id) × (get program.known decl ≡ Some (knowns.Decl method)) × (living_at program decl ≡ true)
    by true same more = (id, is ∙ ap (λ m. Some (knowns.Decl m)) (sym (id_is method own same)), more)
    by false same more = absurd (true≢false (sym more))

-- a method with a declaration that lives does so
lives-by : (program : Program) (method decl : Id) → get program.known decl ≡ Some (knowns.Decl method) → living_at program decl ≡ true
    → lives_method program method ≡ true
lives-by program method decl known lives =
    any-known (is_living_decl program method) program decl (knowns.Decl method) known (λ i. id_self method i && lives i)

-- ---- what is gone

abbrev living_as : Program → Id → Option Known → Bool
living_as program id known = is_some (entity_in known) && lives_as program id known

module _ (base : Program) (history : History) where
  abbrev left : Program
  left = after base history

  still : (id : Id) (what : Known) → get base.known id ≡ Some what → get left.known id ≡ Some what
  still id what is = within-leaves (changes history) base id what is

  -- a cell of the entity's life that is yes before and not behind has a writer
  by-cell : (id at : Id) → is_life_cell left id (cell at slots.Live) ≡ true → living_at base at ≡ true → living_at left at ≡ false
      → IsSome (life_writer left history id)
  by-cell id at life was now =
      writer-more (same_cell (cell at slots.Live)) (is_life_cell left id)
      (λ q same. ap (is_life_cell left id) (sym (cell_is (cell at slots.Live) q same)) ∙ life)
      history (writers-together history (cell at slots.Live) ∙ life-written base history at was now)

  -- no declaration of a dead method lives
  dead-decl : (method decl : Id) → lives_method left method ≡ false → get left.known decl ≡ Some (knowns.Decl method)
      → living_at left decl ≡ false
  dead-decl method decl dead known = by (living_at left decl) refl where
    by : (b : Bool) → living_at left decl ≡ b → living_at left decl ≡ false
    by false e = e
    by true e = absurd (true≢false (sym (lives-by left method decl known e) ∙ dead))

  pub gone-written : (id : Id) → IsTrue (is_living_entity base id) → IsFalse (is_living_entity left id) → IsSome (life_writer left history id)
  gone-written id lived dead = by (get base.known id) refl where
    before : (what : Known) → get base.known id ≡ Some what → living_as base id (Some what) ≡ true
    before what is = sym (ap (living_as base id) is) ∙ lived

    behind : (what : Known) → get base.known id ≡ Some what → living_as left id (Some what) ≡ false
    behind what is = sym (ap (living_as left id) (still id what is)) ∙ dead

    by : (o : Option Known) → get base.known id ≡ o → IsSome (life_writer left history id)
    by None is = absurd (true≢false (sym lived ∙ ap (living_as base id) is))
    by (Some (knowns.Param method)) is = absurd (true≢false (sym (before (knowns.Param method) is)))
    by (Some knowns.Class) is = by-cell id id (own-life left id) (before knowns.Class is) (behind knowns.Class is)
    by (Some knowns.Field) is = by-cell id id (own-life left id) (before knowns.Field is) (behind knowns.Field is)
    by (Some (knowns.Decl method)) is = by-cell id id (own-life left id) (before (knowns.Decl method) is) (behind (knowns.Decl method) is)
    by (Some (knowns.Method kind)) is =
        let decl = living-decl base id (before (knowns.Method kind) is) in
        let known = still decl.0 (knowns.Decl id) decl.1 in
        by-cell id decl.0 (decl-life left id decl.0 known) decl.2 (dead-decl id decl.0 (behind (knowns.Method kind) is) known)
