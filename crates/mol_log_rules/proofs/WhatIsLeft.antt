-- What a history leaves of a program.
use Rattle.std.proofs.Common.{◌≡◌, ◌∙◌, refl, sym, ap, subst, true≢false, List, [], ◌∷◌, Option, None, Some, Contains, arith}
use Rattle.std.proofs.lemmas.List.Elements.{Contains-append_right}
use Rattle.std.specs.FinMap.{get}
use Rattle.std.specs.List.{AllByRecursion}
use Rattle.std.specs.Option.{option_or}
use Rattle.std.specs.Prelude.{◌⊎◌, ◌&&◌, Bool, true, false, cond, IsTrue, IsSome, is_some}
use mathlib.Core.Logic.{inl, inr}
use Rattle.mol_base.specs.declared.ident.Id.{Id}
use Rattle.mol_log_rules.specs.Histories.{Stamped, History, changes, AppliesOn, after, last, first_named, HasLastWrites}
use Rattle.mol_log_rules.specs.Lawful.{AreLawful}
use Rattle.mol_log_rules.specs.Living.{HasNoDead}
use Rattle.mol_op.specs.ChangeLaws.{none-some, or-assoc, or-none, both-none, id_is, get-know_all, same_known, same_cells}
use Rattle.mol_op.specs.Changes.{Name, first_name, written}
use Rattle.mol_op.specs.EntryLaws.{get-leaves, within-leaves}
use Rattle.mol_table_rules.specs.Life.{lives, entity_in, is_living_entity}
use Rattle.mol_table_rules.specs.Program.{Program, same_id, value_at}
use Rattle.mol_table_rules.specs.Rules.{IsProgram}
use Rattle.mol_values_types.specs.Slots.{has_slot}
use Rattle.mol_values_types.specs.declared.cell.Cell.{Cell}
use Rattle.mol_values_types.specs.declared.cell.Slot.{Slot}
use Rattle.mol_values_types.specs.declared.known.Known.{Known}
use Rattle.mol_values_types.specs.declared.known.Known.TheVariants as knowns
use Rattle.mol_values_types.specs.declared.value.Value.{Value}

-- what the first entry leaves
abbrev first_left : Program → Stamped → Program
first_left base entry = written base entry.change.writes entry.change.names

-- ---- last writes

known-left : (history : History) (base : Program) (id : Id)
    → get (after base history).known id ≡ option_or (get base.known id) (first_named history id)
known-left [] base id = sym (or-none (get base.known id))
known-left (entry ∷ history) base id =
    known-left history (first_left base entry) id
    ∙ ap (λ o. option_or o (first_named history id)) (get-know_all entry.change.names base.known id)
    ∙ or-assoc (get base.known id) (first_name entry.change.names id) (first_named history id)

pub left-by : (base : Program) (history : History) → HasLastWrites base history (after base history)
left-by base history = record {
  cells = λ at. get-leaves (changes history) base at;
  known = λ id. known-left history base id;
}

-- programs with the same last writes are one
pub only-left : (base program : Program) (history : History) → HasLastWrites base history program → program ≡ after base history
only-left base program history has = λ i. record { cells = cells i; known = known i } where
  cells : program.cells ≡ (after base history).cells
  cells = same_cells program.cells (after base history).cells (λ at. has.cells at ∙ sym (get-leaves (changes history) base at))

  known : program.known ≡ (after base history).known
  known = same_known program.known (after base history).known (λ id. has.known id ∙ sym (known-left history base id))

-- ---- rules

pub rules-after : (base : Program) (history : History) → AreLawful history → AppliesOn base history → IsProgram base
    → IsProgram (after base history)
rules-after base [] laws applies rules = rules
rules-after base (entry ∷ history) laws applies rules =
    rules-after (first_left base entry) history laws.1 applies.1 (laws.0.keeps base rules applies.0)

-- what is not known has no cell
pub no-cell : (program : Program) → IsProgram program → (id : Id) (slot : Slot) → get program.known id ≡ None → value_at program id slot ≡ None
no-cell program rules id slot none = by (value_at program id slot) refl where
  by : (o : Option Value) → value_at program id slot ≡ o → o ≡ None
  by None e = refl
  by (Some value) e = absurd (true≢false (sym (ap is_some e) ∙ rules.whole id slot ∙ ap (λ known. has_slot known slot) none))

-- so no cell of it is written
pub none-owned : (base : Program) (history : History) (at : Cell) → AreLawful history → AppliesOn base history → IsProgram base
    → get (after base history).known at.id ≡ None → last history at ≡ None
none-owned base history at laws applies rules none =
    (both-none (last history at) (get base.cells at)
    (sym (get-leaves (changes history) base at)
    ∙ no-cell (after base history) (rules-after base history laws applies rules) at.id at.slot none)).0

-- ---- tags

-- what is said of each name is said of what the names say of an identity
first-each : (P : Id → Known → Type 0) (names : List Name) → AllByRecursion (λ (name : Name). P name.0 name.1) names
    → (id : Id) (what : Known) → first_name names id ≡ Some what → P id what
first-each P [] all id what is = absurd (none-some what is)
first-each P (name ∷ names) all id what is = by (same_id id name.0) refl is (λ later. first-each P names all.1 id what later) where
  by : (b : Bool) → same_id id name.0 ≡ b → cond b (Some name.1) (first_name names id) ≡ Some what
      → (first_name names id ≡ Some what → P id what) → P id what
  by true same so more =
      let known : name.1 ≡ what = cc in
      subst (P id) known (subst (λ q. P q name.1) (sym (id_is id name.0 same)) all.0)
  by false same so more = more so

abbrev HasTag : History → Id → Type 0
HasTag history id = (entry : Stamped) × Contains history entry × (id.tag ≡ entry.stamp.tag)

pub tag-made : (base : Program) (history : History) (id : Id) → AreLawful history → AppliesOn base history → get base.known id ≡ None
    → IsSome (get (after base history).known id) → HasTag history id
tag-made base [] id laws applies none some = absurd (true≢false (sym some ∙ ap is_some none))
tag-made base (entry ∷ history) id laws applies none some =
    by (get next.known id) refl (λ new. tag-made next history id laws.1 applies.1 new some) where
      next : Program
      next = first_left base entry

      behind : HasTag history id → HasTag (entry ∷ history) id
      behind has = (has.0, Contains-append_right (entry ∷ []) history has.0 has.1, has.2)

      clash : (what : Known) → get base.known id ≡ Some what → ⊥
      clash what known = none-some what (sym none ∙ known)

      named : (what : Known) → (get base.known id ≡ Some what) ⊎ ((get base.known id ≡ None) × (id.tag ≡ entry.stamp.tag)) → HasTag (entry ∷ history) id
      named what (inl known) = absurd (clash what known)
      named what (inr new) = (entry, (0, omega arith, refl), new.1)

      by : (o : Option Known) → get next.known id ≡ o → (get next.known id ≡ None → HasTag history id) → HasTag (entry ∷ history) id
      by None e later = behind (later e)
      by (Some what) e later =
          let first : first_name entry.change.names id ≡ Some what =
          sym (ap (λ o. option_or o (first_name entry.change.names id)) none) ∙ sym (get-know_all entry.change.names base.known id) ∙ e in
          named what (first-each (λ q k. (get base.known q ≡ Some k) ⊎ ((get base.known q ≡ None) × (q.tag ≡ entry.stamp.tag))) entry.change.names
          (laws.0.named base.known applies.0) id what first)

-- ---- life

-- an entity is known as one
entity-known : (o : Option Known) (what : Known) → entity_in o ≡ Some what → o ≡ Some what
entity-known None what e = absurd (none-some what e)
entity-known (Some (knowns.Param method)) what e = absurd (none-some what e)
entity-known (Some knowns.Class) what e = e
entity-known (Some knowns.Field) what e = e
entity-known (Some (knowns.Decl method)) what e = e
entity-known (Some (knowns.Method kind)) what e = e

and-first : (a b : Bool) → (a && b) ≡ true → a ≡ true
and-first true b e = refl
and-first false b e = e

pub none-dead : (program : Program) → ((id : Id) → IsSome (get program.known id) → IsTrue (lives program id)) → HasNoDead program
none-dead program all id what e =
    ap (λ o. is_some o && lives program id) e ∙ all id (ap is_some (entity-known (get program.known id) what e))

pub lived-before : (base : Program) (history : History) (id : Id) → HasNoDead base → IsSome (get base.known id)
    → IsTrue (is_living_entity (after base history) id) → IsTrue (is_living_entity base id)
lived-before base history id alive some living = by (get base.known id) refl (entity_in (get base.known id)) refl where
  by : (o : Option Known) → get base.known id ≡ o → (e : Option Known) → entity_in (get base.known id) ≡ e → IsTrue (is_living_entity base id)
  by o known (Some what) is = alive id what is
  by None known None is = absurd (true≢false (sym some ∙ ap is_some known))
  by (Some what) known None is =
      let still : get (after base history).known id ≡ Some what = within-leaves (changes history) base id what known in
      let none : entity_in (get (after base history).known id) ≡ None = ap entity_in still ∙ sym (ap entity_in known) ∙ is in
      absurd (true≢false (sym (and-first (is_some (entity_in (get (after base history).known id))) (lives (after base history) id) living) ∙ ap is_some none))
