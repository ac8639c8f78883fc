-- Classes that may be added to a program.
use Rattle.std.proofs.Common.{true≢false, ◌≡◌, ◌≢◌, ◌⊎◌, inl, inr, ◌==◌, ℕ, refl, sym, ap, subst, ◌∙◌, arith, Bool, true, false, cond, ◌&&◌, ◌||◌, List, [], ◌∷◌, map, Option, None, Some, is_some, IsTrue}
use Rattle.std.specs.List.{All, AllPairs, AllByRecursion, list_all, list_any}
use Rattle.std.specs.Ordering.{eq_by_cmp, is_eq, nat_cmp, ordering_then}
use Rattle.std.specs.declared.cmp.Ordering.{Ordering}
use Rattle.std.specs.declared.cmp.Ordering.TheVariants.{Less, Equal, Greater}
use Rattle.std.specs.Cmp.{unsigned_tied}
use Rattle.std.specs.FinMap.{get, insert, get-insert}
use Rattle.std.proofs.lemmas.List.Elements.{All-cons}
use Rattle.std.proofs.lemmas.List.Kept.{AllPairs-cons}
use Rattle.std.proofs.lemmas.Bool.{false_from_ne_true, and_parts, and_from}
use Rattle.mol_base.specs.Order.{id_cmp, id_cmp-total}
use Rattle.mol_base.specs.declared.ident.Id.{Id}
use Rattle.mol_table_rules.specs.Forms.{has_form}
use Rattle.mol_table_rules.specs.Room.{AreApart}
use Rattle.mol_table_rules.specs.Mentions.{Role, Mention, a_class, a_field, a_method, a_called_method, a_static_method, a_constructor, a_param, a_listed_param, mentions}
use Rattle.mol_values_types.specs.Order.{cell_cmp, slot_number}
use Rattle.mol_table_rules.proofs.CellOrder.{cell_cmp-total, cell_cmp-IsAntisymmetric}
use Rattle.mol_table_rules.specs.Program.{Program, same_id, cell, value_at}
use Rattle.mol_table_rules.specs.Rules.{IsProgram, fills, is_declared, refers_rightly}
use Rattle.mol_values_types.specs.Slots.{has_slot, slot_of, same_slot}
use Rattle.mol_values_types.specs.TokenForms.{is_name, is_dotted}
use Rattle.mol_table_rules.specs.Writes.{AreOfKind, AreNew, with_entity, with_entities}
use Rattle.mol_values_types.specs.declared.cell.Cell.{Cell}
use Rattle.mol_values_types.specs.declared.cell.Slot.{Slot}
use Rattle.mol_values_types.specs.declared.cell.Slot.TheVariants as slots
use Rattle.mol_table_rules.specs.declared.entity.NewEntity.{NewEntity}
use Rattle.mol_values_types.specs.declared.kind.Kind.TheVariants as kinds
use Rattle.mol_values_types.specs.declared.known.Known.{Known}
use Rattle.mol_values_types.specs.declared.known.Known.TheVariants as knowns
use Rattle.mol_values_types.specs.declared.value.Value.{Value}
use Rattle.mol_values_types.specs.declared.value.Value.TheVariants as values
use Rattle.mol_table_rules.proofs.Counts.{none-some, tied}
use Rattle.mol_table_rules.proofs.Living.{id_tied}

-- a living class without superclass, words and comments
abbrev pub class_values : List ℕ → List ℕ → List Value
class_values in_package name =
    values.Live true ∷ values.Package in_package ∷ values.Name name ∷ values.Super None ∷ values.Words (record { texts = [] }) ∷ values.Notes (record { front = []; head = []; tail = [] }) ∷ []

-- ---- values that a class may have, put into cells one after another

-- a value has the form of a slot of a class, and mentions nothing
record Fits (slot : Slot) (value : Value) : Type 0 where
  form : IsTrue (has_form knowns.Class slot value)
  silent : mentions value ≡ []

-- each fits the slot of its form
abbrev Fitting : List Value → Type 0
Fitting [] = Unit {0}
Fitting (value ∷ values) = Fits (slot_of value) value × Fitting values

-- a program with values in cells, which make nothing known
abbrev put : Program → Cell → Value → Program
put program at value = record program { cells = insert program.cells at value }

abbrev put_all : Program → Id → List Value → Program
put_all program id [] = program
put_all program id (value ∷ values) = put_all (put program (cell id (slot_of value)) value) id values

pub both-tied : (o : Ordering) (m n : ℕ) → is_eq (ordering_then o (nat_cmp m n)) ≡ (is_eq o && (m == n))
both-tied Less m n = refl
both-tied Equal m n = unsigned_tied m n
both-tied Greater m n = refl

-- which cells there are
put-has : (values : List Value) (program : Program) (id q : Id) (slot : Slot)
    → is_some (value_at (put_all program id values) q slot) ≡ ((same_id q id && list_any (same_slot slot) (map slot_of values)) || is_some (value_at program q slot))
put-has [] program id q slot = none (same_id q id) where
  none : (b : Bool) → is_some (value_at program q slot) ≡ ((b && false) || is_some (value_at program q slot))
  none true = refl
  none false = refl
put-has (value ∷ values) program id q slot =
    let at : Cell = cell id (slot_of value) in
    put-has values (put program at value) id q slot
    ∙ ap (λ b. (same_id q id && list_any (same_slot slot) (map slot_of values)) || b)
    (ap is_some (get-insert cell_cmp-total program.cells at value (cell q slot)) ∙ some-by (eq_by_cmp cell_cmp (cell q slot) at) (value_at program q slot)
    ∙ ap (λ b. b || is_some (value_at program q slot)) (both-tied (id_cmp q id) (slot_number slot) (slot_number (slot_of value))))
    ∙ regroup (same_id q id) (list_any (same_slot slot) (map slot_of values)) (same_slot slot (slot_of value)) (is_some (value_at program q slot))
  where
    some-by : (b : Bool) (old : Option Value) → is_some (cond b (Some value) old) ≡ (b || is_some old)
    some-by true old = refl
    some-by false old = refl

    regroup : (same any here old : Bool) → ((same && any) || ((same && here) || old)) ≡ ((same && (here || any)) || old)
    regroup true true true old = refl
    regroup true true false old = refl
    regroup true false true old = refl
    regroup true false false old = refl
    regroup false any here old = refl

-- other identities keep their values
put-other : (values : List Value) (program : Program) (id q : Id) (slot : Slot) → same_id q id ≡ false → value_at (put_all program id values) q slot ≡ value_at program q slot
put-other [] program id q slot apart = refl
put-other (value ∷ values) program id q slot apart =
    let at : Cell = cell id (slot_of value) in
    put-other values (put program at value) id q slot apart
    ∙ get-insert cell_cmp-total program.cells at value (cell q slot)
    ∙ ap (λ b. cond b (Some value) (value_at program q slot)) (both-tied (id_cmp q id) (slot_number slot) (slot_number (slot_of value)) ∙ ap (λ b. b && (slot_number slot == slot_number (slot_of value))) apart)

-- a value that stands in a cell afterwards was put there, or stood there
put-by : (at here : Cell) (new value : Value) (old : Option Value) (b : Bool) → eq_by_cmp cell_cmp here at ≡ b → Fits at.slot new → cond b (Some new) old ≡ Some value
    → Fits here.slot value ⊎ (old ≡ Some value)
put-by at here new value old true is fits e =
    let same : new ≡ value = cc in
    inl (subst (λ (c : Cell). Fits c.slot value) (sym (cell_cmp-IsAntisymmetric here at (tied _ is))) (subst (Fits at.slot) same fits))
put-by at here new value old false is fits e = inr e

put-value : (values : List Value) → Fitting values → (program : Program) (id q : Id) (slot : Slot) (value : Value) → value_at (put_all program id values) q slot ≡ Some value
    → Fits slot value ⊎ (value_at program q slot ≡ Some value)
put-value [] fitting program id q slot value e = inr e
put-value (new ∷ values) fitting program id q slot value e =
    let at : Cell = cell id (slot_of new) in
    elim (put-value values fitting.1 (put program at new) id q slot value e) [
      | inl fits ↦ inl fits
      | inr before ↦
          put-by at (cell q slot) new value (value_at program q slot) (eq_by_cmp cell_cmp (cell q slot) at) refl fitting.0
          (sym (get-insert cell_cmp-total program.cells at new (cell q slot)) ∙ before)
    ]

class-fitting : (in_package name : List ℕ) → is_dotted in_package ≡ true → is_name name ≡ true → Fitting (class_values in_package name)
class-fitting in_package name dotted named = (
  record { form = refl; silent = refl },
  (
    record { form = dotted; silent = refl },
    (
      record { form = named; silent = refl },
      (record { form = refl; silent = refl }, (record { form = refl; silent = refl }, (record { form = refl; silent = refl }, tt))),
    ),
  ),
)

-- ---- what is named stays named rightly when a class becomes known

fills-class : (owner : Id) (role : Role) → fills owner role None ≡ true → fills owner role (Some knowns.Class) ≡ true
fills-class owner a_class e = refl
fills-class owner a_field e = absurd cc
fills-class owner a_method e = absurd cc
fills-class owner a_called_method e = absurd cc
fills-class owner a_static_method e = absurd cc
fills-class owner a_constructor e = absurd cc
fills-class owner a_param e = refl
fills-class owner a_listed_param e = absurd cc

all-kept : (p q : Mention → Bool) → ((mention : Mention) → p mention ≡ true → q mention ≡ true) → (list : List Mention) → list_all p list ≡ true → list_all q list ≡ true
all-kept p q keeps [] e = refl
all-kept p q keeps (mention ∷ list) e =
    let both = and_parts (p mention) (list_all p list) e in
    and_from (q mention) (list_all q list) (keeps mention both.0) (all-kept p q keeps list both.1)

-- ---- a class more

module _ (program : Program) (rules : IsProgram program) (id : Id) (in_package name : List ℕ) (dotted : is_dotted in_package ≡ true) (named : is_name name ≡ true) (unknown : get program.known id ≡ None) where
  abbrev entity : NewEntity
  entity = record { id = id; kind = kinds.Class; values = class_values in_package name }

  abbrev start : Program
  start = record program { known = insert program.known id knowns.Class }

  abbrev more : Program
  more = with_entity program entity

  more-is : more ≡ put_all start id (class_values in_package name)
  more-is = refl

  known-more : (q : Id) → get more.known q ≡ cond (same_id q id) (Some knowns.Class) (get program.known q)
  known-more q = get-insert id_cmp-total program.known id knowns.Class q

  known-own : (q : Id) → same_id q id ≡ true → get more.known q ≡ Some knowns.Class
  known-own q e = known-more q ∙ ap (λ b. cond b (Some knowns.Class) (get program.known q)) e

  pub known-other : (q : Id) → same_id q id ≡ false → get more.known q ≡ get program.known q
  known-other q e = known-more q ∙ ap (λ b. cond b (Some knowns.Class) (get program.known q)) e

  was-none : (q : Id) → same_id q id ≡ true → get program.known q ≡ None
  was-none q e = ap (get program.known) (id_tied q id e) ∙ unknown

  -- what is known stays known
  known-kept : (q : Id) (what : Known) → get program.known q ≡ Some what → get more.known q ≡ Some what
  known-kept q what is = by (same_id q id) refl where
    by : (b : Bool) → same_id q id ≡ b → get more.known q ≡ Some what
    by true e = absurd (none-some what (sym (was-none q e) ∙ is))
    by false e = known-other q e ∙ is

  -- and nothing but the class becomes known
  known-before : (q : Id) (what : Known) → (what ≡ knowns.Class → ⊥) → get more.known q ≡ Some what → (same_id q id ≡ false) × (get program.known q ≡ Some what)
  known-before q what apart is = by (same_id q id) refl where
    by : (b : Bool) → same_id q id ≡ b → (same_id q id ≡ false) × (get program.known q ≡ Some what)
    by true e = absurd (apart (same (sym is ∙ known-own q e))) where
      same : Some what ≡ Some knowns.Class → what ≡ knowns.Class
      same both = cc
    by false e = (e, sym (known-other q e) ∙ is)

  fills-more : (owner : Id) (role : Role) (q : Id) → fills owner role (get program.known q) ≡ true → fills owner role (get more.known q) ≡ true
  fills-more owner role q e = by (same_id q id) refl where
    by : (b : Bool) → same_id q id ≡ b → fills owner role (get more.known q) ≡ true
    by true is = ap (fills owner role) (known-own q is) ∙ fills-class owner role (sym (ap (fills owner role) (was-none q is)) ∙ e)
    by false is = ap (fills owner role) (known-other q is) ∙ e

  -- a cell that was there is not the class's
  cell-before : (q : Id) (slot : Slot) (value : Value) → value_at program q slot ≡ Some value → same_id q id ≡ false
  cell-before q slot value is = false_from_ne_true _ (λ e. true≢false (sym (ap is_some is) ∙ rules.whole q slot ∙ ap (λ o. has_slot o slot) (was-none q e)))

  whole-more : (q : Id) (slot : Slot) → is_some (value_at more q slot) ≡ has_slot (get more.known q) slot
  whole-more q slot =
      put-has (class_values in_package name) start id q slot ∙ by (same_id q id) refl ∙ ap (λ o. has_slot o slot) (sym (known-more q))
    where
      or-false : (a b : Bool) → b ≡ false → (a || b) ≡ a
      or-false true b e = refl
      or-false false b e = e

      by : (b : Bool) → same_id q id ≡ b
          → ((b && has_slot (Some knowns.Class) slot) || is_some (value_at program q slot)) ≡ has_slot (cond b (Some knowns.Class) (get program.known q)) slot
      by true e = or-false (has_slot (Some knowns.Class) slot) _ (rules.whole q slot ∙ ap (λ o. has_slot o slot) (was-none q e))
      by false e = rules.whole q slot

  value-more : (q : Id) (slot : Slot) (value : Value) → value_at more q slot ≡ Some value → Fits slot value ⊎ (value_at program q slot ≡ Some value)
  value-more q slot value e = put-value (class_values in_package name) (class-fitting in_package name dotted named) start id q slot value e

  -- a cell that no class has was there before
  value-before : (q : Id) (slot : Slot) (value : Value) → has_slot (Some knowns.Class) slot ≡ false → value_at more q slot ≡ Some value → value_at program q slot ≡ Some value
  value-before q slot value none e = by (same_id q id) refl where
    by : (b : Bool) → same_id q id ≡ b → value_at program q slot ≡ Some value
    by true is = absurd (true≢false (sym (ap is_some e) ∙ whole-more q slot ∙ ap (λ o. has_slot o slot) (known-own q is) ∙ none))
    by false is = sym (put-other (class_values in_package name) start id q slot is) ∙ e

  forms-more : (q : Id) (slot : Slot) (known : Known) (value : Value) → get more.known q ≡ Some known → value_at more q slot ≡ Some value → IsTrue (has_form known slot value)
  forms-more q slot known value is holds = by (same_id q id) refl where
    class-is : Some knowns.Class ≡ Some known → knowns.Class ≡ known
    class-is e = cc

    by : (b : Bool) → same_id q id ≡ b → IsTrue (has_form known slot value)
    by true e =
        elim (value-more q slot value holds) [
          | inl fits ↦ subst (λ what. IsTrue (has_form what slot value)) (class-is (sym (known-own q e) ∙ is)) fits.form
          | inr before ↦ absurd (true≢false (sym e ∙ cell-before q slot value before))
        ]
    by false e = rules.forms q slot known value (sym (known-other q e) ∙ is) (sym (put-other (class_values in_package name) start id q slot e) ∙ holds)

  references-more : (q : Id) (slot : Slot) (value : Value) → value_at more q slot ≡ Some value → IsTrue (refers_rightly more.known q value)
  references-more q slot value holds =
      elim (value-more q slot value holds) [
        | inl fits ↦ ap (λ list. list_all (λ (mention : Mention). fills q mention.role (get more.known mention.id)) list) fits.silent
        | inr before ↦
            all-kept (λ mention. fills q mention.role (get program.known mention.id)) (λ mention. fills q mention.role (get more.known mention.id))
            (λ mention. fills-more q mention.role mention.id) (mentions value) (rules.references q slot value before)
      ]

  pub rules-more : IsProgram more
  rules-more = record {
    whole = whole-more;
    forms = forms-more;
    references = references-more;
    kinds = λ q kind holds. known-kept q (knowns.Method kind) (rules.kinds q kind (value-before q slots.Kind (values.Kind kind) refl holds));
    methods = λ q method holds. known-kept q (knowns.Decl method) (rules.methods q method (value-before q slots.Method (values.Method method) refl holds));
    decls = λ q method is. fills-more q a_method method (rules.decls q method (known-before q (knowns.Decl method) (λ e. cc) is).1);
    params = λ q method is. fills-more q a_method method (rules.params q method (known-before q (knowns.Param method) (λ e. cc) is).1);
    single = λ method one other kind is many first second.
        rules.single method one other kind (known-before method (knowns.Method kind) (λ e. cc) is).1 many (known-before one (knowns.Decl method) (λ e. cc) first).1 (known-before other (knowns.Decl method) (λ e. cc) second).1;
    declarations = λ q method kind is of.
        let before = known-before q (knowns.Decl method) (λ e. cc) is in
        ap (λ o. is_declared kind o (value_at more q slots.Body)) (put-other (class_values in_package name) start id q slots.Words before.0)
        ∙ ap (λ o. is_declared kind (value_at program q slots.Words) o) (put-other (class_values in_package name) start id q slots.Body before.0)
        ∙ rules.declarations q method kind before.1 (known-before method (knowns.Method kind) (λ e. cc) of).1;
  }

-- ---- classes together

-- a living class without superclass, words and comments, under names of Java
pub record IsPlainClass (entity : NewEntity) : Type 0 where
  pub in_package : List ℕ
  pub name : List ℕ
  pub entity_kind : entity.kind ≡ kinds.Class
  pub values : entity.values ≡ class_values in_package name
  pub dotted : is_dotted in_package ≡ true
  pub named : is_name name ≡ true

abbrev class_of : Id → List ℕ → List ℕ → NewEntity
class_of id in_package name = record { id = id; kind = kinds.Class; values = class_values in_package name }

plain-is : (entity : NewEntity) (plain : IsPlainClass entity) → class_of entity.id plain.in_package plain.name ≡ entity
plain-is entity plain i = record { id = entity.id; kind = sym plain.entity_kind i; values = sym plain.values i }

plain-kind : (entity : NewEntity) → IsPlainClass entity → AreOfKind entity
plain-kind entity plain = subst AreOfKind (plain-is entity plain) (record { entity_kind = λ e. cc; values = refl })

plain-rules : (program : Program) → IsProgram program → (entity : NewEntity) → IsPlainClass entity → get program.known entity.id ≡ None → IsProgram (with_entity program entity)
plain-rules program rules entity plain unknown =
    subst (λ e. IsProgram (with_entity program e)) (plain-is entity plain) (rules-more program rules entity.id plain.in_package plain.name plain.dotted plain.named unknown)

plain-other : (program : Program) → IsProgram program → (entity : NewEntity) → IsPlainClass entity → get program.known entity.id ≡ None → (q : Id) → entity.id ≢ q → get program.known q ≡ None
    → get (with_entity program entity).known q ≡ None
plain-other program rules entity plain unknown q apart none =
    subst (λ e. get (with_entity program e).known q ≡ None) (plain-is entity plain)
    (known-other program rules entity.id plain.in_package plain.name plain.dotted plain.named unknown q (false_from_ne_true _ (λ e. apart (sym (id_tied q entity.id e)))) ∙ none)

each-of-two : (P S Q : NewEntity → Type 0) → ((x : NewEntity) → P x → S x → Q x) → (xs : List NewEntity) → AllByRecursion P xs → AllByRecursion S xs → AllByRecursion Q xs
each-of-two P S Q gives [] all also = tt
each-of-two P S Q gives (x ∷ xs) all also = (gives x all.0 also.0, each-of-two P S Q gives xs all.1 also.1)

all-each : (P : NewEntity → Type 0) (xs : List NewEntity) → AllByRecursion P xs → All P xs
all-each P [] all = λ k d within. absurd (omega arith)
all-each P (x ∷ xs) all = All-cons P x xs all.0 (all-each P xs all.1)

each : (P Q : NewEntity → Type 0) → ((x : NewEntity) → P x → Q x) → (xs : List NewEntity) → AllByRecursion P xs → AllByRecursion Q xs
each P Q gives [] all = tt
each P Q gives (x ∷ xs) all = (gives x all.0, each P Q gives xs all.1)

pairs-apart : (entities : List NewEntity) → AreApart entities → AllPairs (λ (one other : NewEntity). one.id ≢ other.id) entities
pairs-apart [] apart = λ i j d before within. absurd (omega arith)
pairs-apart (entity ∷ entities) apart =
    AllPairs-cons (λ (one other : NewEntity). one.id ≢ other.id) entity entities (all-each (λ (other : NewEntity). entity.id ≢ other.id) entities apart.0) (pairs-apart entities apart.1)

pub plain-all : (entities : List NewEntity) (program : Program) → IsProgram program → AllByRecursion IsPlainClass entities
    → AllByRecursion (λ (entity : NewEntity). get program.known entity.id ≡ None) entities → AreApart entities → IsProgram (with_entities program entities)
plain-all [] program rules plain unknown apart = rules
plain-all (entity ∷ entities) program rules plain unknown apart =
    plain-all entities (with_entity program entity) (plain-rules program rules entity plain.0 unknown.0) plain.1
    (each-of-two _ _ _ (λ other none differ. plain-other program rules entity plain.0 unknown.0 other.id differ none) entities unknown.1 apart.0)
    apart.1

-- classes with identities that differ and are not known may be added together
pub classes-new : (entities : List NewEntity) (program : Program) → IsProgram program → AllByRecursion IsPlainClass entities
    → AllByRecursion (λ (entity : NewEntity). get program.known entity.id ≡ None) entities → AreApart entities → AreNew program entities
classes-new entities program rules plain unknown apart = record {
  kinds = all-each AreOfKind entities (each IsPlainClass AreOfKind plain-kind entities plain);
  unknown = all-each (λ (entity : NewEntity). get program.known entity.id ≡ None) entities unknown;
  differ = pairs-apart entities apart;
  rules = plain-all entities program rules plain unknown apart;
}
