-- Entities that are added keep the rules of programs.
use Rattle.std.specs.Prelude.{◌≡◌, ◌==◌, ℕ, Bool, true, false, IsTrue, cond, ◌&&◌, ◌||◌, List, [], ◌∷◌, ◌++◌, map, Option, None, Some, is_some}
use Rattle.std.proofs.Common.{refl, sym, ap, ◌∙◌, true≢false}
use Rattle.std.specs.FinMap.{get}
use Rattle.std.specs.List.{AllByRecursion, list_any}
use Rattle.std.specs.Option.{option_or}
use Rattle.std.specs.Ordering.{eq_by_cmp, is_eq, ordering_then, nat_cmp}
use Rattle.std.specs.Cmp.{unsigned_ties}
use Rattle.std.specs.declared.cmp.Ordering.{Ordering}
use Rattle.std.specs.declared.cmp.Ordering.TheVariants.{Equal}
use Rattle.mol_base.specs.Order.{id_cmp}
use Rattle.mol_base.specs.declared.ident.Id.{Id}
use Rattle.mol_table_rules.specs.Forms.{is_formed}
use Rattle.mol_table_rules.specs.Program.{Program, Knowns, cell, same_id, value_at}
use Rattle.mol_table_rules.specs.Rules.{refers_rightly, is_declared, has_many}
use Rattle.mol_table_rules.specs.declared.entity.NewEntity.{NewEntity}
use Rattle.mol_values_types.specs.Order.{cell_cmp, slot_number}
use Rattle.mol_values_types.specs.Slots.{slot_of, slots_of, same_slot, has_slot, kind_of_known}
use Rattle.mol_values_types.specs.declared.cell.Slot.{Slot}
use Rattle.mol_values_types.specs.declared.cell.Slot.TheVariants as slots
use Rattle.mol_values_types.specs.declared.kind.MethodKind.{MethodKind}
use Rattle.mol_values_types.specs.declared.known.Known.{Known}
use Rattle.mol_values_types.specs.declared.known.Known.TheVariants as knowns
use Rattle.mol_values_types.specs.declared.value.Value.{Value}
use Rattle.mol_op.specs.Changes.{Name, know_all, last_write, first_name, written}
use Rattle.mol_op.specs.Keeps.{Keeps, IsKept, Agrees, Belongs, is_redeclared}
use Rattle.mol_op.specs.Rows.{values_writes, entities_writes}
use Rattle.mol_op.specs.ChangeLaws.{some-same, tied, id_is, id_self, cell_is, get-know_all, get-put_all, last-append}
use Rattle.mol_op.specs.RulesKept.{first-each}
use Rattle.mol_op.specs.Keeping.Setting.{own-slot}

-- ---- writes of an entity

then-equal : (o : Ordering) (m n : ℕ) → o ≡ Equal → is_eq (ordering_then o (nat_cmp m n)) ≡ (m == n)
then-equal o m n e = ap (λ r. is_eq (ordering_then r (nat_cmp m n))) e ∙ sym (unsigned_ties m n)

own-cell : (id : Id) (first second : Slot) → eq_by_cmp cell_cmp (cell id first) (cell id second) ≡ same_slot first second
own-cell id first second = then-equal (id_cmp id id) (slot_number first) (slot_number second) (tied (id_cmp id id) (id_self id))

-- the value of a slot among these
abbrev pub value_in : List Value → Slot → Option Value
value_in [] slot = None
value_in (value ∷ values) slot = option_or (value_in values slot) (cond (same_slot slot (slot_of value)) (Some value) None)

pub value-written : (values : List Value) (id : Id) (slot : Slot) → last_write (values_writes id values) (cell id slot) ≡ value_in values slot
value-written [] id slot = refl
value-written (value ∷ values) id slot =
    (λ i. option_or (value-written values id slot i) (cond (own-cell id slot (slot_of value) i) (Some value) None))

other-cell : (q id : Id) (first second : Slot) → same_id q id ≡ false → eq_by_cmp cell_cmp (cell q first) (cell id second) ≡ false
other-cell q id first second other = by (eq_by_cmp cell_cmp (cell q first) (cell id second)) refl where
  by : (b : Bool) → eq_by_cmp cell_cmp (cell q first) (cell id second) ≡ b → b ≡ false
  by false e = refl
  by true e = absurd (true≢false (sym (ap (λ x. same_id x id) (ap (λ at. at.id) (cell_is (cell q first) (cell id second) e)) ∙ id_self id) ∙ other))

pub other-written : (values : List Value) (q id : Id) (slot : Slot) → same_id q id ≡ false → last_write (values_writes id values) (cell q slot) ≡ None
other-written [] q id slot other = refl
other-written (value ∷ values) q id slot other =
    (λ i. option_or (other-written values q id slot other i) (cond (other-cell q id slot (slot_of value) other i) (Some value) None))

some-or : {X : Type 0} (a b : Option X) → is_some b ≡ true → is_some (option_or a b) ≡ true
some-or None b e = e
some-or (Some x) b e = refl

some-first : {X : Type 0} (a b : Option X) → is_some a ≡ true → is_some (option_or a b) ≡ true
some-first (Some x) b e = refl
some-first None b e = absurd (true≢false (sym e))

-- each slot of the values has one
pub any-value : (values : List Value) (slot : Slot) → list_any (same_slot slot) (map slot_of values) ≡ true → is_some (value_in values slot) ≡ true
any-value [] slot any = any
any-value (value ∷ values) slot any = by (same_slot slot (slot_of value)) any (any-value values slot) where
  by : (b : Bool) → (b || list_any (same_slot slot) (map slot_of values)) ≡ true → (list_any (same_slot slot) (map slot_of values) ≡ true → is_some (value_in values slot) ≡ true)
      → is_some (option_or (value_in values slot) (cond b (Some value) None)) ≡ true
  by true any rest = some-or (value_in values slot) (Some value) refl
  by false any rest = some-first (value_in values slot) None (rest any)

any-more : (b c : Bool) → c ≡ true → (b || c) ≡ true
any-more true c e = refl
any-more false c e = e

-- ---- an entity with all its values

pub record IsAdded (known : Knowns) (entity : NewEntity) (what : Known) : Type 0 where
  pub is : get known entity.id ≡ Some what
  pub slots : map slot_of entity.values ≡ slots_of (kind_of_known what)
  pub formed : AllByRecursion (λ value. is_formed what value ≡ true) entity.values
  pub refers : AllByRecursion (λ value. refers_rightly known entity.id value ≡ true) entity.values
  pub agrees : AllByRecursion (Agrees known entity.id) entity.values

kept-values : (known : Knowns) (id : Id) (what : Known) → get known id ≡ Some what → (values : List Value)
    → ((slot : Slot) → list_any (same_slot slot) (map slot_of values) ≡ true → has_slot (Some what) slot ≡ true)
    → AllByRecursion (λ value. is_formed what value ≡ true) values → AllByRecursion (λ value. refers_rightly known id value ≡ true) values → AllByRecursion (Agrees known id) values
    → AllByRecursion (IsKept known) (values_writes id values)
kept-values known id what is [] listed formed refers agrees = tt {0}
kept-values known id what is (value ∷ values) listed formed refers agrees = (
  record {
    slot = ap (λ o. has_slot o (slot_of value)) is ∙ listed (slot_of value) (ap (λ b. b || list_any (same_slot (slot_of value)) (map slot_of values)) (own-slot (slot_of value)));
    form = λ q known-as. ap (λ b. b && is_formed q value) (own-slot (slot_of value)) ∙ ap (λ k. is_formed k value) (some-same q what (sym known-as ∙ is)) ∙ formed.0;
    refers = refers.0;
    agrees = agrees.0;
  },
  kept-values known id what is values (λ slot any. listed slot (any-more (same_slot slot (slot_of value)) _ any)) formed.1 refers.1 agrees.1,
)

kept-entity : (known : Knowns) (entity : NewEntity) (what : Known) → IsAdded known entity what → AllByRecursion (IsKept known) (values_writes entity.id entity.values)
kept-entity known entity what added =
    kept-values known entity.id what added.is entity.values (λ slot any. ap (list_any (same_slot slot)) (sym added.slots) ∙ any) added.formed added.refers added.agrees

pub all-append : {X : Type 0} (P : X → Type 0) (xs ys : List X) → AllByRecursion P xs → AllByRecursion P ys → AllByRecursion P (xs ++ ys)
all-append P [] ys all also = also
all-append P (x ∷ xs) ys all also = (all.0, all-append P xs ys all.1 also)

-- each of the entities is added
abbrev pub AreAdded : Knowns → List NewEntity → Type 0
AreAdded known = AllByRecursion (λ entity. (what : Known) × IsAdded known entity what)

kept-entities : (known : Knowns) (entities : List NewEntity) → AreAdded known entities → AllByRecursion (IsKept known) (entities_writes entities)
kept-entities known [] added = tt {0}
kept-entities known (entity ∷ entities) added =
    all-append (IsKept known) (values_writes entity.id entity.values) (entities_writes entities) (kept-entity known entity added.0.0 added.0.1) (kept-entities known entities added.1)

-- one of the entities has the identity
abbrev pub is_entity : List NewEntity → Id → Bool
is_entity entities id = list_any (λ (entity : NewEntity). same_id id entity.id) entities

whole-entities : (known : Knowns) (entities : List NewEntity) → AreAdded known entities → (id : Id) (slot : Slot) → is_entity entities id ≡ true → has_slot (get known id) slot ≡ true
    → is_some (last_write (entities_writes entities) (cell id slot)) ≡ true
whole-entities known [] added id slot any has = absurd (true≢false (sym any))
whole-entities known (entity ∷ entities) added id slot any has =
    ap is_some (last-append (values_writes entity.id entity.values) (entities_writes entities) (cell id slot))
    ∙ by (same_id id entity.id) refl any (λ more. whole-entities known entities added.1 id slot more has)
  where
    here : id ≡ entity.id → is_some (last_write (values_writes entity.id entity.values) (cell id slot)) ≡ true
    here same =
        ap (λ q. is_some (last_write (values_writes entity.id entity.values) (cell q slot))) same
        ∙ ap is_some (value-written entity.values entity.id slot)
        ∙ any-value entity.values slot (ap (list_any (same_slot slot)) added.0.1.slots
        ∙ sym (ap (λ o. has_slot o slot) added.0.1.is) ∙ sym (ap (λ q. has_slot (get known q) slot) same) ∙ has)

    by : (b : Bool) → same_id id entity.id ≡ b → (b || is_entity entities id) ≡ true → (is_entity entities id ≡ true → is_some (last_write (entities_writes entities) (cell id slot)) ≡ true)
        → is_some (option_or (last_write (entities_writes entities) (cell id slot)) (last_write (values_writes entity.id entity.values) (cell id slot))) ≡ true
    by true e any rest = some-or (last_write (entities_writes entities) (cell id slot)) _ (here (id_is id entity.id e))
    by false e any rest = some-first (last_write (entities_writes entities) (cell id slot)) _ (rest any)

-- what is written is one of the entities'
pub other-entities : (entities : List NewEntity) (id : Id) (slot : Slot) → is_entity entities id ≡ false → last_write (entities_writes entities) (cell id slot) ≡ None
other-entities [] id slot other = refl
other-entities (entity ∷ entities) id slot other =
    last-append (values_writes entity.id entity.values) (entities_writes entities) (cell id slot)
    ∙ by (same_id id entity.id) refl other (other-entities entities id slot)
  where
    by : (b : Bool) → same_id id entity.id ≡ b → (b || is_entity entities id) ≡ false → (is_entity entities id ≡ false → last_write (entities_writes entities) (cell id slot) ≡ None)
        → option_or (last_write (entities_writes entities) (cell id slot)) (last_write (values_writes entity.id entity.values) (cell id slot)) ≡ None
    by true e other rest = absurd (true≢false other)
    by false e other rest =
        ap (λ o. option_or o (last_write (values_writes entity.id entity.values) (cell id slot))) (rest other) ∙ other-written entity.values id entity.id slot e

pub redeclared-entity : (entities : List NewEntity) (id : Id) → is_redeclared (entities_writes entities) id ≡ true → is_entity entities id ≡ true
redeclared-entity entities id e = by (is_entity entities id) refl where
  by : (b : Bool) → is_entity entities id ≡ b → b ≡ true
  by true is = refl
  by false is = absurd (true≢false (sym e
      ∙ (λ i. is_some (other-entities entities id slots.Words is i) || is_some (other-entities entities id slots.Body is i))))

-- what has cells
abbrev pub has_cells : Known → Bool
has_cells (knowns.Param method) = false
has_cells what = true

slots-cells : (what : Known) (slot : Slot) → has_slot (Some what) slot ≡ true → has_cells what ≡ true
slots-cells knowns.Class slot has = refl
slots-cells (knowns.Method kind) slot has = refl
slots-cells (knowns.Decl method) slot has = refl
slots-cells knowns.Field slot has = refl
slots-cells (knowns.Param method) slot has = absurd (true≢false (sym has))

-- ---- all that is added

module _ (program : Program) (entities : List NewEntity) (names : List Name) where
  abbrev known : Knowns
  known = know_all program.known names

  -- what is new is one of the entities, or a parameter
  abbrev pub AreCovered : Type 0
  AreCovered = AllByRecursion (λ name. has_cells name.1 ≡ true → is_entity entities name.0 ≡ true) names

  pub keeps-entities : AreAdded known entities → AreCovered → AllByRecursion (λ name. Belongs known name.0 name.1) names
      → ((method first second : Id) (kind : MethodKind) → get known method ≡ Some (knowns.Method kind) → has_many kind ≡ false
      → get program.known first ≡ None → get known first ≡ Some (knowns.Decl method) → get known second ≡ Some (knowns.Decl method) → first ≡ second)
      → ((id method : Id) (kind : MethodKind) → get known id ≡ Some (knowns.Decl method) → get known method ≡ Some (knowns.Method kind) → is_entity entities id ≡ true
      → IsTrue (is_declared kind (last_write (entities_writes entities) (cell id slots.Words)) (last_write (entities_writes entities) (cell id slots.Body))))
      → Keeps program (entities_writes entities) names
  keeps-entities added covered belongs single declared = record {
    each = kept-entities known entities added;
    whole = λ id slot none has. whole-entities known entities added id slot (new id slot none has) has;
    belongs = belongs;
    single = single;
    declarations = λ id method kind is of redeclared.
        let own = redeclared-entity entities id redeclared in
        ap (λ v. is_declared kind v (value_at (written program (entities_writes entities) names) id slots.Body)) (value-is id slots.Words own (ap (λ o. has_slot o slots.Words) is))
        ∙ ap (is_declared kind (last_write (entities_writes entities) (cell id slots.Words))) (value-is id slots.Body own (ap (λ o. has_slot o slots.Body) is))
        ∙ declared id method kind is of own;
  } where
    taken : (o : Option Value) (old : Option Value) → is_some o ≡ true → option_or o old ≡ o
    taken (Some value) old e = refl
    taken None old e = absurd (true≢false (sym e))

    value-is : (id : Id) (slot : Slot) → is_entity entities id ≡ true → has_slot (get known id) slot ≡ true
        → value_at (written program (entities_writes entities) names) id slot ≡ last_write (entities_writes entities) (cell id slot)
    value-is id slot own has =
        get-put_all (entities_writes entities) program.cells (cell id slot)
        ∙ taken (last_write (entities_writes entities) (cell id slot)) (value_at program id slot) (whole-entities known entities added id slot own has)

    new : (id : Id) (slot : Slot) → get program.known id ≡ None → has_slot (get known id) slot ≡ true → is_entity entities id ≡ true
    new id slot none has = by (first_name names id) refl where
      is-first : get known id ≡ first_name names id
      is-first = get-know_all names program.known id ∙ ap (λ o. option_or o (first_name names id)) none

      by : (o : Option Known) → first_name names id ≡ o → is_entity entities id ≡ true
      by None e = absurd (true≢false (sym has ∙ ap (λ o. has_slot o slot) (is-first ∙ e)))
      by (Some what) e =
          first-each (λ q k. has_cells k ≡ true → is_entity entities q ≡ true) names covered id what e
          (slots-cells what slot (sym (ap (λ o. has_slot o slot) (is-first ∙ e)) ∙ has))
