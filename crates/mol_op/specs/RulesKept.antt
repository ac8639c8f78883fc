-- The rules of programs hold after writes that keep them.
use Rattle.std.specs.Prelude.{◌≡◌, Bool, true, false, IsTrue, cond, ◌&&◌, ◌||◌, List, [], ◌∷◌, Option, None, Some, is_some}
use Rattle.std.proofs.Common.{refl, sym, ap, subst, ◌∙◌, true≢false}
use Rattle.std.specs.FinMap.{get}
use Rattle.std.specs.List.{AllByRecursion, list_all}
use Rattle.std.specs.Option.{option_or}
use Rattle.std.specs.Ordering.{eq_by_cmp}
use Rattle.mol_base.specs.declared.ident.Id.{Id}
use Rattle.mol_table_rules.specs.Forms.{has_form}
use Rattle.mol_table_rules.specs.Mentions.{Role, Mention, a_class, a_field, a_method, a_called_method, a_static_method, a_constructor, a_param, a_listed_param, mentions}
use Rattle.mol_table_rules.specs.Program.{Program, Knowns, cell, value_at, same_id}
use Rattle.mol_table_rules.specs.Rules.{IsProgram, fills, refers_rightly, is_declared, has_many}
use Rattle.mol_values_types.specs.Order.{cell_cmp}
use Rattle.mol_values_types.specs.Slots.{has_slot}
use Rattle.mol_values_types.specs.declared.cell.Cell.{Cell}
use Rattle.mol_values_types.specs.declared.cell.Slot.{Slot}
use Rattle.mol_values_types.specs.declared.cell.Slot.TheVariants as slots
use Rattle.mol_values_types.specs.declared.kind.MethodKind.{MethodKind}
use Rattle.mol_values_types.specs.declared.known.Known.{Known}
use Rattle.mol_values_types.specs.declared.known.Known.TheVariants as knowns
use Rattle.mol_values_types.specs.declared.value.Value.{Value}
use Rattle.mol_values_types.specs.declared.value.Value.TheVariants as values
use Rattle.mol_op.specs.Changes.{Write, Name, last_write, first_name, written}
use Rattle.mol_op.specs.Keeps.{Keeps, IsKept, Belongs, is_redeclared}
use Rattle.mol_op.specs.Operation.{Within}
use Rattle.mol_op.specs.ChangeLaws.{none-some, some-same, id_is, cell_is, get-know_all, within-know_all, get-put_all}

-- ---- what holds of each write holds of the last for a cell; of names of the first

pub last-each : (P : Cell → Value → Type 0) (writes : List Write) → AllByRecursion (λ write. P write.0 write.1) writes
    → (at : Cell) (value : Value) → last_write writes at ≡ Some value → P at value
last-each P [] all at value is = absurd (none-some value is)
last-each P (write ∷ writes) all at value is =
    by (last-each P writes all.1 at value) (last_write writes at) refl (eq_by_cmp cell_cmp at write.0) refl is where
      by : (last_write writes at ≡ Some value → P at value) → (later : Option Value) → last_write writes at ≡ later
          → (b : Bool) → eq_by_cmp cell_cmp at write.0 ≡ b → option_or later (cond b (Some write.1) None) ≡ Some value → P at value
      by rest (Some later) e b t is = rest (e ∙ is)
      by rest None e true t is = subst (λ c. P c value) (sym (cell_is at write.0 t)) (subst (P write.0) (some-same _ _ is) all.0)
      by rest None e false t is = absurd (none-some value is)

pub first-each : (P : Id → Known → Type 0) (names : List Name) → AllByRecursion (λ name. P name.0 name.1) names
    → (id : Id) (what : Known) → first_name names id ≡ Some what → P id what
first-each P [] all id what is = absurd (none-some what is)
first-each P (name ∷ names) all id what is = by (first-each P names all.1 id what) (same_id id name.0) refl is where
  by : (first_name names id ≡ Some what → P id what) → (b : Bool) → same_id id name.0 ≡ b
      → cond b (Some name.1) (first_name names id) ≡ Some what → P id what
  by rest true t is = subst (λ i. P i what) (sym (id_is id name.0 t)) (subst (P name.0) (some-same _ _ is) all.0)
  by rest false t is = rest is

-- ---- references where more is known

fills-none : (owner : Id) (role : Role) (now : Option Known) → fills owner role None ≡ true → fills owner role now ≡ true
fills-none owner a_class now e = absurd cc
fills-none owner a_field now e = absurd cc
fills-none owner a_method now e = absurd cc
fills-none owner a_called_method now e = absurd cc
fills-none owner a_static_method now e = absurd cc
fills-none owner a_constructor now e = absurd cc
fills-none owner a_param now e = refl
fills-none owner a_listed_param now e = absurd cc

pub fills-grows : (owner : Id) (role : Role) (was now : Option Known) → ((what : Known) → was ≡ Some what → now ≡ Some what)
    → fills owner role was ≡ true → fills owner role now ≡ true
fills-grows owner role (Some what) now within e = ap (fills owner role) (within what refl) ∙ e
fills-grows owner role None now within e = fills-none owner role now e

pub all-more : {X : Type 0} (p q : X → Bool) → ((x : X) → p x ≡ true → q x ≡ true)
    → (xs : List X) → list_all p xs ≡ true → list_all q xs ≡ true
all-more p q more [] e = refl
all-more p q more (x ∷ xs) e = by (p x) refl e (all-more p q more xs) where
  by : (b : Bool) → p x ≡ b → (b && list_all p xs) ≡ true → (list_all p xs ≡ true → list_all q xs ≡ true) → (q x && list_all q xs) ≡ true
  by true t e rest = ap (λ c. c && list_all q xs) (more x t) ∙ rest e
  by false t e rest = absurd (true≢false (sym e))

pub refers-grow : (known more : Knowns) → Within known more → (owner : Id) (value : Value)
    → refers_rightly known owner value ≡ true → refers_rightly more owner value ≡ true
refers-grow known more within owner value e =
    all-more _ _
    (λ (mention : Mention) h. fills-grows owner mention.role (get known mention.id) (get more mention.id) (within mention.id) h)
    (mentions value) e

method-of : (id : Id) (o : Option Known) → fills id a_method o ≡ true → (kind : MethodKind) × (o ≡ Some (knowns.Method kind))
method-of id None e = absurd cc
method-of id (Some knowns.Class) e = absurd cc
method-of id (Some (knowns.Method kind)) e = (kind, refl)
method-of id (Some (knowns.Decl method)) e = absurd cc
method-of id (Some knowns.Field) e = absurd cc
method-of id (Some (knowns.Param method)) e = absurd cc

kind-same : (first second : MethodKind) → Some (knowns.Method first) ≡ Some (knowns.Method second) → first ≡ second
kind-same first second e = cc

-- ---- the rules

module _ (program : Program) (rules : IsProgram program) (writes : List Write) (names : List Name)
    (keeps : Keeps program writes names) where
  abbrev after : Program
  after = written program writes names

  within : Within program.known after.known
  within = within-know_all program.known names

  -- what is known afterwards was known, or is named
  known-by : (P : Type 0) (id : Id) (what : Known) → get after.known id ≡ Some what → (get program.known id ≡ Some what → P)
      → (get program.known id ≡ None → first_name names id ≡ Some what → P) → P
  known-by P id what is old new = by (get program.known id) refl (sym (get-know_all names program.known id) ∙ is) where
    by : (o : Option Known) → get program.known id ≡ o → option_or o (first_name names id) ≡ Some what → P
    by (Some was) e is = old (e ∙ is)
    by None e is = new e is

  -- a value afterwards is a written one, or stood there
  value-by : (P : Type 0) (id : Id) (slot : Slot) (value : Value) → value_at after id slot ≡ Some value
      → (last_write writes (cell id slot) ≡ Some value → P)
      → (last_write writes (cell id slot) ≡ None → value_at program id slot ≡ Some value → P) → P
  value-by P id slot value is new old =
      by (last_write writes (cell id slot)) refl (sym (get-put_all writes program.cells (cell id slot)) ∙ is) where
        by : (o : Option Value) → last_write writes (cell id slot) ≡ o → option_or o (value_at program id slot) ≡ Some value → P
        by (Some was) e is = new (e ∙ is)
        by None e is = old e is

  kept : (at : Cell) (value : Value) → last_write writes at ≡ Some value → IsKept after.known (at, value)
  kept = last-each (λ at value. IsKept after.known (at, value)) writes keeps.each

  whole : (id : Id) (slot : Slot) → is_some (value_at after id slot) ≡ has_slot (get after.known id) slot
  whole id slot =
      ap is_some (get-put_all writes program.cells (cell id slot))
      ∙ by (last_write writes (cell id slot)) refl (get program.known id) refl where
        by : (o : Option Value) → last_write writes (cell id slot) ≡ o → (k : Option Known) → get program.known id ≡ k
            → is_some (option_or o (value_at program id slot)) ≡ has_slot (get after.known id) slot
        by (Some value) e k t = sym (kept (cell id slot) value e).slot
        by None e (Some what) t = rules.whole id slot ∙ ap (λ o. has_slot o slot) (t ∙ sym (within id what t))
        by None e None t = rules.whole id slot ∙ ap (λ o. has_slot o slot) t ∙ sym (not-there (has_slot (get after.known id) slot) refl) where
          not-there : (b : Bool) → has_slot (get after.known id) slot ≡ b → b ≡ false
          not-there true h = absurd (true≢false (sym (keeps.whole id slot t h) ∙ ap is_some e))
          not-there false h = refl

  -- what has a cell was known as it is
  owner-known : (id : Id) (slot : Slot) (what : Known) (value : Value) → value_at program id slot ≡ Some value
      → get after.known id ≡ Some what → get program.known id ≡ Some what
  owner-known id slot what value holds is = by (get program.known id) refl where
    by : (o : Option Known) → get program.known id ≡ o → get program.known id ≡ Some what
    by (Some was) e = e ∙ sym (within id was e) ∙ is
    by None e = absurd (true≢false (sym (ap is_some holds) ∙ rules.whole id slot ∙ ap (λ o. has_slot o slot) e))

  forms : (id : Id) (slot : Slot) (known : Known) (value : Value) → get after.known id ≡ Some known
      → value_at after id slot ≡ Some value → IsTrue (has_form known slot value)
  forms id slot known value is holds =
      value-by (IsTrue (has_form known slot value)) id slot value holds
      (λ new. (kept (cell id slot) value new).form known is)
      (λ none old. rules.forms id slot known value (owner-known id slot known value old is) old)

  references : (id : Id) (slot : Slot) (value : Value) → value_at after id slot ≡ Some value → IsTrue (refers_rightly after.known id value)
  references id slot value holds =
      value-by (IsTrue (refers_rightly after.known id value)) id slot value holds
      (λ new. (kept (cell id slot) value new).refers)
      (λ none old. refers-grow program.known after.known within id value (rules.references id slot value old))

  kinds : (id : Id) (kind : MethodKind) → value_at after id slots.Kind ≡ Some (values.Kind kind)
      → get after.known id ≡ Some (knowns.Method kind)
  kinds id kind holds =
      value-by (get after.known id ≡ Some (knowns.Method kind)) id slots.Kind (values.Kind kind) holds
      (λ new. (kept (cell id slots.Kind) (values.Kind kind) new).agrees)
      (λ none old. within id (knowns.Method kind) (rules.kinds id kind old))

  methods : (id method : Id) → value_at after id slots.Method ≡ Some (values.Method method) → get after.known id ≡ Some (knowns.Decl method)
  methods id method holds =
      value-by (get after.known id ≡ Some (knowns.Decl method)) id slots.Method (values.Method method) holds
      (λ new. (kept (cell id slots.Method) (values.Method method) new).agrees)
      (λ none old. within id (knowns.Decl method) (rules.methods id method old))

  belongs : (id : Id) (what : Known) → first_name names id ≡ Some what → Belongs after.known id what
  belongs = first-each (Belongs after.known) names keeps.belongs

  decls : (id method : Id) → get after.known id ≡ Some (knowns.Decl method) → IsTrue (fills id a_method (get after.known method))
  decls id method is =
      known-by (IsTrue (fills id a_method (get after.known method))) id (knowns.Decl method) is
      (λ old. fills-grows id a_method (get program.known method) (get after.known method) (within method) (rules.decls id method old))
      (λ none new. belongs id (knowns.Decl method) new)

  params : (id method : Id) → get after.known id ≡ Some (knowns.Param method) → IsTrue (fills id a_method (get after.known method))
  params id method is =
      known-by (IsTrue (fills id a_method (get after.known method))) id (knowns.Param method) is
      (λ old. fills-grows id a_method (get program.known method) (get after.known method) (within method) (rules.params id method old))
      (λ none new. belongs id (knowns.Param method) new)

  -- the method of a known declaration was known as it is
  method-known : (decl method : Id) (kind : MethodKind) → get program.known decl ≡ Some (knowns.Decl method)
      → get after.known method ≡ Some (knowns.Method kind)
      → get program.known method ≡ Some (knowns.Method kind)
  method-known decl method kind old is =
      let was = method-of decl (get program.known method) (rules.decls decl method old) in
      was.1 ∙ ap (λ k. Some (knowns.Method k)) (kind-same was.0 kind (sym (within method (knowns.Method was.0) was.1) ∙ is))

  single : (method first second : Id) (kind : MethodKind) → get after.known method ≡ Some (knowns.Method kind) → has_many kind ≡ false
      → get after.known first ≡ Some (knowns.Decl method) → get after.known second ≡ Some (knowns.Decl method) → first ≡ second
  single method first second kind is many first-is second-is =
      known-by (first ≡ second) first (knowns.Decl method) first-is
      (λ old. known-by (first ≡ second) second (knowns.Decl method) second-is
      (λ also. rules.single method first second kind (method-known first method kind old is) many old also)
      (λ none new. sym (keeps.single method second first kind is many none second-is first-is)))
      (λ none new. keeps.single method first second kind is many none first-is second-is)

  not-none : {X : Type 0} (o : Option X) → is_some o ≡ false → o ≡ None
  not-none None e = refl
  not-none (Some x) e = absurd cc

  or-false : (a b : Bool) → (a || b) ≡ false → (a ≡ false) × (b ≡ false)
  or-false false b e = (refl, e)
  or-false true b e = absurd cc

  same-value : (id : Id) (slot : Slot) → last_write writes (cell id slot) ≡ None → value_at program id slot ≡ value_at after id slot
  same-value id slot none = sym (get-put_all writes program.cells (cell id slot) ∙ ap (λ o. option_or o (value_at program id slot)) none)

  declarations : (id method : Id) (kind : MethodKind) → get after.known id ≡ Some (knowns.Decl method)
      → get after.known method ≡ Some (knowns.Method kind)
      → IsTrue (is_declared kind (value_at after id slots.Words) (value_at after id slots.Body))
  declarations id method kind is of = by (is_redeclared writes id) refl where
    by : (b : Bool) → is_redeclared writes id ≡ b → IsTrue (is_declared kind (value_at after id slots.Words) (value_at after id slots.Body))
    by true e = keeps.declarations id method kind is of e
    by false e =
        let both = or-false (is_some (last_write writes (cell id slots.Words))) _ e in
        known-by _ id (knowns.Decl method) is
        (λ old. subst (λ v. IsTrue (is_declared kind v (value_at after id slots.Body))) (same-value id slots.Words (not-none _ both.0))
        (subst (λ v. IsTrue (is_declared kind (value_at program id slots.Words) v)) (same-value id slots.Body (not-none _ both.1))
        (rules.declarations id method kind old (method-known id method kind old of))))
        (λ none new. absurd (true≢false (sym (keeps.whole id slots.Words none (ap (λ o. has_slot o slots.Words) is)) ∙ both.0)))

  pub rules-written : IsProgram after
  rules-written = record {
    whole = whole;
    forms = forms;
    references = references;
    kinds = kinds;
    methods = methods;
    decls = decls;
    params = params;
    single = single;
    declarations = declarations;
  }
