-- What a class, a field, or a declaration of a known method is added as.
use Rattle.std.specs.Prelude.{◌≡◌, ◌≢◌, ℕ, Bool, true, false, IsTrue, cond, ◌&&◌, ◌||◌, List, [], ◌∷◌, None, Some, is_some}
use Prim.Native.Nat.{zero}
use Rattle.std.proofs.Common.{suc, refl, sym, ap, subst, ◌∙◌, true≢false, arith}
use Rattle.std.proofs.lemmas.List.Folds.{list_all-append}
use Rattle.std.specs.FinMap.{get, insert}
use Rattle.std.specs.List.{All, AllPairs, AllByRecursion, list_all}
use Rattle.std.specs.Option.{option_or}
use Rattle.mol_base.specs.declared.ident.Id.{Id}
use Rattle.mol_table_rules.specs.Forms.{is_formed}
use Rattle.mol_table_rules.specs.Mentions.{Mention, a_class, a_method, parent_mentions, type_mentions, maybe_mentions, body_mentions}
use Rattle.mol_table_rules.specs.Program.{Program, Knowns, cell, same_id}
use Rattle.mol_table_rules.specs.Rules.{IsProgram, fills, refers_rightly, is_declared, has_many}
use Rattle.mol_table_rules.specs.Writes.{AreNew, AreOfKind, with_entities, kept_or}
use Rattle.mol_table_rules.specs.declared.entity.NewEntity.{NewEntity}
use Rattle.mol_values_types.specs.declared.cell.Slot.TheVariants as slots
use Rattle.mol_values_types.specs.declared.kind.MethodKind.{MethodKind}
use Rattle.mol_values_types.specs.declared.kind.MethodKind.TheVariants.{Instance}
use Rattle.mol_values_types.specs.declared.known.Known.{Known}
use Rattle.mol_values_types.specs.declared.known.Known.TheVariants as knowns
use Rattle.mol_values_types.specs.declared.value.Value.TheVariants as values
use Rattle.mol_op.specs.Changes.{Name, know_all, put_all, last_write, first_name, written}
use Rattle.mol_op.specs.Operation.{Within}
use Rattle.mol_op.specs.Rows.{entities_writes, add_class_tests, add_class_entities, new_class, add_field_tests, add_field_entities, new_field, add_override_tests, add_override_entities, new_decl, value_tests}
use Rattle.mol_op.specs.Tests.{condition, tests_names, new_fault, need_fault, mentions_fault}
use Rattle.mol_op.specs.declared.add_class.AddClass.{AddClass}
use Rattle.mol_op.specs.declared.add_field.AddField.{AddField}
use Rattle.mol_op.specs.declared.add_override.AddOverride.{AddOverride}
use Rattle.mol_op.specs.declared.conditions.Want.TheVariants as wants
use Rattle.mol_op.specs.Keeping.Added.{IsAdded, keeps-entities, is_entity, value-written}
use Rattle.mol_op.specs.ChangeLaws.{none-some, both-none, id_is, id_self, get-know_all, within-know_all}
use Rattle.mol_op.specs.Laws.{new-is}
use Rattle.mol_op.specs.Parts.{types-then, types-only, inside-only, names-types, names-types-only, names-inside}
use Rattle.mol_op.specs.RulesKept.{rules-written, fills-grows, all-more}
use Rattle.mol_op.specs.Keeping.Sets.{and-left, and-right, and-both, class-wanted, overridden-wanted, mentions-right}

-- ---- lists of one

pub all-one : {X : Type 0} (P : X → Type 0) (x : X) → P x → All P (x ∷ [])
all-one P x holds zero d within = holds
all-one P x holds (suc k) d within = absurd (omega (arith, within))

pub pairs-one : {X : Type 0} (R : X → X → Type 0) (x : X) → AllPairs R (x ∷ [])
pairs-one R x i j d before within = absurd (omega (arith, before, within))

-- each value that passes a test of them all passes it
pub each-true : {X : Type 0} (p : X → Bool) (xs : List X) → list_all p xs ≡ true → AllByRecursion (λ x. p x ≡ true) xs
each-true p [] e = tt {0}
each-true p (x ∷ xs) e = (and-left (p x) _ e, each-true p xs (and-right (p x) _ e))

-- a new identity is known as what it is named first
pub own-known : (known : Knowns) (names : List Name) (id : Id) (what : Known) → get known id ≡ None → first_name names id ≡ Some what → get (know_all known names) id ≡ Some what
own-known known names id what none first = get-know_all names known id ∙ ap (λ o. option_or o (first_name names id)) none ∙ first

-- what is mentioned rightly stays so
pub still-right : (known more : Knowns) → Within known more → (owner : Id) (ms : List Mention) → mentions_fault known ms ≡ None → list_all (λ (mention : Mention). fills owner mention.role (get more mention.id)) ms ≡ true
still-right known more within owner ms e =
    all-more _ _ (λ (mention : Mention) h. fills-grows owner mention.role (get known mention.id) (get more mention.id) (within mention.id) h) ms (mentions-right known owner ms e)

put-new : (known : Knowns) (id : Id) (what : Known) → get known id ≡ None → insert known id what ≡ kept_or known id what
put-new known id what none = sym (ap (λ o. cond (is_some o) known (insert known id what)) none)

-- ---- add-class

module _ (program : Program) (rules : IsProgram program) (op : AddClass) (tag : List ℕ) (holds : condition (add_class_tests op) tag program.known ≡ None) where
  abbrev class_names : List Name
  class_names = (op.class, knowns.Class) ∷ []

  pub class-names : tests_names (add_class_tests op) ≡ class_names
  class-names = ap (λ names. (op.class, knowns.Class) ∷ names) (names-types-only (parent_mentions op.parent))

  abbrev class-after : Knowns
  class-after = know_all program.known class_names

  class-tests : (new_fault tag false op.class (get program.known op.class) ≡ None) × (mentions_fault program.known (parent_mentions op.parent) ≡ None)
  class-tests =
      let both = both-none (new_fault tag false op.class (get program.known op.class)) _ holds in
      (both.0, sym (types-only tag ((op.class, knowns.Class) ∷ []) program.known (parent_mentions op.parent)) ∙ both.1)

  pub class-new : get program.known op.class ≡ None
  class-new = (new-is tag false op.class (get program.known op.class) class-tests.0).0

  class-known : get class-after op.class ≡ Some knowns.Class
  class-known = own-known program.known class_names op.class knowns.Class class-new (ap (λ b. cond b (Some knowns.Class) None) (id_self op.class))

  class-added : IsAdded class-after (new_class op) knowns.Class
  class-added = record {
    is = class-known;
    slots = refl;
    formed = (refl, each-true (is_formed knowns.Class) (values.Package op.«package» ∷ values.Name op.name ∷ values.Super op.parent ∷ values.Words op.words ∷ values.Notes op.notes ∷ []) op.formed);
    refers = (refl, (refl, (refl, (still-right program.known class-after (within-know_all program.known class_names) op.class (parent_mentions op.parent) class-tests.1, (refl, (refl, tt {0}))))));
    agrees = (tt {0}, (tt {0}, (tt {0}, (tt {0}, (tt {0}, (tt {0}, tt {0}))))));
  }

  class-no-decl : (id method : Id) → first_name class_names id ≡ Some (knowns.Decl method) → ⊥
  class-no-decl id method is = by (same_id id op.class) is where
    by : (b : Bool) → cond b (Some knowns.Class) None ≡ Some (knowns.Decl method) → ⊥
    by true e = cc
    by false e = cc

  class-new-decl : (id method : Id) → get program.known id ≡ None → get class-after id ≡ Some (knowns.Decl method) → ⊥
  class-new-decl id method none is = class-no-decl id method (sym (get-know_all class_names program.known id ∙ ap (λ o. option_or o (first_name class_names id)) none) ∙ is)

  class-is : (id : Id) → is_entity (add_class_entities op) id ≡ true → id ≡ op.class
  class-is id e = id_is id op.class (by (same_id id op.class) e) where
    by : (b : Bool) → (b || false) ≡ true → b ≡ true
    by true e = refl
    by false e = e

  not-class : (method : Id) → Some knowns.Class ≡ Some (knowns.Decl method) → ⊥
  not-class method e = cc

  pub class-written : with_entities program (add_class_entities op) ≡ written program (entities_writes (add_class_entities op)) (tests_names (add_class_tests op))
  class-written =
      (λ i. record { cells = put_all program.cells (entities_writes (add_class_entities op)); known = put-new program.known op.class knowns.Class class-new i })
      ∙ ap (written program (entities_writes (add_class_entities op))) (sym class-names)

  pub class-may : AreNew program (add_class_entities op)
  class-may = record {
    kinds = all-one AreOfKind (new_class op) (record { entity_kind = λ e. cc; values = refl });
    unknown = all-one (λ (entity : NewEntity). get program.known entity.id ≡ None) (new_class op) class-new;
    differ = pairs-one (λ (first second : NewEntity). first.id ≢ second.id) (new_class op);
    rules = subst IsProgram (sym (class-written ∙ ap (written program (entities_writes (add_class_entities op))) class-names))
        (rules-written program rules (entities_writes (add_class_entities op)) class_names (keeps-entities program (add_class_entities op) class_names
        ((knowns.Class, class-added), tt {0})
        ((λ _. ap (λ b. b || false) (id_self op.class)), tt {0})
        (tt {0}, tt {0})
        (λ method first second kind is many none first-is second-is. absurd (class-new-decl first method none first-is))
        (λ id method kind is of own. absurd (not-class method (sym class-known ∙ sym (ap (get class-after) (class-is id own)) ∙ is)))));
  }

-- ---- add-field

module _ (program : Program) (rules : IsProgram program) (op : AddField) (tag : List ℕ) (holds : condition (add_field_tests op) tag program.known ≡ None) where
  abbrev field_names : List Name
  field_names = (op.field, knowns.Field) ∷ []

  pub field-names : tests_names (add_field_tests op) ≡ field_names
  field-names = ap (λ names. (op.field, knowns.Field) ∷ names) (names-types (type_mentions op.ty) (value_tests op.value) ∙ names-inside (maybe_mentions op.value))

  abbrev field-after : Knowns
  field-after = know_all program.known field_names

  pub record FieldTests : Type 0 where
    pub fresh : new_fault tag false op.field (get program.known op.field) ≡ None
    pub owner : need_fault wants.Class op.owner (get program.known op.owner) ≡ None
    pub ty : mentions_fault program.known (type_mentions op.ty) ≡ None
    pub value : mentions_fault field-after (maybe_mentions op.value) ≡ None

  field-tests : FieldTests
  field-tests =
      let first = both-none (new_fault tag false op.field (get program.known op.field)) _ holds in
      let second = both-none (need_fault wants.Class op.owner (get program.known op.owner)) _ first.1 in
      let third = both-none (mentions_fault program.known (type_mentions op.ty)) _ (sym (types-then tag field_names program.known (type_mentions op.ty) (value_tests op.value)) ∙ second.1) in
      record { fresh = first.0; owner = second.0; ty = third.0; value = sym (inside-only tag field_names program.known (maybe_mentions op.value)) ∙ third.1 }

  pub field-new : get program.known op.field ≡ None
  field-new = (new-is tag false op.field (get program.known op.field) field-tests.fresh).0

  field-known : get field-after op.field ≡ Some knowns.Field
  field-known = own-known program.known field_names op.field knowns.Field field-new (ap (λ b. cond b (Some knowns.Field) None) (id_self op.field))

  field-owner : get field-after op.owner ≡ Some knowns.Class
  field-owner = within-know_all program.known field_names op.owner knowns.Class (class-wanted op.owner (get program.known op.owner) field-tests.owner)

  field-formed : AllByRecursion (λ value. is_formed knowns.Field value ≡ true) (new_field op).values
  field-formed = (refl, (refl, each-true (is_formed knowns.Field) (values.Name op.name ∷ values.Words op.words ∷ values.Notes op.notes ∷ values.Value op.ty op.value ∷ []) op.formed))

  field-value : refers_rightly field-after op.field (values.Value op.ty op.value) ≡ true
  field-value =
      let right = λ (mention : Mention). fills op.field mention.role (get field-after mention.id) in
      list_all-append right (type_mentions op.ty) (maybe_mentions op.value)
      ∙ and-both (list_all right (type_mentions op.ty)) (list_all right (maybe_mentions op.value)) (still-right program.known field-after (within-know_all program.known field_names) op.field (type_mentions op.ty) field-tests.ty)
      (mentions-right field-after op.field (maybe_mentions op.value) field-tests.value)

  field-added : IsAdded field-after (new_field op) knowns.Field
  field-added = record {
    is = field-known;
    slots = refl;
    formed = field-formed;
    refers = (refl, (ap (λ o. fills op.field a_class o && true) field-owner, (refl, (refl, (refl, (field-value, tt {0}))))));
    agrees = (tt {0}, (tt {0}, (tt {0}, (tt {0}, (tt {0}, (tt {0}, tt {0}))))));
  }

  field-no-decl : (id method : Id) → first_name field_names id ≡ Some (knowns.Decl method) → ⊥
  field-no-decl id method is = by (same_id id op.field) is where
    by : (b : Bool) → cond b (Some knowns.Field) None ≡ Some (knowns.Decl method) → ⊥
    by true e = cc
    by false e = cc

  field-new-decl : (id method : Id) → get program.known id ≡ None → get field-after id ≡ Some (knowns.Decl method) → ⊥
  field-new-decl id method none is = field-no-decl id method (sym (get-know_all field_names program.known id ∙ ap (λ o. option_or o (first_name field_names id)) none) ∙ is)

  field-is : (id : Id) → is_entity (add_field_entities op) id ≡ true → id ≡ op.field
  field-is id e = id_is id op.field (by (same_id id op.field) e) where
    by : (b : Bool) → (b || false) ≡ true → b ≡ true
    by true e = refl
    by false e = e

  not-field : (method : Id) → Some knowns.Field ≡ Some (knowns.Decl method) → ⊥
  not-field method e = cc

  pub field-written : with_entities program (add_field_entities op) ≡ written program (entities_writes (add_field_entities op)) (tests_names (add_field_tests op))
  field-written =
      (λ i. record { cells = put_all program.cells (entities_writes (add_field_entities op)); known = put-new program.known op.field knowns.Field field-new i })
      ∙ ap (written program (entities_writes (add_field_entities op))) (sym field-names)

  pub field-may : AreNew program (add_field_entities op)
  field-may = record {
    kinds = all-one AreOfKind (new_field op) (record { entity_kind = λ e. cc; values = refl });
    unknown = all-one (λ (entity : NewEntity). get program.known entity.id ≡ None) (new_field op) field-new;
    differ = pairs-one (λ (first second : NewEntity). first.id ≢ second.id) (new_field op);
    rules = subst IsProgram (sym (field-written ∙ ap (written program (entities_writes (add_field_entities op))) field-names))
        (rules-written program rules (entities_writes (add_field_entities op)) field_names (keeps-entities program (add_field_entities op) field_names
        ((knowns.Field, field-added), tt {0})
        ((λ _. ap (λ b. b || false) (id_self op.field)), tt {0})
        (tt {0}, tt {0})
        (λ method first second kind is many none first-is second-is. absurd (field-new-decl first method none first-is))
        (λ id method kind is of own. absurd (not-field method (sym field-known ∙ sym (ap (get field-after) (field-is id own)) ∙ is)))));
  }

-- ---- add-override

module _ (program : Program) (rules : IsProgram program) (op : AddOverride) (tag : List ℕ) (holds : condition (add_override_tests op) tag program.known ≡ None) where
  abbrev override_names : List Name
  override_names = (op.decl, knowns.Decl op.method) ∷ []

  pub override-names : tests_names (add_override_tests op) ≡ override_names
  override-names = ap (λ names. (op.decl, knowns.Decl op.method) ∷ names) (names-inside (body_mentions op.body))

  abbrev override-after : Knowns
  override-after = know_all program.known override_names

  abbrev override_entity : NewEntity
  override_entity = new_decl op.decl op.owner op.method op.words op.notes op.body

  pub record OverrideTests : Type 0 where
    pub fresh : new_fault tag false op.decl (get program.known op.decl) ≡ None
    pub method : need_fault wants.Overridden op.method (get program.known op.method) ≡ None
    pub owner : need_fault wants.Class op.owner (get program.known op.owner) ≡ None
    pub body : mentions_fault override-after (body_mentions op.body) ≡ None

  override-tests : OverrideTests
  override-tests =
      let first = both-none (new_fault tag false op.decl (get program.known op.decl)) _ holds in
      let second = both-none (need_fault wants.Overridden op.method (get program.known op.method)) _ first.1 in
      let third = both-none (need_fault wants.Class op.owner (get program.known op.owner)) _ second.1 in
      record { fresh = first.0; method = second.0; owner = third.0; body = sym (inside-only tag override_names program.known (body_mentions op.body)) ∙ third.1 }

  pub override-new : get program.known op.decl ≡ None
  override-new = (new-is tag false op.decl (get program.known op.decl) override-tests.fresh).0

  override-known : get override-after op.decl ≡ Some (knowns.Decl op.method)
  override-known = own-known program.known override_names op.decl (knowns.Decl op.method) override-new (ap (λ b. cond b (Some (knowns.Decl op.method)) None) (id_self op.decl))

  override-owner : get override-after op.owner ≡ Some knowns.Class
  override-owner = within-know_all program.known override_names op.owner knowns.Class (class-wanted op.owner (get program.known op.owner) override-tests.owner)

  override-method : get override-after op.method ≡ Some (knowns.Method Instance)
  override-method = within-know_all program.known override_names op.method (knowns.Method Instance) (overridden-wanted op.method (get program.known op.method) override-tests.method)

  override-added : IsAdded override-after override_entity (knowns.Decl op.method)
  override-added = record {
    is = override-known;
    slots = refl;
    formed = (refl, (refl, (refl, each-true (is_formed (knowns.Decl op.method)) (values.Words op.words ∷ values.Notes op.notes ∷ values.Body op.body ∷ []) op.formed)));
    refers = (refl, (ap (λ o. fills op.decl a_class o && true) override-owner, (ap (λ o. fills op.decl a_method o && true) override-method, (refl, (refl, (mentions-right override-after op.decl (body_mentions op.body) override-tests.body, tt {0}))))));
    agrees = (tt {0}, (tt {0}, (override-known, (tt {0}, (tt {0}, (tt {0}, tt {0}))))));
  }

  override-is : (id : Id) → is_entity (add_override_entities op) id ≡ true → id ≡ op.decl
  override-is id e = id_is id op.decl (by (same_id id op.decl) e) where
    by : (b : Bool) → (b || false) ≡ true → b ≡ true
    by true e = refl
    by false e = e

  pub override-written : with_entities program (add_override_entities op) ≡ written program (entities_writes (add_override_entities op)) (tests_names (add_override_tests op))
  override-written =
      (λ i. record { cells = put_all program.cells (entities_writes (add_override_entities op)); known = put-new program.known op.decl (knowns.Decl op.method) override-new i })
      ∙ ap (written program (entities_writes (add_override_entities op))) (sym override-names)

  decl-same : (first second : Id) → Some (knowns.Decl first) ≡ Some (knowns.Decl second) → first ≡ second
  decl-same first second e = cc

  kind-same : (first second : MethodKind) → Some (knowns.Method first) ≡ Some (knowns.Method second) → first ≡ second
  kind-same first second e = cc

  -- the method of the new declaration is an instance method
  method-is : (id method : Id) (kind : MethodKind) → id ≡ op.decl → get override-after id ≡ Some (knowns.Decl method) → get override-after method ≡ Some (knowns.Method kind) → Instance ≡ kind
  method-is id method kind own is of =
      let same : op.method ≡ method = decl-same op.method method (sym override-known ∙ sym (ap (get override-after) own) ∙ is) in
      kind-same Instance kind (sym override-method ∙ ap (get override-after) same ∙ of)

  new-id : (id method : Id) → get program.known id ≡ None → get override-after id ≡ Some (knowns.Decl method) → id ≡ op.decl
  new-id id method none is =
      by (same_id id op.decl) refl (sym (get-know_all override_names program.known id ∙ ap (λ o. option_or o (first_name override_names id)) none) ∙ is)
    where
      by : (b : Bool) → same_id id op.decl ≡ b → cond b (Some (knowns.Decl op.method)) None ≡ Some (knowns.Decl method) → id ≡ op.decl
      by true e is = id_is id op.decl e
      by false e is = absurd (none-some _ is)

  -- an instance method may have several declarations
  not-single : (kind : MethodKind) → Instance ≡ kind → has_many kind ≡ false → ⊥
  not-single kind is many = true≢false (ap has_many is ∙ many)

  override-declared : IsTrue (is_declared Instance (last_write (entities_writes (add_override_entities op)) (cell op.decl slots.Words)) (last_write (entities_writes (add_override_entities op)) (cell op.decl slots.Body)))
  override-declared =
      ap (λ w. is_declared Instance w (last_write (entities_writes (add_override_entities op)) (cell op.decl slots.Body))) (value-written override_entity.values op.decl slots.Words)
      ∙ ap (is_declared Instance (Some (values.Words op.words))) (value-written override_entity.values op.decl slots.Body)
      ∙ and-left (is_formed (knowns.Decl op.method) (values.Words op.words)) _ op.formed

  pub override-may : AreNew program (add_override_entities op)
  override-may = record {
    kinds = all-one AreOfKind override_entity (record { entity_kind = λ e. cc; values = refl });
    unknown = all-one (λ (entity : NewEntity). get program.known entity.id ≡ None) override_entity override-new;
    differ = pairs-one (λ (first second : NewEntity). first.id ≢ second.id) override_entity;
    rules = subst IsProgram (sym (override-written ∙ ap (written program (entities_writes (add_override_entities op))) override-names))
        (rules-written program rules (entities_writes (add_override_entities op)) override_names (keeps-entities program (add_override_entities op) override_names
        ((knowns.Decl op.method, override-added), tt {0})
        ((λ _. ap (λ b. b || false) (id_self op.decl)), tt {0})
        (ap (fills op.decl a_method) override-method, tt {0})
        (λ method first second kind is many none first-is second-is. absurd (not-single kind (method-is first method kind (new-id first method none first-is) first-is is) many))
        (λ id method kind is of own. declared-as id method kind (override-is id own) is of)));
  } where
    declared-as : (id method : Id) (kind : MethodKind) → id ≡ op.decl → get override-after id ≡ Some (knowns.Decl method) → get override-after method ≡ Some (knowns.Method kind)
        → IsTrue (is_declared kind (last_write (entities_writes (add_override_entities op)) (cell id slots.Words)) (last_write (entities_writes (add_override_entities op)) (cell id slots.Body)))
    declared-as id method kind own is of =
        subst (λ k. IsTrue (is_declared k (last_write (entities_writes (add_override_entities op)) (cell id slots.Words)) (last_write (entities_writes (add_override_entities op)) (cell id slots.Body)))) (method-is id method kind own is of)
        (subst (λ q. IsTrue (is_declared Instance (last_write (entities_writes (add_override_entities op)) (cell q slots.Words)) (last_write (entities_writes (add_override_entities op)) (cell q slots.Body)))) (sym own) override-declared)
