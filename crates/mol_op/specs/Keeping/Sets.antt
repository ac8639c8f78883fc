-- Each operation that writes cells of what is known may write them.
use Rattle.std.specs.Prelude.{◌≡◌, ℕ, Bool, true, false, IsTrue, ◌&&◌, List, [], ◌∷◌, Option, None, Some}
use Rattle.std.proofs.Common.{refl, sym, ap, ◌∙◌, true≢false}
use Rattle.std.proofs.lemmas.List.Folds.{list_all-append}
use Rattle.std.specs.FinMap.{get}
use Rattle.std.specs.List.{list_all}
use Rattle.std.specs.Option.{option_or}
use Rattle.mol_base.specs.declared.ident.Id.{Id}
use Rattle.mol_table_rules.specs.Forms.{is_formed}
use Rattle.mol_table_rules.specs.Mentions.{Role, Mention, a_class, a_field, a_method, a_called_method, a_static_method, a_constructor, a_param, a_listed_param, type_mentions, maybe_mentions, body_mentions}
use Rattle.mol_table_rules.specs.Program.{Program, Knowns, value_at}
use Rattle.mol_table_rules.specs.Rules.{IsProgram, fills, is_declared}
use Rattle.mol_values_types.specs.declared.cell.Slot.TheVariants as slots
use Rattle.mol_values_types.specs.declared.iblock.IBody.{IBody}
use Rattle.mol_values_types.specs.declared.kind.MethodKind.{MethodKind}
use Rattle.mol_values_types.specs.declared.kind.MethodKind.TheVariants.{Instance, Static, Constructor}
use Rattle.mol_values_types.specs.declared.known.Known.{Known}
use Rattle.mol_values_types.specs.declared.known.Known.TheVariants as knowns
use Rattle.mol_values_types.specs.declared.value.Value.{Value}
use Rattle.mol_values_types.specs.declared.value.Value.TheVariants as values
use Rattle.mol_op.specs.Keeps.{MaySet}
use Rattle.mol_op.specs.Rows.{delete_tests, set_body_tests, set_value_tests, rename_class_tests, rename_method_tests, move_class_tests, move_method_tests, known_block_tests}
use Rattle.mol_op.specs.Tests.{declares, condition, need_fault, may_mention, mention_fault, mentions_fault, same_kind, is_of_kind, declares_kind, test_fault, tests_fault, tests_names}
use Rattle.mol_op.specs.declared.delete.Delete.{Delete}
use Rattle.mol_op.specs.declared.fault.OpFault.TheVariants.{WrongKind, NotStatic}
use Rattle.mol_op.specs.declared.move_class.MoveClass.{MoveClass}
use Rattle.mol_op.specs.declared.move_method.MoveMethod.{MoveMethod}
use Rattle.mol_op.specs.declared.rename_class.RenameClass.{RenameClass}
use Rattle.mol_op.specs.declared.rename_method.RenameMethod.{RenameMethod}
use Rattle.mol_op.specs.declared.set_body.SetBody.{SetBody}
use Rattle.mol_op.specs.declared.set_value.SetValue.{SetValue}
use Rattle.mol_op.specs.declared.conditions.Want.TheVariants as wants
use Rattle.mol_op.specs.ChangeLaws.{both-none}
use Rattle.mol_op.specs.Laws.{passed}
use Rattle.mol_op.specs.Parts.{types-then, types-only, known-block-then, names-types, names-types-only, names-known-block}

pub and-left : (a b : Bool) → (a && b) ≡ true → a ≡ true
and-left true b e = refl
and-left false b e = absurd (true≢false (sym e))

pub and-right : (a b : Bool) → (a && b) ≡ true → b ≡ true
and-right true b e = e
and-right false b e = absurd (true≢false (sym e))

pub and-both : (a b : Bool) → a ≡ true → b ≡ true → (a && b) ≡ true
and-both a b e f = ap (λ x. x && b) e ∙ f

-- ---- what is wanted, where the test holds

pub class-wanted : (id : Id) (o : Option Known) → need_fault wants.Class id o ≡ None → o ≡ Some knowns.Class
class-wanted id None e = absurd cc
class-wanted id (Some knowns.Class) e = refl
class-wanted id (Some (knowns.Method kind)) e = absurd cc
class-wanted id (Some (knowns.Decl method)) e = absurd cc
class-wanted id (Some knowns.Field) e = absurd cc
class-wanted id (Some (knowns.Param method)) e = absurd cc

pub field-wanted : (id : Id) (o : Option Known) → need_fault wants.Field id o ≡ None → o ≡ Some knowns.Field
field-wanted id None e = absurd cc
field-wanted id (Some knowns.Class) e = absurd cc
field-wanted id (Some (knowns.Method kind)) e = absurd cc
field-wanted id (Some (knowns.Decl method)) e = absurd cc
field-wanted id (Some knowns.Field) e = refl
field-wanted id (Some (knowns.Param method)) e = absurd cc

pub decl-wanted : (id : Id) (o : Option Known) → need_fault wants.Decl id o ≡ None → (method : Id) × (o ≡ Some (knowns.Decl method))
decl-wanted id None e = absurd cc
decl-wanted id (Some knowns.Class) e = absurd cc
decl-wanted id (Some (knowns.Method kind)) e = absurd cc
decl-wanted id (Some (knowns.Decl method)) e = (method, refl)
decl-wanted id (Some knowns.Field) e = absurd cc
decl-wanted id (Some (knowns.Param method)) e = absurd cc

pub method-wanted : (id : Id) (o : Option Known) → need_fault wants.Method id o ≡ None → (kind : MethodKind) × (o ≡ Some (knowns.Method kind))
method-wanted id None e = absurd cc
method-wanted id (Some knowns.Class) e = absurd cc
method-wanted id (Some (knowns.Method kind)) e = (kind, refl)
method-wanted id (Some (knowns.Decl method)) e = absurd cc
method-wanted id (Some knowns.Field) e = absurd cc
method-wanted id (Some (knowns.Param method)) e = absurd cc

-- a method that is no constructor has another name than the empty one
pub data IsCalled : MethodKind → Type 0 where
  instance_called : IsCalled Instance
  static_called : IsCalled Static

pub called-wanted : (id : Id) (o : Option Known) → need_fault wants.Called id o ≡ None → (kind : MethodKind) × (IsCalled kind × (o ≡ Some (knowns.Method kind)))
called-wanted id None e = absurd cc
called-wanted id (Some knowns.Class) e = absurd cc
called-wanted id (Some (knowns.Method Instance)) e = (Instance, (instance_called, refl))
called-wanted id (Some (knowns.Method Static)) e = (Static, (static_called, refl))
called-wanted id (Some (knowns.Method Constructor)) e = absurd cc
called-wanted id (Some (knowns.Decl method)) e = absurd cc
called-wanted id (Some knowns.Field) e = absurd cc
called-wanted id (Some (knowns.Param method)) e = absurd cc

pub overridden-wanted : (id : Id) (o : Option Known) → need_fault wants.Overridden id o ≡ None → o ≡ Some (knowns.Method Instance)
overridden-wanted id None e = absurd cc
overridden-wanted id (Some knowns.Class) e = absurd cc
overridden-wanted id (Some (knowns.Method Instance)) e = refl
overridden-wanted id (Some (knowns.Method Static)) e = absurd cc
overridden-wanted id (Some (knowns.Method Constructor)) e = absurd cc
overridden-wanted id (Some (knowns.Decl method)) e = absurd cc
overridden-wanted id (Some knowns.Field) e = absurd cc
overridden-wanted id (Some (knowns.Param method)) e = absurd cc

-- ---- what is mentioned, where the tests hold

fills-any : (owner : Id) (role : Role) (id : Id) (o : Option Known) → may_mention role id o ≡ true → fills owner role o ≡ true
fills-any owner a_class id None e = e
fills-any owner a_class id (Some knowns.Class) e = e
fills-any owner a_class id (Some (knowns.Method kind)) e = e
fills-any owner a_class id (Some (knowns.Decl method)) e = e
fills-any owner a_class id (Some knowns.Field) e = e
fills-any owner a_class id (Some (knowns.Param method)) e = e
fills-any owner a_field id None e = e
fills-any owner a_field id (Some knowns.Class) e = e
fills-any owner a_field id (Some (knowns.Method kind)) e = e
fills-any owner a_field id (Some (knowns.Decl method)) e = e
fills-any owner a_field id (Some knowns.Field) e = e
fills-any owner a_field id (Some (knowns.Param method)) e = e
fills-any owner a_method id None e = e
fills-any owner a_method id (Some knowns.Class) e = e
fills-any owner a_method id (Some (knowns.Method kind)) e = e
fills-any owner a_method id (Some (knowns.Decl method)) e = e
fills-any owner a_method id (Some knowns.Field) e = e
fills-any owner a_method id (Some (knowns.Param method)) e = e
fills-any owner a_called_method id None e = e
fills-any owner a_called_method id (Some knowns.Class) e = e
fills-any owner a_called_method id (Some (knowns.Method Instance)) e = e
fills-any owner a_called_method id (Some (knowns.Method Static)) e = e
fills-any owner a_called_method id (Some (knowns.Method Constructor)) e = e
fills-any owner a_called_method id (Some (knowns.Decl method)) e = e
fills-any owner a_called_method id (Some knowns.Field) e = e
fills-any owner a_called_method id (Some (knowns.Param method)) e = e
fills-any owner a_static_method id None e = e
fills-any owner a_static_method id (Some knowns.Class) e = e
fills-any owner a_static_method id (Some (knowns.Method Instance)) e = e
fills-any owner a_static_method id (Some (knowns.Method Static)) e = e
fills-any owner a_static_method id (Some (knowns.Method Constructor)) e = e
fills-any owner a_static_method id (Some (knowns.Decl method)) e = e
fills-any owner a_static_method id (Some knowns.Field) e = e
fills-any owner a_static_method id (Some (knowns.Param method)) e = e
fills-any owner a_constructor id None e = e
fills-any owner a_constructor id (Some knowns.Class) e = e
fills-any owner a_constructor id (Some (knowns.Method Instance)) e = e
fills-any owner a_constructor id (Some (knowns.Method Static)) e = e
fills-any owner a_constructor id (Some (knowns.Method Constructor)) e = e
fills-any owner a_constructor id (Some (knowns.Decl method)) e = e
fills-any owner a_constructor id (Some knowns.Field) e = e
fills-any owner a_constructor id (Some (knowns.Param method)) e = e
fills-any owner a_param id o e = refl
fills-any owner a_listed_param id o e = absurd (true≢false (sym e))

-- what is mentioned without a fault is mentioned rightly
pub mentions-right : (known : Knowns) (owner : Id) (ms : List Mention) → mentions_fault known ms ≡ None → list_all (λ (mention : Mention). fills owner mention.role (get known mention.id)) ms ≡ true
mentions-right known owner [] e = refl
mentions-right known owner (m ∷ ms) e =
    let both = both-none (mention_fault known m) (mentions_fault known ms) e in
    and-both _ _ (fills-any owner m.role m.id (get known m.id) (passed _ _ both.0)) (mentions-right known owner ms both.1)

-- ---- delete

-- what can be deleted has a life
pub life-may : (program : Program) (op : Delete) (tag : List ℕ) (live : Bool) → condition (delete_tests op) tag program.known ≡ None
    → MaySet program op.id (values.Live live)
life-may program op tag live e =
    by (get program.known op.id) refl (both-none (need_fault wants.Deleted op.id (get program.known op.id)) None e).0 where
      by : (o : Option Known) → get program.known op.id ≡ o → need_fault wants.Deleted op.id o ≡ None → MaySet program op.id (values.Live live)
      by None is e = absurd cc
      by (Some knowns.Class) is e = record { plain = refl; what = knowns.Class; known = is; slot = refl; formed = refl; refers = refl; allowed = tt {0} }
      by (Some (knowns.Method kind)) is e = absurd cc
      by (Some (knowns.Decl method)) is e = record { plain = refl; what = knowns.Decl method; known = is; slot = refl; formed = refl; refers = refl; allowed = tt {0} }
      by (Some knowns.Field) is e = record { plain = refl; what = knowns.Field; known = is; slot = refl; formed = refl; refers = refl; allowed = tt {0} }
      by (Some (knowns.Param method)) is e = absurd cc

pub delete-may : (program : Program) (op : Delete) (tag : List ℕ) → condition (delete_tests op) tag program.known ≡ None
    → MaySet program op.id (values.Live false)
delete-may program op tag e = life-may program op tag false e

-- ---- names, packages and owners

pub rename_class-may : (program : Program) (op : RenameClass) (tag : List ℕ) → condition (rename_class_tests op) tag program.known ≡ None → MaySet program op.class (values.Name op.name)
rename_class-may program op tag e = record {
  plain = refl;
  what = knowns.Class;
  known = class-wanted op.class _ (both-none (need_fault wants.Class op.class (get program.known op.class)) None e).0;
  slot = refl;
  formed = and-left _ _ op.formed;
  refers = refl;
  allowed = tt {0};
}

pub move_class-may : (program : Program) (op : MoveClass) (tag : List ℕ) → condition (move_class_tests op) tag program.known ≡ None → MaySet program op.class (values.Package op.«package»)
move_class-may program op tag e = record {
  plain = refl;
  what = knowns.Class;
  known = class-wanted op.class _ (both-none (need_fault wants.Class op.class (get program.known op.class)) None e).0;
  slot = refl;
  formed = and-left _ _ op.formed;
  refers = refl;
  allowed = tt {0};
}

called-name : (kind : MethodKind) → IsCalled kind → (name : List ℕ) → is_formed (knowns.Method Instance) (values.Name name) ≡ true → is_formed (knowns.Method kind) (values.Name name) ≡ true
called-name Instance instance_called name e = e
called-name Static static_called name e = e
called-name Constructor is name e = elim is [ ]

pub rename_method-may : (program : Program) (op : RenameMethod) (tag : List ℕ) → condition (rename_method_tests op) tag program.known ≡ None → MaySet program op.method (values.Name op.name)
rename_method-may program op tag e =
    let known = called-wanted op.method (get program.known op.method) (both-none (need_fault wants.Called op.method (get program.known op.method)) None e).0 in
    record {
      plain = refl;
      what = knowns.Method known.0;
      known = known.1.1;
      slot = refl;
      formed = called-name known.0 known.1.0 op.name (and-left _ _ op.formed);
      refers = refl;
      allowed = tt {0};
    }

pub move_method-may : (program : Program) (op : MoveMethod) (tag : List ℕ) → condition (move_method_tests op) tag program.known ≡ None → MaySet program op.decl (values.Owner op.owner)
move_method-may program op tag e =
    let first = both-none (need_fault wants.Decl op.decl (get program.known op.decl)) _ e in
    let second = both-none (test_fault tag [] program.known (declares Static (NotStatic op.decl) op.decl)) (option_or (need_fault wants.Class op.owner (get program.known op.owner)) None) first.1 in
    let third = both-none (need_fault wants.Class op.owner (get program.known op.owner)) None second.1 in
    let known = decl-wanted op.decl (get program.known op.decl) first.0 in
    record {
      plain = refl;
      what = knowns.Decl known.0;
      known = known.1;
      slot = refl;
      formed = refl;
      refers = ap (λ o. fills op.decl a_class o && true) (class-wanted op.owner (get program.known op.owner) third.0);
      allowed = tt {0};
    }

-- ---- values and bodies

pub set_value-may : (program : Program) (op : SetValue) (tag : List ℕ) → condition (set_value_tests op) tag program.known ≡ None → MaySet program op.field (values.Value op.ty op.value)
set_value-may program op tag e =
    let first = both-none (need_fault wants.Field op.field (get program.known op.field)) _ e in
    let second = both-none (mentions_fault program.known (type_mentions op.ty)) _ (sym (types-then tag [] program.known (type_mentions op.ty) _) ∙ first.1) in
    let third : mentions_fault program.known (maybe_mentions op.value) ≡ None = sym (types-only tag [] program.known (maybe_mentions op.value)) ∙ second.1 in
    record {
      plain = refl;
      what = knowns.Field;
      known = field-wanted op.field (get program.known op.field) first.0;
      slot = refl;
      formed = and-left _ _ op.formed;
      refers = list_all-append _ (type_mentions op.ty) (maybe_mentions op.value)
          ∙ and-both _ _ (mentions-right program.known op.field (type_mentions op.ty) second.0) (mentions-right program.known op.field (maybe_mentions op.value) third);
      allowed = tt {0};
    }

-- the modifiers of a declaration are allowed with another body, which only an instance method does without
redeclared-body : (kind : MethodKind) (words : List (List ℕ)) (old new : Option IBody) → (new ≡ None → kind ≡ Instance) → IsTrue (is_declared kind (Some (values.Words (record { texts = words }))) (Some (values.Body old)))
    → IsTrue (is_declared kind (Some (values.Words (record { texts = words }))) (Some (values.Body new)))
redeclared-body Instance words old new only e = e
redeclared-body Static words (Some old) (Some new) only e = e
redeclared-body Static words (Some old) None only e = absurd (static (only refl)) where
  static : Static ≡ Instance → ⊥
  static e = cc
redeclared-body Static words None new only e = absurd (true≢false (sym e))
redeclared-body Constructor words (Some old) (Some new) only e = e
redeclared-body Constructor words (Some old) None only e = absurd (constructor (only refl)) where
  constructor : Constructor ≡ Instance → ⊥
  constructor e = cc
redeclared-body Constructor words None new only e = absurd (true≢false (sym e))

-- a declaration's modifiers and its body are there
words-there : (kind : MethodKind) (words body : Option Value) → is_declared kind words body ≡ true → (texts : List (List ℕ)) × (words ≡ Some (values.Words (record { texts = texts })))
words-there kind None body e = absurd (true≢false (sym e))
words-there kind (Some (values.Live live)) body e = absurd (true≢false (sym e))
words-there kind (Some (values.Package name)) body e = absurd (true≢false (sym e))
words-there kind (Some (values.Owner owner)) body e = absurd (true≢false (sym e))
words-there kind (Some (values.Method method)) body e = absurd (true≢false (sym e))
words-there kind (Some (values.Name name)) body e = absurd (true≢false (sym e))
words-there kind (Some (values.Super parent)) body e = absurd (true≢false (sym e))
words-there kind (Some (values.Result ty)) body e = absurd (true≢false (sym e))
words-there kind (Some (values.Params params)) body e = absurd (true≢false (sym e))
words-there kind (Some (values.Kind own)) body e = absurd (true≢false (sym e))
words-there kind (Some (values.Fixed fixed)) body e = absurd (true≢false (sym e))
words-there kind (Some (values.Words words)) body e = (words.texts, refl)
words-there kind (Some (values.Notes notes)) body e = absurd (true≢false (sym e))
words-there kind (Some (values.Body block)) body e = absurd (true≢false (sym e))
words-there kind (Some (values.Value ty init)) body e = absurd (true≢false (sym e))

body-there : (kind : MethodKind) (texts : List (List ℕ)) (body : Option Value) → is_declared kind (Some (values.Words (record { texts = texts }))) body ≡ true → (old : Option IBody) × (body ≡ Some (values.Body old))
body-there kind texts None e = absurd (true≢false (sym e))
body-there kind texts (Some (values.Live live)) e = absurd (true≢false (sym e))
body-there kind texts (Some (values.Package name)) e = absurd (true≢false (sym e))
body-there kind texts (Some (values.Owner owner)) e = absurd (true≢false (sym e))
body-there kind texts (Some (values.Method method)) e = absurd (true≢false (sym e))
body-there kind texts (Some (values.Name name)) e = absurd (true≢false (sym e))
body-there kind texts (Some (values.Super parent)) e = absurd (true≢false (sym e))
body-there kind texts (Some (values.Result ty)) e = absurd (true≢false (sym e))
body-there kind texts (Some (values.Params params)) e = absurd (true≢false (sym e))
body-there kind texts (Some (values.Kind own)) e = absurd (true≢false (sym e))
body-there kind texts (Some (values.Fixed fixed)) e = absurd (true≢false (sym e))
body-there kind texts (Some (values.Words words)) e = absurd (true≢false (sym e))
body-there kind texts (Some (values.Notes notes)) e = absurd (true≢false (sym e))
body-there kind texts (Some (values.Body block)) e = (block, refl)
body-there kind texts (Some (values.Value ty init)) e = absurd (true≢false (sym e))

pub redeclared : (kind : MethodKind) (words body : Option Value) (new : Option IBody) → (new ≡ None → kind ≡ Instance) → is_declared kind words body ≡ true
    → is_declared kind words (Some (values.Body new)) ≡ true
redeclared kind words body new only e =
    let texts = words-there kind words body e in
    let first : is_declared kind (Some (values.Words (record { texts = texts.0 }))) body ≡ true = sym (ap (λ w. is_declared kind w body) texts.1) ∙ e in
    let old = body-there kind texts.0 body first in
    ap (λ w. is_declared kind w (Some (values.Body new))) texts.1
    ∙ redeclared-body kind texts.0 old.0 new only (sym (ap (is_declared kind (Some (values.Words (record { texts = texts.0 })))) old.1) ∙ first)

pub kinds-same : (first second : MethodKind) → same_kind first second ≡ true → first ≡ second
kinds-same Instance Instance e = refl
kinds-same Static Static e = refl
kinds-same Constructor Constructor e = refl
kinds-same Instance Static e = absurd (true≢false (sym e))
kinds-same Instance Constructor e = absurd (true≢false (sym e))
kinds-same Static Instance e = absurd (true≢false (sym e))
kinds-same Static Constructor e = absurd (true≢false (sym e))
kinds-same Constructor Instance e = absurd (true≢false (sym e))
kinds-same Constructor Static e = absurd (true≢false (sym e))

-- a known declaration without a block is one of an instance method
blockless : (known : Knowns) (tag : List ℕ) (decl method : Id) (kind : MethodKind) (body : Option IBody) → get known decl ≡ Some (knowns.Decl method) → get known method ≡ Some (knowns.Method kind)
    → tests_fault tag [] known (known_block_tests body decl) ≡ None → body ≡ None → kind ≡ Instance
blockless known tag decl method kind (Some body) is of e none = absurd cc
blockless known tag decl method kind None is of e none =
    let passes = passed (declares_kind known Instance (get known decl)) (WrongKind decl) (both-none _ None e).0 in
    kinds-same kind Instance (sym (ap (is_of_kind Instance) of) ∙ sym (ap (declares_kind known Instance) is) ∙ passes)

pub set_body-may : (program : Program) → IsProgram program → (op : SetBody) (tag : List ℕ) → condition (set_body_tests op) tag program.known ≡ None → MaySet program op.decl (values.Body op.body)
set_body-may program rules op tag e =
    let first = both-none (need_fault wants.Decl op.decl (get program.known op.decl)) _ e in
    let second = both-none (tests_fault tag [] program.known (known_block_tests op.body op.decl)) _ (sym (known-block-then tag [] program.known op.body op.decl _) ∙ first.1) in
    let third : mentions_fault program.known (body_mentions op.body) ≡ None = sym (types-only tag [] program.known (body_mentions op.body)) ∙ second.1 in
    let known = decl-wanted op.decl (get program.known op.decl) first.0 in
    record {
      plain = refl;
      what = knowns.Decl known.0;
      known = known.1;
      slot = refl;
      formed = and-left _ _ op.formed;
      refers = mentions-right program.known op.decl (body_mentions op.body) third;
      allowed = λ method kind is of.
          redeclared kind (value_at program op.decl slots.Words) (value_at program op.decl slots.Body) op.body
          (blockless program.known tag op.decl method kind op.body is of second.0) (rules.declarations op.decl method kind is of);
    }

-- ---- another value and another body add nothing

pub set_value-names : (op : SetValue) → tests_names (set_value_tests op) ≡ []
set_value-names op = names-types (type_mentions op.ty) _ ∙ names-types-only (maybe_mentions op.value)

pub set_body-names : (op : SetBody) → tests_names (set_body_tests op) ≡ []
set_body-names op = names-known-block op.body op.decl _ ∙ names-types-only (body_mentions op.body)
