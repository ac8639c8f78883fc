-- A method may be given another result and other parameters where the operation applies.
use Rattle.std.specs.Prelude.{◌≡◌, ◌⊎◌, ℕ, Bool, true, false, IsTrue, cond, ◌||◌, List, [], ◌∷◌, ◌++◌, map, Option, None, Some, is_some, IsSome, if◌then◌else◌}
use Rattle.std.proofs.Common.{refl, sym, ap, subst, ◌∙◌, true≢false}
use mathlib.Core.Logic.{inl, inr}
use Rattle.std.specs.FinMap.{get}
use Rattle.std.specs.List.{AllByRecursion, list_any}
use Rattle.std.specs.Option.{option_or}
use Rattle.std.specs.Ordering.{eq_by_cmp}
use Rattle.mol_base.specs.declared.ident.Id.{Id}
use Rattle.mol_table_rules.specs.Forms.{has_form, is_formed, differ}
use Rattle.mol_table_rules.specs.Mentions.{a_method, type_mentions}
use Rattle.mol_table_rules.specs.Program.{Program, Knowns, cell, same_id, value_at}
use Rattle.mol_table_rules.specs.Rules.{IsProgram, fills}
use Rattle.mol_table_rules.specs.TypeForms.{is_void, is_type, is_result}
use Rattle.mol_table_rules.specs.Writes.{with_value}
use Rattle.mol_values_types.specs.Order.{cell_cmp}
use Rattle.mol_values_types.specs.Slots.{has_slot}
use Rattle.mol_values_types.specs.declared.cell.Cell.{Cell}
use Rattle.mol_values_types.specs.declared.cell.Slot.{Slot}
use Rattle.mol_values_types.specs.declared.cell.Slot.TheVariants as slots
use Rattle.mol_values_types.specs.declared.itype.IType.{IType}
use Rattle.mol_values_types.specs.declared.kind.MethodKind.{MethodKind}
use Rattle.mol_values_types.specs.declared.kind.MethodKind.TheVariants.{Instance, Static, Constructor}
use Rattle.mol_values_types.specs.declared.known.Known.{Known}
use Rattle.mol_values_types.specs.declared.known.Known.TheVariants as knowns
use Rattle.mol_values_types.specs.declared.param.Param.{Param}
use Rattle.mol_values_types.specs.declared.value.Value.TheVariants as values
use Rattle.mol_op.specs.Changes.{Name, know_all, last_write, first_name, written}
use Rattle.mol_op.specs.Keeps.{Keeps, Belongs, is_redeclared, MaySet}
use Rattle.mol_op.specs.Kept.{may_be_params}
use Rattle.mol_op.specs.Operation.{AreApart}
use Rattle.mol_op.specs.Rows.{write, change_signature_tests, change_signature_writes, param_tests}
use Rattle.mol_op.specs.Seen.{named_params}
use Rattle.mol_op.specs.Tests.{lists, condition, tests_fault, tests_names, need_fault, mentions_fault}
use Rattle.mol_op.specs.declared.change_signature.ChangeSignature.{ChangeSignature}
use Rattle.mol_op.specs.declared.conditions.Want.TheVariants as wants
use Rattle.mol_op.specs.Keeping.AddedOne.{still-right}
use Rattle.mol_op.specs.Keeping.AddedTwo.{params-known}
use Rattle.mol_op.specs.ChangeLaws.{none-some, some-same, both-none, cell_is, get-know_all, within-know_all}
use Rattle.mol_op.specs.Names.{first-params}
use Rattle.mol_op.specs.Keeping.ParamsPass.{Passes, params-pass, listed-holds, params-formed, params-right, each-first}
use Rattle.mol_op.specs.Parts.{lists-param, types-then, names-params, names-types}
use Rattle.mol_op.specs.RulesKept.{rules-written}
use Rattle.mol_op.specs.Keeping.Sets.{and-left, and-right, method-wanted, called-wanted, IsCalled, instance_called, static_called}
use Rattle.mol_op.specs.Together.{either-order}

append-nil : {A : Type 0} (xs : List A) → xs ++ [] ≡ xs
append-nil [] = refl
append-nil (x ∷ xs) = ap (λ ys. x ∷ ys) (append-nil xs)

-- what a method is that may have this result
pub record HasResult (known : Knowns) (method : Id) (ty : IType) : Type 0 where
  pub kind : MethodKind
  pub is : get known method ≡ Some (knowns.Method kind)
  pub formed : is_formed (knowns.Method kind) (values.Result ty) ≡ true

void-formed : (kind : MethodKind) (ty : IType) → is_void ty ≡ true → is_formed (knowns.Method kind) (values.Result ty) ≡ true
void-formed Instance ty void = ap (λ b. b || is_type ty) void
void-formed Static ty void = ap (λ b. b || is_type ty) void
void-formed Constructor ty void = void

called-formed : (kind : MethodKind) → IsCalled kind → (ty : IType) → is_result ty ≡ true → is_formed (knowns.Method kind) (values.Result ty) ≡ true
called-formed Instance instance_called ty e = e
called-formed Static static_called ty e = e
called-formed Constructor is ty e = elim is [ ]

has-result : (known : Knowns) (method : Id) (ty : IType) → is_result ty ≡ true → (b : Bool) → is_void ty ≡ b → need_fault (if b then wants.Method else wants.Called) method (get known method) ≡ None
    → HasResult known method ty
has-result known method ty formed true void e =
    let is = method-wanted method (get known method) e in record { kind = is.0; is = is.1; formed = void-formed is.0 ty void }
has-result known method ty formed false void e =
    let is = called-wanted method (get known method) e in record { kind = is.0; is = is.1.1; formed = called-formed is.0 is.1.0 ty formed }

other-slot : (q id : Id) (first second : Slot) → (first ≡ second → ⊥) → eq_by_cmp cell_cmp (cell q first) (cell id second) ≡ false
other-slot q id first second differ = by (eq_by_cmp cell_cmp (cell q first) (cell id second)) refl where
  by : (b : Bool) → eq_by_cmp cell_cmp (cell q first) (cell id second) ≡ b → b ≡ false
  by false e = refl
  by true e = absurd (differ (ap (λ (at : Cell). at.slot) (cell_is (cell q first) (cell id second) e)))

words-params : slots.Words ≡ slots.Params → ⊥
words-params e = cc

body-params : slots.Body ≡ slots.Params → ⊥
body-params e = cc

params-result : slots.Params ≡ slots.Result → ⊥
params-result e = cc

module _ (program : Program) (rules : IsProgram program) (op : ChangeSignature) (tag : List ℕ) (holds : condition (change_signature_tests op) tag program.known ≡ None) where
  abbrev names : List Name
  names = named_params op.method op.params

  abbrev after : Knowns
  after = know_all program.known names

  pub signature-names : tests_names (change_signature_tests op) ≡ names
  signature-names =
      names-types (type_mentions op.result) (param_tests (lists op.method) op.params)
      ∙ ap tests_names (sym (append-nil (param_tests (lists op.method) op.params)))
      ∙ names-params op.method (lists op.method) (lists-param op.method) op.params []
      ∙ append-nil names

  result : HasResult program.known op.method op.result
  result = has-result program.known op.method op.result (and-right (may_be_params op.params) (is_result op.result) op.formed) (is_void op.result) refl
      (both-none (need_fault (if is_void op.result then wants.Method else wants.Called) op.method (get program.known op.method)) _ holds).0

  types : (mentions_fault program.known (type_mentions op.result) ≡ None) × (tests_fault tag [] program.known (param_tests (lists op.method) op.params) ≡ None)
  types = both-none (mentions_fault program.known (type_mentions op.result)) _
      (sym (types-then tag [] program.known (type_mentions op.result) (param_tests (lists op.method) op.params))
      ∙ (both-none (need_fault (if is_void op.result then wants.Method else wants.Called) op.method (get program.known op.method)) _ holds).1)

  method-known : get after op.method ≡ Some (knowns.Method result.kind)
  method-known = within-know_all program.known names op.method (knowns.Method result.kind) result.is

  param-known : (id : Id) → (get program.known id ≡ Some (knowns.Param op.method)) ⊎ (get program.known id ≡ None) → first_name names id ≡ Some (knowns.Param op.method) → get after id ≡ Some (knowns.Param op.method)
  param-known id (inl is) first = within-know_all program.known names id (knowns.Param op.method) is
  param-known id (inr none) first = get-know_all names program.known id ∙ ap (λ o. option_or o (first_name names id)) none ∙ first

  params-known-as : (rest : List Param) → AllByRecursion (Passes program.known op.method []) rest → AllByRecursion (λ (param : Param). first_name names param.id ≡ Some (knowns.Param op.method)) rest
      → AllByRecursion (λ (param : Param). get after param.id ≡ Some (knowns.Param op.method)) rest
  params-known-as [] pass first = tt {0}
  params-known-as (param ∷ rest) pass first = (param-known param.id pass.0.is first.0, params-known-as rest pass.1 first.1)

  params-belong : (rest : List Param) → AllByRecursion (λ (name : Name). Belongs after name.0 name.1) (named_params op.method rest)
  params-belong [] = tt {0}
  params-belong (param ∷ rest) = (ap (fills param.id a_method) method-known, params-belong rest)

  -- what is new is a parameter
  new-param : (P : Type 0) (id : Id) (what : Known) → get program.known id ≡ None → get after id ≡ Some what → (what ≡ knowns.Param op.method → P) → P
  new-param P id what none is gives =
      by (list_any (λ (param : Param). same_id id param.id) op.params)
      (sym (get-know_all names program.known id ∙ ap (λ o. option_or o (first_name names id)) none ∙ first-params op.method op.params id) ∙ is)
    where
      by : (b : Bool) → cond b (Some (knowns.Param op.method)) None ≡ Some what → P
      by true e = gives (sym (some-same (knowns.Param op.method) what e))
      by false e = absurd (none-some what e)

  no-slot : (o : Option Known) (id : Id) (slot : Slot) → get after id ≡ o → get program.known id ≡ None → has_slot o slot ≡ true → ⊥
  no-slot None id slot is none has = true≢false (sym has)
  no-slot (Some what) id slot is none has = new-param ⊥ id what none is (λ e. true≢false (sym has ∙ ap (λ k. has_slot (Some k) slot) e))

  no-decl : (of : Id) → knowns.Decl of ≡ knowns.Param op.method → ⊥
  no-decl of e = cc

  pass : AllByRecursion (Passes program.known op.method []) op.params × (differ (map (λ (param : Param). param.id) op.params) ≡ true)
  pass = params-pass tag program.known op.method (lists op.method) (lists-param op.method) (listed-holds tag program.known op.method) [] op.params types.1

  not-redeclared : (id : Id) → is_redeclared (write op.method (values.Params op.params) ∷ []) id ≡ false
  not-redeclared id = (λ i.
      is_some (cond (other-slot id op.method slots.Words slots.Params words-params i) (Some (values.Params op.params)) None)
      || is_some (cond (other-slot id op.method slots.Body slots.Params body-params i) (Some (values.Params op.params)) None))

  keeps-params : Keeps program (write op.method (values.Params op.params) ∷ []) names
  keeps-params = record {
    each = (
      record {
        slot = ap (λ o. has_slot o slots.Params) method-known;
        form = λ what is. subst (λ k. IsTrue (has_form k slots.Params (values.Params op.params))) (some-same (knowns.Method result.kind) what (sym method-known ∙ is))
            (params-formed op.params (and-left (may_be_params op.params) (is_result op.result) op.formed) pass.1);
        refers = params-right program.known after (within-know_all program.known names) op.method [] op.params pass.0 (params-known-as op.params pass.0 (each-first op.method op.params));
        agrees = tt {0};
      },
      tt {0},
    );
    whole = λ id slot none has. absurd (no-slot (get after id) id slot refl none has);
    belongs = params-belong op.params;
    single = λ method first second kind is many none first-is second-is. absurd (new-param ⊥ first (knowns.Decl method) none first-is (no-decl method));
    declarations = λ id method kind is of redeclared. absurd (true≢false (sym redeclared ∙ not-redeclared id));
  }

  pub params-there : IsSome (value_at program op.method slots.Params)
  params-there = rules.whole op.method slots.Params ∙ ap (λ o. has_slot o slots.Params) result.is

  pub params-written : with_value program (cell op.method slots.Params) (values.Params op.params) ≡ written program (write op.method (values.Params op.params) ∷ []) names
  params-written = λ i. record { cells = (written program (write op.method (values.Params op.params) ∷ []) names).cells; known = params-known op.params program.known op.method i }

  pub params-rules : IsProgram (with_value program (cell op.method slots.Params) (values.Params op.params))
  params-rules = subst IsProgram (sym params-written) (rules-written program rules (write op.method (values.Params op.params) ∷ []) names keeps-params)

  pub result-may : MaySet (written program (write op.method (values.Params op.params) ∷ []) names) op.method (values.Result op.result)
  result-may = record {
    plain = refl;
    what = knowns.Method result.kind;
    known = method-known;
    slot = refl;
    formed = result.formed;
    refers = still-right program.known after (within-know_all program.known names) op.method (type_mentions op.result) types.0;
    allowed = tt {0};
  }

  apart : AreApart program.known (write op.method (values.Params op.params) ∷ []) names (write op.method (values.Result op.result) ∷ []) []
  apart = record {
    cells = λ at. by at (eq_by_cmp cell_cmp at (cell op.method slots.Params)) refl;
    new = λ id none. inr refl;
  } where
    by : (at : Cell) (b : Bool) → eq_by_cmp cell_cmp at (cell op.method slots.Params) ≡ b
        → (last_write (write op.method (values.Params op.params) ∷ []) at ≡ None) ⊎ (last_write (write op.method (values.Result op.result) ∷ []) at ≡ None)
    by at true e = inr (ap (λ q. last_write (write op.method (values.Result op.result) ∷ []) q) (cell_is at (cell op.method slots.Params) e)
        ∙ ap (λ b. cond b (Some (values.Result op.result)) None) (other-slot op.method op.method slots.Params slots.Result params-result))
    by at false e = inl (ap (λ b. cond b (Some (values.Params op.params)) None) e)

  -- the parameters and then the result are what the operation writes
  pub signature-written : written (written program (write op.method (values.Params op.params) ∷ []) names) (write op.method (values.Result op.result) ∷ []) []
      ≡ written program (change_signature_writes op) (tests_names (change_signature_tests op))
  signature-written =
      either-order program (write op.method (values.Params op.params) ∷ []) names (write op.method (values.Result op.result) ∷ []) [] apart
      ∙ ap (written program (change_signature_writes op)) (sym signature-names)
