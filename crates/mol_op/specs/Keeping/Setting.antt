-- The rules hold after one cell gets another value.
use Rattle.std.specs.Prelude.{◌≡◌, Bool, true, false, IsTrue, cond, ◌&&◌, ◌||◌, [], ◌∷◌, Option, None, Some, is_some, IsSome}
use Rattle.std.proofs.Common.{refl, sym, ap, subst, ◌∙◌, true≢false, eq-eqb}
use Rattle.std.specs.FinMap.{get}
use Rattle.std.specs.Option.{option_or}
use Rattle.std.specs.Ordering.{eq_by_cmp}
use Rattle.mol_base.specs.declared.ident.Id.{Id}
use Rattle.mol_table_rules.specs.Forms.{has_form, is_formed}
use Rattle.mol_table_rules.specs.Program.{Program, Knowns, cell, value_at}
use Rattle.mol_table_rules.specs.Rules.{IsProgram, is_declared}
use Rattle.mol_table_rules.specs.Writes.{with_value}
use Rattle.mol_values_types.specs.Order.{cell_cmp, slot_number}
use Rattle.mol_values_types.specs.Slots.{has_slot, slot_of, same_slot}
use Rattle.mol_values_types.specs.declared.cell.Slot.{Slot}
use Rattle.mol_values_types.specs.declared.cell.Slot.TheVariants as slots
use Rattle.mol_values_types.specs.declared.iblock.IBody.{IBody}
use Rattle.mol_values_types.specs.declared.kind.MethodKind.{MethodKind}
use Rattle.mol_values_types.specs.declared.known.Known.{Known}
use Rattle.mol_values_types.specs.declared.known.Known.TheVariants as knowns
use Rattle.mol_values_types.specs.declared.value.Value.{Value}
use Rattle.mol_values_types.specs.declared.value.Value.TheVariants as values
use Rattle.mol_op.specs.Changes.{written}
use Rattle.mol_op.specs.Keeps.{Keeps, Agrees, is_redeclared, is_plain, IsAllowed, MaySet}
use Rattle.mol_op.specs.Rows.{write}
use Rattle.mol_op.specs.ChangeLaws.{none-some, some-same, cell_is, get-put_all}
use Rattle.mol_op.specs.RulesKept.{rules-written}

-- a value has the form of its slot
pub own-slot : (slot : Slot) → same_slot slot slot ≡ true
own-slot slot = eq-eqb (slot_number slot) (slot_number slot) refl

-- ---- plain values

agrees-plain : (known : Knowns) (id : Id) (value : Value) → is_plain value ≡ true → Agrees known id value
agrees-plain known id (values.Live live) e = tt {0}
agrees-plain known id (values.Package name) e = tt {0}
agrees-plain known id (values.Owner owner) e = tt {0}
agrees-plain known id (values.Method method) e = absurd (true≢false (sym e))
agrees-plain known id (values.Name name) e = tt {0}
agrees-plain known id (values.Super parent) e = tt {0}
agrees-plain known id (values.Result ty) e = tt {0}
agrees-plain known id (values.Params params) e = absurd (true≢false (sym e))
agrees-plain known id (values.Kind kind) e = absurd (true≢false (sym e))
agrees-plain known id (values.Fixed fixed) e = tt {0}
agrees-plain known id (values.Words words) e = absurd (true≢false (sym e))
agrees-plain known id (values.Notes notes) e = tt {0}
agrees-plain known id (values.Body body) e = tt {0}
agrees-plain known id (values.Value ty init) e = tt {0}

not-words : (value : Value) → is_plain value ≡ true → slots.Words ≡ slot_of value → ⊥
not-words (values.Live live) e same = cc
not-words (values.Package name) e same = cc
not-words (values.Owner owner) e same = cc
not-words (values.Method method) e same = cc
not-words (values.Name name) e same = cc
not-words (values.Super parent) e same = cc
not-words (values.Result ty) e same = cc
not-words (values.Params params) e same = cc
not-words (values.Kind kind) e same = cc
not-words (values.Fixed fixed) e same = cc
not-words (values.Words words) e same = true≢false (sym e)
not-words (values.Notes notes) e same = cc
not-words (values.Body body) e same = cc
not-words (values.Value ty init) e same = cc

is-body : (value : Value) → slots.Body ≡ slot_of value → (body : Option IBody) × (value ≡ values.Body body)
is-body (values.Live live) same = absurd cc
is-body (values.Package name) same = absurd cc
is-body (values.Owner owner) same = absurd cc
is-body (values.Method method) same = absurd cc
is-body (values.Name name) same = absurd cc
is-body (values.Super parent) same = absurd cc
is-body (values.Result ty) same = absurd cc
is-body (values.Params params) same = absurd cc
is-body (values.Kind kind) same = absurd cc
is-body (values.Fixed fixed) same = absurd cc
is-body (values.Words words) same = absurd cc
is-body (values.Notes notes) same = absurd cc
is-body (values.Body body) same = (body, refl)
is-body (values.Value ty init) same = absurd cc

-- a plain value makes nothing known
pub with-plain : (program : Program) (id : Id) (value : Value) → is_plain value ≡ true → with_value program (cell id (slot_of value)) value ≡ written program (write id value ∷ []) []
with-plain program id (values.Live live) e = refl
with-plain program id (values.Package name) e = refl
with-plain program id (values.Owner owner) e = refl
with-plain program id (values.Method method) e = absurd (true≢false (sym e))
with-plain program id (values.Name name) e = refl
with-plain program id (values.Super parent) e = refl
with-plain program id (values.Result ty) e = refl
with-plain program id (values.Params params) e = absurd (true≢false (sym e))
with-plain program id (values.Kind kind) e = absurd (true≢false (sym e))
with-plain program id (values.Fixed fixed) e = refl
with-plain program id (values.Words words) e = absurd (true≢false (sym e))
with-plain program id (values.Notes notes) e = refl
with-plain program id (values.Body body) e = refl
with-plain program id (values.Value ty init) e = refl

-- ---- the rules

module _ (program : Program) (rules : IsProgram program) (id : Id) (value : Value) (may : MaySet program id value) where
  pub is-there : IsSome (value_at program id (slot_of value))
  is-there = rules.whole id (slot_of value) ∙ ap (λ o. has_slot o (slot_of value)) may.known ∙ may.slot

  form : (what : Known) → get program.known id ≡ Some what → IsTrue (has_form what (slot_of value) value)
  form what is = ap (λ b. b && is_formed what value) (own-slot (slot_of value)) ∙ ap (λ k. is_formed k value) (some-same what may.what (sym is ∙ may.known)) ∙ may.formed

  words-same : (q : Id) → eq_by_cmp cell_cmp (cell q slots.Words) (cell id (slot_of value)) ≡ false → value_at (written program (write id value ∷ []) []) q slots.Words ≡ value_at program q slots.Words
  words-same q other =
      get-put_all (write id value ∷ []) program.cells (cell q slots.Words) ∙ ap (λ b. option_or (cond b (Some value) None) (value_at program q slots.Words)) other

  body-new : eq_by_cmp cell_cmp (cell id slots.Body) (cell id (slot_of value)) ≡ true → value_at (written program (write id value ∷ []) []) id slots.Body ≡ Some value
  body-new same =
      get-put_all (write id value ∷ []) program.cells (cell id slots.Body) ∙ ap (λ b. option_or (cond b (Some value) None) (value_at program id slots.Body)) same

  allowed-as : (body : Option IBody) → value ≡ values.Body body → IsAllowed program id (values.Body body)
  allowed-as body is = subst (IsAllowed program id) is may.allowed

  declarations : (q method : Id) (kind : MethodKind) → get program.known q ≡ Some (knowns.Decl method) → get program.known method ≡ Some (knowns.Method kind)
      → is_redeclared (write id value ∷ []) q ≡ true
      → IsTrue (is_declared kind (value_at (written program (write id value ∷ []) []) q slots.Words) (value_at (written program (write id value ∷ []) []) q slots.Body))
  declarations q method kind is of redeclared =
      by (eq_by_cmp cell_cmp (cell q slots.Words) (cell id (slot_of value))) refl (eq_by_cmp cell_cmp (cell q slots.Body) (cell id (slot_of value))) refl redeclared
    where
      by : (a : Bool) → eq_by_cmp cell_cmp (cell q slots.Words) (cell id (slot_of value)) ≡ a → (b : Bool) → eq_by_cmp cell_cmp (cell q slots.Body) (cell id (slot_of value)) ≡ b
          → (is_some (cond a (Some value) None) || is_some (cond b (Some value) None)) ≡ true
          → IsTrue (is_declared kind (value_at (written program (write id value ∷ []) []) q slots.Words) (value_at (written program (write id value ∷ []) []) q slots.Body))
      by true words b body e = absurd (not-words value may.plain (ap (λ at. at.slot) (cell_is (cell q slots.Words) (cell id (slot_of value)) words)))
      by false words false body e = absurd (true≢false (sym e))
      by false words true body e =
          let same = cell_is (cell q slots.Body) (cell id (slot_of value)) body in
          let own : q ≡ id = ap (λ at. at.id) same in
          let found = is-body value (ap (λ at. at.slot) same) in
          let new : value_at (written program (write id value ∷ []) []) q slots.Body ≡ Some (values.Body found.0) =
          ap (λ i. value_at (written program (write id value ∷ []) []) i slots.Body) own
          ∙ body-new (sym (ap (λ i. eq_by_cmp cell_cmp (cell i slots.Body) (cell id (slot_of value))) own) ∙ body) ∙ ap (λ v. Some v) found.1 in
          ap (λ v. is_declared kind v (value_at (written program (write id value ∷ []) []) q slots.Body)) (words-same q words)
          ∙ ap (is_declared kind (value_at program q slots.Words)) new
          ∙ ap (λ i. is_declared kind (value_at program i slots.Words) (Some (values.Body found.0))) own
          ∙ allowed-as found.0 found.1 method kind (sym (ap (get program.known) own) ∙ is) of

  keeps-set : Keeps program (write id value ∷ []) []
  keeps-set = record {
    each = (
      record {
        slot = ap (λ o. has_slot o (slot_of value)) may.known ∙ may.slot;
        form = form;
        refers = may.refers;
        agrees = agrees-plain program.known id value may.plain;
      },
      tt {0},
    );
    whole = λ q slot none has. absurd (true≢false (sym has ∙ ap (λ o. has_slot o slot) none));
    belongs = tt {0};
    single = λ method one other kind is many none first second. absurd (none-some _ (sym none ∙ first));
    declarations = declarations;
  }

  -- the rules hold once the cell has the value
  pub rules-set : IsProgram (with_value program (cell id (slot_of value)) value)
  rules-set = subst IsProgram (sym (with-plain program id value may.plain)) (rules-written program rules (write id value ∷ []) [] keeps-set)
