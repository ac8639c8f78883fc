-- What a value is that has the form of a slot, and what its form says then.
use Rattle.std.proofs.Common.{◌≡◌, true, Option, refl, sym, true≢false}
use Rattle.std.specs.Prelude.{◌&&◌}
use Rattle.std.specs.Option.{option_map_or}
use Rattle.std.proofs.lemmas.Bool.{or_left}
use Rattle.mol_table_rules.specs.ExpressionForms.{is_initial}
use Rattle.mol_table_rules.specs.Forms.{is_formed, are_params}
use Rattle.mol_table_rules.specs.StatementForms.{is_body}
use Rattle.mol_table_rules.specs.TypeForms.{is_type, is_void, is_result, is_class}
use Rattle.mol_values_types.specs.Slots.{slot_of, same_slot}
use Rattle.mol_values_types.specs.declared.cell.Slot.TheVariants as slots
use Rattle.mol_values_types.specs.declared.iblock.IBody.{IBody}
use Rattle.mol_values_types.specs.declared.iexpr.IExpr.{IExpr}
use Rattle.mol_values_types.specs.declared.itype.IType.{IType}
use Rattle.mol_values_types.specs.declared.kind.MethodKind.TheVariants.{Instance, Static, Constructor}
use Rattle.mol_values_types.specs.declared.known.Known.{Known}
use Rattle.mol_values_types.specs.declared.known.Known.TheVariants as knowns
use Rattle.mol_values_types.specs.declared.param.Param.{Param}
use Rattle.mol_values_types.specs.declared.value.Value.{Value}
use Rattle.mol_values_types.specs.declared.value.Value.TheVariants as values
use Rattle.mol_values_types.specs.declared.words.Notes.{Notes}
use Rattle.mol_values_types.specs.declared.words.Words.{Words}
use Rattle.std.specs.Prelude.{List}

pub super-is : (value : Value) → same_slot (slot_of value) slots.Super ≡ true → (parent : Option IType) × (value ≡ values.Super parent)
super-is (values.Super x) h = (x, refl)
super-is (values.Live x) h = absurd (true≢false (sym h))
super-is (values.Package x) h = absurd (true≢false (sym h))
super-is (values.Owner x) h = absurd (true≢false (sym h))
super-is (values.Method x) h = absurd (true≢false (sym h))
super-is (values.Name x) h = absurd (true≢false (sym h))
super-is (values.Result x) h = absurd (true≢false (sym h))
super-is (values.Params x) h = absurd (true≢false (sym h))
super-is (values.Kind x) h = absurd (true≢false (sym h))
super-is (values.Fixed x) h = absurd (true≢false (sym h))
super-is (values.Words x) h = absurd (true≢false (sym h))
super-is (values.Notes x) h = absurd (true≢false (sym h))
super-is (values.Body x) h = absurd (true≢false (sym h))
super-is (values.Value type init) h = absurd (true≢false (sym h))

pub result-is : (value : Value) → same_slot (slot_of value) slots.Result ≡ true → (type : IType) × (value ≡ values.Result type)
result-is (values.Result x) h = (x, refl)
result-is (values.Live x) h = absurd (true≢false (sym h))
result-is (values.Package x) h = absurd (true≢false (sym h))
result-is (values.Owner x) h = absurd (true≢false (sym h))
result-is (values.Method x) h = absurd (true≢false (sym h))
result-is (values.Name x) h = absurd (true≢false (sym h))
result-is (values.Super x) h = absurd (true≢false (sym h))
result-is (values.Params x) h = absurd (true≢false (sym h))
result-is (values.Kind x) h = absurd (true≢false (sym h))
result-is (values.Fixed x) h = absurd (true≢false (sym h))
result-is (values.Words x) h = absurd (true≢false (sym h))
result-is (values.Notes x) h = absurd (true≢false (sym h))
result-is (values.Body x) h = absurd (true≢false (sym h))
result-is (values.Value type init) h = absurd (true≢false (sym h))

pub params-is : (value : Value) → same_slot (slot_of value) slots.Params ≡ true → (params : List Param) × (value ≡ values.Params params)
params-is (values.Params x) h = (x, refl)
params-is (values.Live x) h = absurd (true≢false (sym h))
params-is (values.Package x) h = absurd (true≢false (sym h))
params-is (values.Owner x) h = absurd (true≢false (sym h))
params-is (values.Method x) h = absurd (true≢false (sym h))
params-is (values.Name x) h = absurd (true≢false (sym h))
params-is (values.Super x) h = absurd (true≢false (sym h))
params-is (values.Result x) h = absurd (true≢false (sym h))
params-is (values.Kind x) h = absurd (true≢false (sym h))
params-is (values.Fixed x) h = absurd (true≢false (sym h))
params-is (values.Words x) h = absurd (true≢false (sym h))
params-is (values.Notes x) h = absurd (true≢false (sym h))
params-is (values.Body x) h = absurd (true≢false (sym h))
params-is (values.Value type init) h = absurd (true≢false (sym h))

pub words-is : (value : Value) → same_slot (slot_of value) slots.Words ≡ true → (words : Words) × (value ≡ values.Words words)
words-is (values.Words x) h = (x, refl)
words-is (values.Live x) h = absurd (true≢false (sym h))
words-is (values.Package x) h = absurd (true≢false (sym h))
words-is (values.Owner x) h = absurd (true≢false (sym h))
words-is (values.Method x) h = absurd (true≢false (sym h))
words-is (values.Name x) h = absurd (true≢false (sym h))
words-is (values.Super x) h = absurd (true≢false (sym h))
words-is (values.Result x) h = absurd (true≢false (sym h))
words-is (values.Params x) h = absurd (true≢false (sym h))
words-is (values.Kind x) h = absurd (true≢false (sym h))
words-is (values.Fixed x) h = absurd (true≢false (sym h))
words-is (values.Notes x) h = absurd (true≢false (sym h))
words-is (values.Body x) h = absurd (true≢false (sym h))
words-is (values.Value type init) h = absurd (true≢false (sym h))

pub notes-is : (value : Value) → same_slot (slot_of value) slots.Notes ≡ true → (notes : Notes) × (value ≡ values.Notes notes)
notes-is (values.Notes x) h = (x, refl)
notes-is (values.Live x) h = absurd (true≢false (sym h))
notes-is (values.Package x) h = absurd (true≢false (sym h))
notes-is (values.Owner x) h = absurd (true≢false (sym h))
notes-is (values.Method x) h = absurd (true≢false (sym h))
notes-is (values.Name x) h = absurd (true≢false (sym h))
notes-is (values.Super x) h = absurd (true≢false (sym h))
notes-is (values.Result x) h = absurd (true≢false (sym h))
notes-is (values.Params x) h = absurd (true≢false (sym h))
notes-is (values.Kind x) h = absurd (true≢false (sym h))
notes-is (values.Fixed x) h = absurd (true≢false (sym h))
notes-is (values.Words x) h = absurd (true≢false (sym h))
notes-is (values.Body x) h = absurd (true≢false (sym h))
notes-is (values.Value type init) h = absurd (true≢false (sym h))

pub body-is : (value : Value) → same_slot (slot_of value) slots.Body ≡ true → (body : Option IBody) × (value ≡ values.Body body)
body-is (values.Body x) h = (x, refl)
body-is (values.Live x) h = absurd (true≢false (sym h))
body-is (values.Package x) h = absurd (true≢false (sym h))
body-is (values.Owner x) h = absurd (true≢false (sym h))
body-is (values.Method x) h = absurd (true≢false (sym h))
body-is (values.Name x) h = absurd (true≢false (sym h))
body-is (values.Super x) h = absurd (true≢false (sym h))
body-is (values.Result x) h = absurd (true≢false (sym h))
body-is (values.Params x) h = absurd (true≢false (sym h))
body-is (values.Kind x) h = absurd (true≢false (sym h))
body-is (values.Fixed x) h = absurd (true≢false (sym h))
body-is (values.Words x) h = absurd (true≢false (sym h))
body-is (values.Notes x) h = absurd (true≢false (sym h))
body-is (values.Value type init) h = absurd (true≢false (sym h))

pub field-value-is : (value : Value) → same_slot (slot_of value) slots.Value ≡ true
    → (parts : IType × Option IExpr) × (value ≡ values.Value parts.0 parts.1)
field-value-is (values.Value type init) h = ((type, init), refl)
field-value-is (values.Live x) h = absurd (true≢false (sym h))
field-value-is (values.Package x) h = absurd (true≢false (sym h))
field-value-is (values.Owner x) h = absurd (true≢false (sym h))
field-value-is (values.Method x) h = absurd (true≢false (sym h))
field-value-is (values.Name x) h = absurd (true≢false (sym h))
field-value-is (values.Super x) h = absurd (true≢false (sym h))
field-value-is (values.Result x) h = absurd (true≢false (sym h))
field-value-is (values.Params x) h = absurd (true≢false (sym h))
field-value-is (values.Kind x) h = absurd (true≢false (sym h))
field-value-is (values.Fixed x) h = absurd (true≢false (sym h))
field-value-is (values.Words x) h = absurd (true≢false (sym h))
field-value-is (values.Notes x) h = absurd (true≢false (sym h))
field-value-is (values.Body x) h = absurd (true≢false (sym h))

-- ---- forms, whatever is known

pub super-formed : (known : Known) (parent : Option IType) → is_formed known (values.Super parent) ≡ option_map_or is_class parent true
super-formed knowns.Class parent = refl
super-formed (knowns.Method Instance) parent = refl
super-formed (knowns.Method Static) parent = refl
super-formed (knowns.Method Constructor) parent = refl
super-formed (knowns.Decl method) parent = refl
super-formed knowns.Field parent = refl
super-formed (knowns.Param method) parent = refl

pub params-formed : (known : Known) (params : List Param) → is_formed known (values.Params params) ≡ are_params params
params-formed knowns.Class params = refl
params-formed (knowns.Method Instance) params = refl
params-formed (knowns.Method Static) params = refl
params-formed (knowns.Method Constructor) params = refl
params-formed (knowns.Decl method) params = refl
params-formed knowns.Field params = refl
params-formed (knowns.Param method) params = refl

pub body-formed : (known : Known) (body : Option IBody) → is_formed known (values.Body body) ≡ option_map_or is_body body true
body-formed knowns.Class body = refl
body-formed (knowns.Method Instance) body = refl
body-formed (knowns.Method Static) body = refl
body-formed (knowns.Method Constructor) body = refl
body-formed (knowns.Decl method) body = refl
body-formed knowns.Field body = refl
body-formed (knowns.Param method) body = refl

pub field-formed : (known : Known) (type : IType) (init : Option IExpr) → is_formed known (values.Value type init) ≡
    (is_type type && option_map_or is_initial init true)
field-formed knowns.Class type init = refl
field-formed (knowns.Method Instance) type init = refl
field-formed (knowns.Method Static) type init = refl
field-formed (knowns.Method Constructor) type init = refl
field-formed (knowns.Decl method) type init = refl
field-formed knowns.Field type init = refl
field-formed (knowns.Param method) type init = refl

-- a result is `void` or a type, and that of a constructor `void`
pub result-formed : (known : Known) (type : IType) → is_formed known (values.Result type) ≡ true → is_result type ≡ true
result-formed knowns.Class type h = h
result-formed (knowns.Method Instance) type h = h
result-formed (knowns.Method Static) type h = h
result-formed (knowns.Method Constructor) type h = or_left (is_void type) (is_type type) h
result-formed (knowns.Decl method) type h = h
result-formed knowns.Field type h = h
result-formed (knowns.Param method) type h = h
