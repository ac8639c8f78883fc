-- Values and programs that break the rules of programs, and such that keep them.
use Rattle.std.specs.Prelude.{◌≡◌, ℕ, Bool, true, false, ◌&&◌, ◌++◌, List, [], ◌∷◌, codes, Option, None, Some, is_some}
use Rattle.std.proofs.Common.{refl, sym, ap, ◌∙◌, arith, true≢false}
use Rattle.std.specs.FinMap.{get}
use Rattle.std.specs.List.{list_all}
use Rattle.mol_base.specs.declared.ident.Id.{Id}
use Rattle.mol_table_rules.specs.Mentions.{Mention, Role, a_called_method, a_class, a_constructor, a_field, a_listed_param, a_method}
use Rattle.mol_table_rules.specs.Mentions.{a_param, a_static_method, argument_step, expr_mentions, expr_step, named, type_mentions, type_step}
use Rattle.mol_table_rules.specs.Program.{Knowns, Program, value_at}
use Rattle.mol_table_rules.specs.Rules.{IsProgram, fills, is_declared, refers_rightly}
use Rattle.mol_values_types.specs.Words.{is_declaration}
use Rattle.mol_values_types.specs.Slots.{has_slot}
use Rattle.mol_values_types.specs.declared.cell.Slot.{Slot}
use Rattle.mol_values_types.specs.declared.cell.Slot.TheVariants as slots
use Rattle.mol_values_types.specs.declared.iblock.IBody.{IBody}
use Rattle.mol_values_types.specs.declared.iexpr.Argument.{Argument}
use Rattle.mol_values_types.specs.declared.iexpr.IExpr.{IExpr}
use Rattle.mol_values_types.specs.declared.iexpr.IExpr.TheFolds.{fold-roll-IExpr, map-IExpr}
use Rattle.mol_values_types.specs.declared.iexpr.IExpr.TheOpen.{IExpr-F}
use Rattle.mol_values_types.specs.declared.iexpr.IExpr.TheVariants as exprs
use Rattle.mol_values_types.specs.declared.iexpr.IExpr.TheViews.{roll-IExpr}
use Rattle.mol_values_types.specs.declared.itype.IType.TheOpen.{IType-F}
use Rattle.mol_values_types.specs.declared.itype.IType.TheVariants as types
use Rattle.mol_values_types.specs.declared.kind.MethodKind.TheVariants.{Instance, Static, Constructor}
use Rattle.mol_values_types.specs.declared.known.Known.{Known}
use Rattle.mol_values_types.specs.declared.known.Known.TheVariants as knowns
use Rattle.mol_values_types.specs.declared.value.Value.{Value}
use Rattle.mol_values_types.specs.declared.value.Value.TheVariants as values
use Rattle.mol_table_rules.proofs.Kept.{argument_mentions}
use Rattle.test_table_rules.proofs.Given.{base, param}
use Rattle.test_table_rules.proofs.TokenForms.{no_name}
use Rattle.test_table_rules.proofs.TypeForms.{folded}

-- ---- the modifiers and the block of a declaration are as the grammar allows for the kind of its method

abstract_method : is_declaration Instance (codes "public" ∷ []) None ≡ true
abstract_method = refl

static_method : (own : IBody) → is_declaration Static (codes "public" ∷ codes "final" ∷ []) (Some own) ≡ true
static_method own = refl

constructor : (own : IBody) → is_declaration Constructor (codes "protected" ∷ []) (Some own) ≡ true
constructor own = refl

final_constructor : (own : IBody) → is_declaration Constructor (codes "final" ∷ []) (Some own) ≡ false
final_constructor own = refl

two_access_words : (own : IBody) → is_declaration Instance (codes "public" ∷ codes "private" ∷ []) (Some own) ≡ false
two_access_words own = refl

-- ---- a reference names what is known, and of the right kind

int-mentions : type_mentions types.Int ≡ []
int-mentions = folded type_step types.Int IType-F.Int types.rolls-Int

class-mentions : (id : Id) → type_mentions (types.Class id) ≡ named a_class id
class-mentions id = folded type_step (types.Class id) (IType-F.Class id) (types.rolls-Class id)

-- what an expression mentions, by what its parts do
mentioned : {e : IExpr} (x : IExpr-F IExpr Argument) → roll-IExpr x ≡ e
    → expr_mentions e ≡ expr_step (map-IExpr _ _ _ _ expr_mentions argument_mentions x)
mentioned x is = ap expr_mentions (sym is) ∙ fold-roll-IExpr (List Mention) (List Mention) expr_step argument_step x

-- the type and the first value of a field
abbrev valued : IExpr → Value
valued e = values.Value types.Int (Some e)

abbrev passes : Knowns → Id → Mention → Bool
passes known owner mention = fills owner mention.role (get known mention.id)

-- a first value that mentions one thing alone
value-refers : (known : Knowns) (owner : Id) (e : IExpr) (role : Role) (id : Id) (what : Option Known)
    → expr_mentions e ≡ named role id → get known id ≡ what → refers_rightly known owner (valued e) ≡ (fills owner role what && true)
value-refers known owner e role id what mentions is =
    (λ i. list_all (passes known owner) (int-mentions i ++ mentions i)) ∙ ap (λ o. fills owner role o && true) is

mentions-New : (id : Id) → expr_mentions (exprs.New id []) ≡ named a_constructor id
mentions-New id = mentioned (IExpr-F.New id []) (exprs.rolls-New id [])

mentions-StaticCall : (id : Id) → expr_mentions (exprs.StaticCall id []) ≡ named a_static_method id
mentions-StaticCall id = mentioned (IExpr-F.StaticCall id []) (exprs.rolls-StaticCall id [])

mentions-Call : (id : Id) → expr_mentions (exprs.Call id []) ≡ named a_called_method id
mentions-Call id = mentioned (IExpr-F.Call id []) (exprs.rolls-Call id [])

mentions-SuperCall : (id : Id) → expr_mentions (exprs.SuperCall id []) ≡ named a_called_method id
mentions-SuperCall id = mentioned (IExpr-F.SuperCall id []) (exprs.rolls-SuperCall id [])

mentions-Own : (id : Id) → expr_mentions (exprs.Own id) ≡ named a_field id
mentions-Own id = mentioned (IExpr-F.Own id) (exprs.rolls-Own id)

mentions-NewDefault : (id : Id) → expr_mentions (exprs.NewDefault id) ≡ named a_class id
mentions-NewDefault id = mentioned (IExpr-F.NewDefault id) (exprs.rolls-NewDefault id)

mentions-Param : (id : Id) → expr_mentions (exprs.Param id) ≡ named a_param id
mentions-Param id = mentioned (IExpr-F.Param id) (exprs.rolls-Param id)

module _ (known : Knowns) (owner id : Id) where
  abbrev refers : IExpr → Type 0
  refers e = refers_rightly known owner (valued e) ≡ true

  abbrev breaks : IExpr → Type 0
  breaks e = refers_rightly known owner (valued e) ≡ false

  creation_by_a_static_method : get known id ≡ Some (knowns.Method Static) → breaks (exprs.New id [])
  creation_by_a_static_method is = value-refers known owner _ a_constructor id _ (mentions-New id) is

  creation_by_a_constructor : get known id ≡ Some (knowns.Method Constructor) → refers (exprs.New id [])
  creation_by_a_constructor is = value-refers known owner _ a_constructor id _ (mentions-New id) is

  static_call_of_an_instance : get known id ≡ Some (knowns.Method Instance) → breaks (exprs.StaticCall id [])
  static_call_of_an_instance is = value-refers known owner _ a_static_method id _ (mentions-StaticCall id) is

  static_call : get known id ≡ Some (knowns.Method Static) → refers (exprs.StaticCall id [])
  static_call is = value-refers known owner _ a_static_method id _ (mentions-StaticCall id) is

  call_of_a_constructor : get known id ≡ Some (knowns.Method Constructor) → breaks (exprs.Call id [])
  call_of_a_constructor is = value-refers known owner _ a_called_method id _ (mentions-Call id) is

  call_of_a_declaration : (method : Id) → get known id ≡ Some (knowns.Decl method) → breaks (exprs.Call id [])
  call_of_a_declaration method is = value-refers known owner _ a_called_method id _ (mentions-Call id) is

  call_of_a_static_method : get known id ≡ Some (knowns.Method Static) → refers (exprs.Call id [])
  call_of_a_static_method is = value-refers known owner _ a_called_method id _ (mentions-Call id) is

  super_call_of_a_constructor : get known id ≡ Some (knowns.Method Constructor) → breaks (exprs.SuperCall id [])
  super_call_of_a_constructor is = value-refers known owner _ a_called_method id _ (mentions-SuperCall id) is

  unknown_field : get known id ≡ None → breaks (exprs.Own id)
  unknown_field is = value-refers known owner _ a_field id _ (mentions-Own id) is

  class_for_a_field : get known id ≡ Some knowns.Class → breaks (exprs.Own id)
  class_for_a_field is = value-refers known owner _ a_field id _ (mentions-Own id) is

  field_of_the_program : get known id ≡ Some knowns.Field → refers (exprs.Own id)
  field_of_the_program is = value-refers known owner _ a_field id _ (mentions-Own id) is

  unknown_class : get known id ≡ None → breaks (exprs.NewDefault id)
  unknown_class is = value-refers known owner _ a_class id _ (mentions-NewDefault id) is

  -- a parameter in an expression is no reference
  unknown_parameter : get known id ≡ None → refers (exprs.Param id)
  unknown_parameter is = value-refers known owner _ a_param id _ (mentions-Param id) is

  -- the class in which a declaration stands, and its method
  owner_that_is_a_field : get known id ≡ Some knowns.Field → refers_rightly known owner (values.Owner id) ≡ false
  owner_that_is_a_field is = ap (λ o. fills owner a_class o && true) is

  owner_that_is_a_class : get known id ≡ Some knowns.Class → refers_rightly known owner (values.Owner id) ≡ true
  owner_that_is_a_class is = ap (λ o. fills owner a_class o && true) is

  method_that_is_a_class : get known id ≡ Some knowns.Class → refers_rightly known owner (values.Method id) ≡ false
  method_that_is_a_class is = ap (λ o. fills owner a_method o && true) is

-- ---- a listed parameter is no entity, and one of this very method

abbrev listed : Id → Value
listed id = values.Params (param id (codes "a") types.Int (codes "0") ∷ [])

entity_as_a_parameter : (known : Knowns) (owner id : Id) → get known id ≡ Some knowns.Field → refers_rightly known owner (listed id) ≡ false
entity_as_a_parameter known owner id is =
    ap (λ o. fills owner a_listed_param o && list_all (passes known owner) (type_mentions types.Int ++ [])) is

parameter_of_another_method : (known : Knowns) → get known (base 3) ≡ Some (knowns.Param (base 2))
    → refers_rightly known (base 1) (listed (base 3)) ≡ false
parameter_of_another_method known is =
    ap (λ o. fills (base 1) a_listed_param o && list_all (passes known (base 1)) (type_mentions types.Int ++ [])) is

-- ---- programs that break a rule

-- the number of the method of a declaration
abbrev number_in : Option Known → ℕ
number_in (Some (knowns.Decl method)) = method.num
number_in known = 0

module _ (program : Program) (rules : IsProgram program) where
  -- what is known has the cells of its kind and no others, and nothing else has one
  class_without_name : get program.known (base 1) ≡ Some knowns.Class → value_at program (base 1) slots.Name ≡ None → ⊥
  class_without_name class none =
      true≢false (sym (sym (ap is_some none) ∙ rules.whole (base 1) slots.Name ∙ ap (λ o. has_slot o slots.Name) class))

  class_with_a_body : (value : Value) → get program.known (base 1) ≡ Some knowns.Class
      → value_at program (base 1) slots.Body ≡ Some value → ⊥
  class_with_a_body value class there =
      true≢false (sym (ap is_some there) ∙ rules.whole (base 1) slots.Body ∙ ap (λ o. has_slot o slots.Body) class)

  cell_of_the_unknown : (slot : Slot) (value : Value) → get program.known (base 1) ≡ None
      → value_at program (base 1) slot ≡ Some value → ⊥
  cell_of_the_unknown slot value unknown there =
      true≢false (sym (ap is_some there) ∙ rules.whole (base 1) slot ∙ ap (λ o. has_slot o slot) unknown)

  -- each value has its slot's form
  nameless_class : get program.known (base 1) ≡ Some knowns.Class → value_at program (base 1) slots.Name ≡ Some (values.Name []) → ⊥
  nameless_class class there = true≢false (sym (rules.forms (base 1) slots.Name knowns.Class (values.Name []) class there) ∙ no_name)

  package_for_a_name : (text : List ℕ) → get program.known (base 1) ≡ Some knowns.Class
      → value_at program (base 1) slots.Name ≡ Some (values.Package text) → ⊥
  package_for_a_name text class there =
      true≢false (sym (rules.forms (base 1) slots.Name knowns.Class (values.Package text) class there))

  -- each reference names a known identity of the right kind
  superclass_that_is_a_field : value_at program (base 1) slots.Super ≡ Some (values.Super (Some (types.Class (base 2))))
      → get program.known (base 2) ≡ Some knowns.Field → ⊥
  superclass_that_is_a_field there field =
      true≢false
      (sym (rules.references (base 1) slots.Super (values.Super (Some (types.Class (base 2)))) there)
      ∙ ap (list_all (passes program.known (base 1))) (class-mentions (base 2))
      ∙ ap (λ o. fills (base 1) a_class o && true) field)

  -- what is known agrees with the cells `kind` and `method`
  kind_of_another : value_at program (base 1) slots.Kind ≡ Some (values.Kind Static)
      → get program.known (base 1) ≡ Some (knowns.Method Instance) → ⊥
  kind_of_another kind known =
      let same : Some (knowns.Method Instance) ≡ Some (knowns.Method Static) = sym known ∙ rules.kinds (base 1) Static kind in cc

  method_of_another : value_at program (base 1) slots.Method ≡ Some (values.Method (base 2))
      → get program.known (base 1) ≡ Some (knowns.Decl (base 3)) → ⊥
  method_of_another method known =
      let same : Some (knowns.Decl (base 3)) ≡ Some (knowns.Decl (base 2)) = sym known ∙ rules.methods (base 1) (base 2) method in
      let numbers : 3 ≡ 2 = ap number_in same in absurd (omega (arith, numbers))

  -- what belongs to a method names one
  declaration_of_a_class : get program.known (base 1) ≡ Some (knowns.Decl (base 2)) → get program.known (base 2) ≡ Some knowns.Class → ⊥
  declaration_of_a_class known class =
      true≢false (sym (rules.decls (base 1) (base 2) known) ∙ ap (fills (base 1) a_method) class)

  parameter_of_a_field : get program.known (base 1) ≡ Some (knowns.Param (base 2)) → get program.known (base 2) ≡ Some knowns.Field → ⊥
  parameter_of_a_field known field =
      true≢false (sym (rules.params (base 1) (base 2) known) ∙ ap (fills (base 1) a_method) field)

  -- a method that is static has one declaration
  two_declarations : get program.known (base 1) ≡ Some (knowns.Method Static) → get program.known (base 2) ≡ Some (knowns.Decl (base 1))
      → get program.known (base 3) ≡ Some (knowns.Decl (base 1)) → ⊥
  two_declarations method first second =
      let same : 2 ≡ 3 = ap (λ (id : Id). id.num) (rules.single (base 1) (base 2) (base 3) Static method refl first second) in
      absurd (omega (arith, same))

  -- it has a block
  static_method_without_block : get program.known (base 1) ≡ Some (knowns.Decl (base 2))
      → get program.known (base 2) ≡ Some (knowns.Method Static)
      → value_at program (base 1) slots.Words ≡ Some (values.Words (record { texts = [] }))
      → value_at program (base 1) slots.Body ≡ Some (values.Body None) → ⊥
  static_method_without_block known method words body =
      true≢false (sym (rules.declarations (base 1) (base 2) Static known method) ∙ (λ i. is_declared Static (words i) (body i)))
