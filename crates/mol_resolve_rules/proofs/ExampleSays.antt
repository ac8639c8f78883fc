-- Words of a program for one text: which of them says what another says, and static types of worked expressions.
use Rattle.std.proofs.Common.{◌≡◌, ℕ, [], ◌∷◌, codes, sym, ap, ◌∙◌}
use Rattle.mol_base.specs.declared.ident.Id.{Id}
use Rattle.mol_table_rules.specs.Program.{Program}
use Rattle.mol_values_types.specs.declared.iexpr.IExpr.{IExpr}
use Rattle.mol_values_types.specs.declared.iexpr.IExpr.TheFolds.{fold-roll-IExpr}
use Rattle.mol_values_types.specs.declared.iexpr.IExpr.TheOpen.{IExpr-F}
use Rattle.mol_values_types.specs.declared.iexpr.IExpr.TheVariants as exprs
use Rattle.mol_values_types.specs.declared.itype.IType.TheFolds.{fold-roll-IType}
use Rattle.mol_values_types.specs.declared.itype.IType.TheOpen.{IType-F}
use Rattle.mol_values_types.specs.declared.itype.IType.TheVariants as types
use Rattle.jav_names.specs.DottedNames.{Name}
use Rattle.jav_names.specs.OnValues.{StaticType, primitive_value, outside_value, class_value, array_value}
use Rattle.jav_names.specs.StaticTypes.{outside_field}
use Rattle.jav_names.specs.Views.{ViewType, primitive_type, array_type}
use Rattle.mol_resolve_rules.specs.Says.{OutsideText, in_full, of_import, with_field, type_text, type_text_step, expr_text, expr_text_step, argument_text_step, SaysType, text_of_type, Says, one_field, as_own, as_static, on_this, text_of_expr}
use Rattle.mol_resolve_rules.specs.StaticTypes as static
use Rattle.mol_resolve_rules.specs.StaticTypes.{static_type_of}

abbrev base : ℕ → Id
base number = record { tag = []; num = number }

-- ---- one field of `this`

own_or_this : (field : Id) → Says (exprs.Own field) (exprs.Field field exprs.This)
own_or_this field = one_field as_own on_this

static_or_own : (field : Id) → Says (exprs.StaticField field) (exprs.Own field)
static_or_own field = one_field as_static as_own

-- ---- one text outside

text-OutsideName : (name : Name) → expr_text (exprs.OutsideName name) ≡ in_full name
text-OutsideName name = ap expr_text (sym (exprs.rolls-OutsideName name))
    ∙ fold-roll-IExpr OutsideText OutsideText expr_text_step argument_text_step (IExpr-F.OutsideName name)

text-OutsideClass : (full : Name) → expr_text (exprs.OutsideClass full) ≡ of_import full []
text-OutsideClass full = ap expr_text (sym (exprs.rolls-OutsideClass full))
    ∙ fold-roll-IExpr OutsideText OutsideText expr_text_step argument_text_step (IExpr-F.OutsideClass full)

text-OutsideField : (name : Name) (e : IExpr) → expr_text (exprs.OutsideField name e) ≡ with_field name (expr_text e)
text-OutsideField name e = ap expr_text (sym (exprs.rolls-OutsideField name e))
    ∙ fold-roll-IExpr OutsideText OutsideText expr_text_step argument_text_step (IExpr-F.OutsideField name e)

-- `util.Date` in full reads as a field of the name `util`, and says what the class of that full name says
abbrev util_date : IExpr
util_date = exprs.OutsideField (codes "Date") (exprs.OutsideName (codes "util"))

text_of_chain : expr_text util_date ≡ in_full (codes "util.Date")
text_of_chain = text-OutsideField (codes "Date") (exprs.OutsideName (codes "util"))
    ∙ ap (with_field (codes "Date")) (text-OutsideName (codes "util"))

chain_or_class : Says util_date (exprs.OutsideClass (codes "util.Date"))
chain_or_class = text_of_expr (record {
  text = codes "util.Date";
  first_is = ap (λ (of : OutsideText). of.text) text_of_chain;
  second_is = ap (λ (of : OutsideText). of.text) (text-OutsideClass (codes "util.Date"));
  full = ap (λ (of : OutsideText). of.is_in_full) text_of_chain;
})

-- With an import of one part, `a`, the type `a.b.C` in full reads as what follows that import, and says what an import of `a.b` and `C`
-- says.
text-Imported : (import rest : Name) → type_text (types.Imported import rest) ≡ of_import import rest
text-Imported import rest = ap type_text (sym (types.rolls-Imported import rest))
    ∙ fold-roll-IType OutsideText type_text_step (IType-F.Imported import rest)

one_part_import : SaysType (types.Imported (codes "a") (codes "b.C")) (types.Imported (codes "a.b") (codes "C"))
one_part_import = text_of_type (record {
  text = codes "a.b.C";
  first_is = ap (λ (of : OutsideText). of.text) (text-Imported (codes "a") (codes "b.C"));
  second_is = ap (λ (of : OutsideText). of.text) (text-Imported (codes "a.b") (codes "C"));
  full = ap (λ (of : OutsideText). of.is_in_full) (text-Imported (codes "a") (codes "b.C"));
})

-- ---- static types, in a class `:1` and with one local, of type `int[]`

abbrev int_array : ViewType Id
int_array = array_type (primitive_type (codes "int"))

module _ (program : Program) where
  abbrev static_type : IExpr → StaticType Id
  static_type = static_type_of program (base 1) (int_array ∷ [])

  static-This : static_type exprs.This ≡ class_value (base 1)
  static-This = ap static_type (sym exprs.rolls-This)
      ∙ fold-roll-IExpr _ _ (static.expr_step program (base 1) (int_array ∷ []))
      (static.argument_step program (base 1) (int_array ∷ [])) IExpr-F.This

  static-Local : static_type (exprs.Local 0) ≡ array_value (primitive_type (codes "int"))
  static-Local = ap static_type (sym (exprs.rolls-Local 0))
      ∙ fold-roll-IExpr _ _ (static.expr_step program (base 1) (int_array ∷ [])) (static.argument_step program (base 1) (int_array ∷ []))
      (IExpr-F.Local 0)

  -- an item of the array is an `int`
  item_of_local : (index : IExpr) → static_type (exprs.Index (exprs.Local 0) index) ≡ primitive_value
  item_of_local index = ap static_type (sym (exprs.rolls-Index (exprs.Local 0) index))
      ∙ fold-roll-IExpr _ _ (static.expr_step program (base 1) (int_array ∷ [])) (static.argument_step program (base 1) (int_array ∷ []))
      (IExpr-F.Index (exprs.Local 0) index)
      ∙ ap (λ type. static.expr_step program (base 1) (int_array ∷ []) (IExpr-F.Index type (static_type index))) static-Local

  -- of an array `length` is a number, and another field, which a program alone can name, is outside
  field_of_local : (name : Name) → static_type (exprs.OutsideField name (exprs.Local 0))
      ≡ outside_field (array_value (primitive_type (codes "int"))) name
  field_of_local name = ap static_type (sym (exprs.rolls-OutsideField name (exprs.Local 0)))
      ∙ fold-roll-IExpr _ _ (static.expr_step program (base 1) (int_array ∷ [])) (static.argument_step program (base 1) (int_array ∷ []))
      (IExpr-F.OutsideField name (exprs.Local 0))
      ∙ ap (λ type. static.expr_step program (base 1) (int_array ∷ []) (IExpr-F.OutsideField name type)) static-Local

  length_of_local : static_type (exprs.OutsideField (codes "length") (exprs.Local 0)) ≡ primitive_value
  length_of_local = field_of_local (codes "length")

  size_of_local : static_type (exprs.OutsideField (codes "size") (exprs.Local 0)) ≡ outside_value
  size_of_local = field_of_local (codes "size")

  -- a default constructor makes a value of its class
  new_default : (class : Id) → static_type (exprs.NewDefault class) ≡ class_value class
  new_default class = ap static_type (sym (exprs.rolls-NewDefault class))
      ∙ fold-roll-IExpr _ _ (static.expr_step program (base 1) (int_array ∷ [])) (static.argument_step program (base 1) (int_array ∷ []))
      (IExpr-F.NewDefault class)
