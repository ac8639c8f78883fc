-- Members of a class by the kind of what they declare (JLS 8.3, 8.4, 8.8).
use Rattle.std.specs.Prelude.{Bool, true, false, List, Option, option_map}
use Rattle.jav_tree.specs.declared.expr.Expr.{Expr}
use Rattle.jav_tree.specs.declared.stmt.Block.{Block}
use Rattle.jav_tree.specs.declared.types.TypeName.{TypeName}
use Rattle.jav_tree.specs.declared.unit.Ctor.{Ctor}
use Rattle.jav_tree.specs.declared.unit.Field.{Field}
use Rattle.jav_tree.specs.declared.unit.Member.{Member}
use Rattle.jav_tree.specs.declared.unit.Method.{Method}
use Rattle.jav_tree.specs.declared.unit.Param.{Param as ParamName}
use Rattle.jav_names.specs.DottedNames.{Name}
use Rattle.mol_base.specs.declared.ident.Id.{Id}
use Rattle.mol_resolve_rules.specs.Locals.{no_locals}
use Rattle.mol_spell_rules.specs.SpelledExpressions.{spelled_expr}
use Rattle.mol_spell_rules.specs.SpelledStatements.{declared_type}
use Rattle.mol_spell_rules.specs.SpelledUnits.{constructor_member, method_member, params_of, result_tree}
use Rattle.mol_spell_rules.specs.Writers.{Writer}
use Rattle.mol_table_rules.specs.Program.{Program, name_at, value_at}
use Rattle.mol_spell.specs.units.Headings.{member_head}
use Rattle.mol_spell.specs.declared.units.fields.FieldValue.{FieldValue}
use Rattle.mol_spell.specs.declared.units.heads.MemberHead.{MemberHead}
use Rattle.mol_spell.specs.declared.units.methods.Signature.{Signature}
use Rattle.mol_values_types.specs.declared.cell.Slot.TheVariants as slots
use Rattle.mol_values_types.specs.declared.iexpr.IExpr.{IExpr}
use Rattle.mol_values_types.specs.declared.itype.IType.{IType}
use Rattle.mol_values_types.specs.declared.kind.MethodKind.{MethodKind}
use Rattle.mol_values_types.specs.declared.kind.MethodKind.TheVariants.{Instance, Static, Constructor}
use Rattle.mol_values_types.specs.declared.param.Param.{Param}

-- where no locals are
abbrev pub type_tree : Writer → IType → TypeName
type_tree writer type = (declared_type writer no_locals type).tree

abbrev pub value_tree : Writer → IExpr → Expr
value_tree writer e = (spelled_expr writer no_locals e).tree

abbrev pub param_tree : Writer → Param → ParamName
param_tree writer param = record { ty = type_tree writer param.ty; name = param.name }

-- ---- fields

abbrev pub field_value : Writer → IType → Option IExpr → FieldValue
field_value writer type init = record { ty = type_tree writer type; init = option_map (value_tree writer) init }

abbrev pub field_of : MemberHead → Name → FieldValue → Field
field_of head name value = record {
  front = head.front;
  at = 0;
  words = head.words;
  ty = value.ty;
  name = name;
  init = value.init;
}

abbrev pub field_tree : Program → Id → FieldValue → Field
field_tree program id value = field_of (member_head program id) (name_at program id) value

-- ---- declarations

abbrev pub signature : Program → Id → Id → Signature
signature program class method = record {
  result = result_tree program class method (value_at program method slots.Result);
  name = name_at program method;
  params = params_of program class method;
}

abbrev pub method_of : MemberHead → Bool → Signature → Option Block → Method
method_of head is_static signature block = record {
  front = head.front;
  at = 0;
  words = head.words;
  is_static = is_static;
  result = signature.result;
  name = signature.name;
  params = signature.params;
  block = block;
}

abbrev pub constructor_of : MemberHead → List ParamName → Block → Ctor
constructor_of head params block = record { front = head.front; at = 0; words = head.words; params = params; block = block }

-- a declaration of a method of such a kind
abbrev pub member_of_kind : Program → Id → Id → Id → MethodKind → Member
member_of_kind program class declaration method Instance = method_member program class false declaration method
member_of_kind program class declaration method Static = method_member program class true declaration method
member_of_kind program class declaration method Constructor = constructor_member program class declaration method
