-- Which types and expressions are printable: those that the grammar has but for parentheses. Parentheses in a tree are
-- not looked at, since the layout drops them and puts its own.
use Rattle.std.specs.Prelude.{ℕ, List, [], ◌∷◌, Bool, true, false, ◌&&◌, ◌||◌, Option, Some, None, is_some}
use Rattle.std.specs.List.{list_all}
use Rattle.mol_base.specs.Operators.{is_step, is_prefix, is_assignment}
use Rattle.jav_tree.specs.declared.types.TypeName.{TypeName, fold-TypeName}
use Rattle.jav_tree.specs.declared.types.TypeName.TheOpen.{TypeName-F}
use Rattle.jav_tree.specs.declared.expr.Expr.{Expr, fold-Expr}
use Rattle.jav_tree.specs.declared.expr.ExprNode.{ExprNode, fold-ExprNode}
use Rattle.jav_tree.specs.declared.expr.ExprNode.TheOpen.{ExprNode-F, Expr-F}
use Rattle.jav_tree.specs.Operators.{among, binary_level}
use Rattle.jav_tree.specs.TokenTexts.{is_name, is_literal, is_dotted_name}

-- What a type may be: a type without brackets, a class, an array, any type, or the result of a method.
pub record TypeUses : Type 0 where
  pub is_base : Bool
  pub is_class : Bool
  pub is_array : Bool
  pub is_type : Bool
  pub is_result : Bool

-- A primitive type is one of the six keywords (JLS 4.2 without `float` and `double`), a class is a name with dots, an array
-- has items of any type, and `void` is a result alone (JLS 8.4.5).
abbrev pub type_uses_step : TypeName-F TypeUses → TypeUses
type_uses_step (TypeName-F.Prim name) =
    let primitive = among ("boolean" ∷ "byte" ∷ "short" ∷ "char" ∷ "int" ∷ "long" ∷ []) name in
    record { is_base = primitive; is_class = false; is_array = false; is_type = primitive; is_result = primitive }
type_uses_step (TypeName-F.Named name) =
    let named = is_dotted_name name in
    record { is_base = named; is_class = named; is_array = false; is_type = named; is_result = named }
type_uses_step (TypeName-F.ArrayOf item) =
    record { is_base = false; is_class = false; is_array = item.is_type; is_type = item.is_type; is_result = item.is_type }
type_uses_step TypeName-F.Void =
    record { is_base = false; is_class = false; is_array = false; is_type = false; is_result = true }

abbrev pub type_uses : TypeName → TypeUses
type_uses = fold-TypeName TypeUses type_uses_step

-- What an expression may be: where any expression stands (`is_value`), the first value of a variable or an item between
-- braces (`is_first_value`), the left side of an assignment and what `++` and `--` change (`is_target`), and a
-- statement or a part of the header of a `for` (`is_statement`).
pub record ExprUses : Type 0 where
  pub is_value : Bool
  pub is_first_value : Bool
  pub is_target : Bool
  pub is_statement : Bool

-- neither a target nor a statement
abbrev pub value_where : Bool → ExprUses
value_where holds = record { is_value = holds; is_first_value = holds; is_target = false; is_statement = false }

-- Names, field accesses and array accesses are targets (JLS 15.14.2, 15.15.1, 15.26).
abbrev pub target_where : Bool → ExprUses
target_where holds = record { is_value = holds; is_first_value = holds; is_target = holds; is_statement = false }

-- Assignments, `++` and `--`, calls and creations of objects are statements (JLS 14.8).
abbrev pub effect_where : Bool → ExprUses
effect_where holds = record { is_value = holds; is_first_value = holds; is_target = false; is_statement = holds }

abbrev pub are_values : List ExprUses → Bool
are_values es = list_all (λ e. e.is_value) es

abbrev pub is_value_if_any : Option ExprUses → Bool
is_value_if_any None = true
is_value_if_any (Some e) = e.is_value

abbrev pub is_not_empty : {A : Type 0} → List A → Bool
is_not_empty [] = false
is_not_empty (x ∷ xs) = true

-- `++` and `--` change a target; the other prefix operators stand before any operand (JLS 15.15).
abbrev pub prefixed : List ℕ → ExprUses → ExprUses
prefixed op e = record {
  is_value = e.is_value && (is_prefix op || (is_step op && e.is_target));
  is_first_value = e.is_value && (is_prefix op || (is_step op && e.is_target));
  is_target = false;
  is_statement = is_step op && e.is_target && e.is_value;
}

abbrev pub expr_node_uses_step : ExprNode-F ExprUses ExprUses → ExprUses
-- literals, names, and `e.name`
expr_node_uses_step (ExprNode-F.Lit text) = value_where (is_literal text)
expr_node_uses_step ExprNode-F.This = value_where true
expr_node_uses_step (ExprNode-F.Name name) = target_where (is_name name)
expr_node_uses_step (ExprNode-F.Dot e name) = target_where (e.is_value && is_name name)
-- calls, and creations of objects, whose type is a class
expr_node_uses_step (ExprNode-F.Call on name args) = effect_where (is_value_if_any on && is_name name && are_values args)
expr_node_uses_step (ExprNode-F.SuperCall name args) = effect_where (is_name name && are_values args)
expr_node_uses_step (ExprNode-F.New to args) = effect_where ((type_uses to).is_class && are_values args)
-- Creations of arrays: with sizes, at least one, and a type without brackets; or with items and the whole array type.
expr_node_uses_step (ExprNode-F.NewArray to sizes open_pairs) = value_where ((type_uses to).is_base && is_not_empty sizes && are_values sizes)
expr_node_uses_step (ExprNode-F.ArrayLit to items) = value_where ((type_uses to).is_array && list_all (λ e. e.is_first_value) items)
-- Items in braces stand only where a first value does (JLS 10.6).
expr_node_uses_step (ExprNode-F.Braces items) =
    record { is_value = false; is_first_value = list_all (λ e. e.is_first_value) items; is_target = false; is_statement = false }
expr_node_uses_step (ExprNode-F.Index e i) = target_where (e.is_value && i.is_value)
-- operators, each one of its list
expr_node_uses_step (ExprNode-F.Unary op e) = prefixed op e
expr_node_uses_step (ExprNode-F.Post e op) = effect_where (is_step op && e.is_target && e.is_value)
expr_node_uses_step (ExprNode-F.Binary a op b) = value_where (is_some (binary_level op) && a.is_value && b.is_value)
expr_node_uses_step (ExprNode-F.Assign a op b) =
    effect_where (is_assignment op && a.is_target && a.is_value && b.is_value)
expr_node_uses_step (ExprNode-F.Cond test a b) = value_where (test.is_value && a.is_value && b.is_value)
-- casts and `instanceof`, with any type
expr_node_uses_step (ExprNode-F.Cast to e) = value_where ((type_uses to).is_type && e.is_value)
expr_node_uses_step (ExprNode-F.InstanceOf e to) = value_where (e.is_value && (type_uses to).is_type)
expr_node_uses_step (ExprNode-F.Paren inner) = inner

abbrev pub expr_uses_step : Expr-F ExprUses ExprUses → ExprUses
expr_uses_step e = e.node

abbrev pub expr_node_uses : ExprNode → ExprUses
expr_node_uses = fold-ExprNode ExprUses ExprUses expr_node_uses_step expr_uses_step

abbrev pub expr_uses : Expr → ExprUses
expr_uses = fold-Expr ExprUses ExprUses expr_node_uses_step expr_uses_step
