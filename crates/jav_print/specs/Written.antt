-- An expression as it is written in one pass: what decides whether an operand needs parentheses, and its text in two pieces,
-- up to the end of its first part and from there on. The text is that of the tree as printed.
use Rattle.std.specs.Prelude.{ℕ, suc, List, [], ◌∷◌, ◌++◌, map, option_map, codes, Bool, false, not, ◌&&◌, ◌||◌, if◌then◌else◌, nat_lt, Option, Some, None}
use Rattle.mol_base.specs.Operators.{binary_level, is_step, is_sign}
use Rattle.jav_tree.specs.declared.expr.Expr.{Expr, fold-Expr}
use Rattle.jav_tree.specs.declared.expr.ExprNode.{ExprNode, fold-ExprNode}
use Rattle.jav_tree.specs.declared.expr.ExprNode.TheOpen.{ExprNode-F, Expr-F}
use Rattle.jav_tree.specs.Types.{is_primitive}
use Rattle.jav_tree.specs.TypeText.{type_text}
use Rattle.jav_tree.specs.ExpressionText.{gap, in_parens, in_braces, on_text, sizes_text, brackets_text}
use Rattle.jav_tree.specs.WithParens.{begins_with_digit}
use Rattle.jav_print.specs.declared.binding.Binding.{Binding}

pub record Written : Type 0 where
  pub binding : Binding
  pub front : List ℕ
  pub rest : List ℕ

abbrev pub text_of : Written → List ℕ
text_of e = e.front ++ e.rest

-- what binds with this level
abbrev pub binding_of : ℕ → Binding
binding_of level = record { level = level; is_signed = false; is_number = false }

abbrev pub of_level : ℕ → List ℕ → List ℕ → Written
of_level level front rest = record { binding = binding_of level; front = front; rest = rest }

-- what binds as tightly as a name
abbrev pub tight : List ℕ → List ℕ → Written
tight = of_level 15

-- in parentheses where they are needed
abbrev pub parenthesized : Bool → List ℕ → List ℕ
parenthesized needed text = if needed then codes "(" ++ text ++ codes ")" else text

-- where this level or a greater one is needed
abbrev pub from : ℕ → Written → List ℕ
from level e = parenthesized (nat_lt e.binding.level level) (text_of e)

-- before a dot: level 15, and no number literal
abbrev pub before_dot : Written → List ℕ
before_dot e = parenthesized (nat_lt e.binding.level 15 || e.binding.is_number) (text_of e)

-- the operand of a cast: level 13, and, unless the type is primitive, no prefix `+ - ++ --`
abbrev pub cast_operand : Bool → Written → List ℕ
cast_operand primitive e = parenthesized (nat_lt e.binding.level 13 || (not primitive && e.binding.is_signed)) (text_of e)

abbrev pub texts : List Written → List (List ℕ)
texts es = map text_of es

-- the level that the operand of this prefix operator needs
abbrev pub prefix_level : List ℕ → ℕ
prefix_level op = if is_step op then 15 else 13

-- what follows a prefix operator, with this text of its operand
abbrev pub after_prefix : List ℕ → List ℕ → List ℕ
after_prefix op operand = gap op operand ++ operand

-- The level of an operator between two operands, and those that its operands need. What is no such operator is as loose
-- as an assignment and needs tight operands.
abbrev pub own_level : Option ℕ → ℕ
own_level (Some level) = level
own_level None = 1

abbrev pub left_level : Option ℕ → ℕ
left_level (Some level) = level
left_level None = 15

abbrev pub right_level : Option ℕ → ℕ
right_level (Some level) = suc level
right_level None = 15

-- an operator with spaces, and the text of the operand after it
abbrev pub after_operator : List ℕ → List ℕ → List ℕ
after_operator op operand = codes " " ++ op ++ codes " " ++ operand

abbrev pub written_node_step : ExprNode-F Written Written → Written
written_node_step (ExprNode-F.Lit text) = record { binding = record { level = 15; is_signed = false; is_number = begins_with_digit text }; front = text; rest = [] }
written_node_step ExprNode-F.This = tight (codes "this") []
written_node_step (ExprNode-F.Name name) = tight name []
written_node_step (ExprNode-F.Dot e name) = tight (before_dot e) (codes "." ++ name)
written_node_step (ExprNode-F.Call on name args) = tight (on_text (option_map before_dot on)) (name ++ in_parens (texts args))
written_node_step (ExprNode-F.SuperCall name args) = tight (codes "super.") (name ++ in_parens (texts args))
written_node_step (ExprNode-F.New to args) = tight (codes "new " ++ type_text to) (in_parens (texts args))
written_node_step (ExprNode-F.NewArray to sizes open_pairs) = of_level 14 (codes "new " ++ type_text to) (sizes_text (texts sizes) ++ brackets_text open_pairs)
written_node_step (ExprNode-F.ArrayLit to items) = of_level 14 (codes "new " ++ type_text to) (codes " " ++ in_braces (texts items))
written_node_step (ExprNode-F.Braces items) = tight [] (in_braces (texts items))
written_node_step (ExprNode-F.Index e i) = tight (from 15 e) (codes "[" ++ text_of i ++ codes "]")
written_node_step (ExprNode-F.Unary op e) =
    record { binding = record { level = 13; is_signed = is_sign op; is_number = false }; front = op; rest = after_prefix op (from (prefix_level op) e) }
written_node_step (ExprNode-F.Post e op) = of_level 14 (from 15 e) op
written_node_step (ExprNode-F.Binary a op b) =
    of_level (own_level (binary_level op)) (from (left_level (binary_level op)) a) (after_operator op (from (right_level (binary_level op)) b))
written_node_step (ExprNode-F.Assign a op b) = of_level 1 (from 15 a) (after_operator op (text_of b))
written_node_step (ExprNode-F.Cond test a b) = of_level 2 (from 3 test) (after_operator (codes "?") (text_of a) ++ after_operator (codes ":") (from 2 b))
written_node_step (ExprNode-F.Cast to e) = of_level 13 (codes "(" ++ type_text to ++ codes ") ") (cast_operand (is_primitive to) e)
written_node_step (ExprNode-F.InstanceOf e to) = of_level 9 (from 9 e) (codes " instanceof " ++ type_text to)
written_node_step (ExprNode-F.Paren inner) = inner

abbrev pub written_expr_step : Expr-F Written Written → Written
written_expr_step e = e.node

abbrev pub written_node : ExprNode → Written
written_node = fold-ExprNode Written Written written_node_step written_expr_step

abbrev pub written : Expr → Written
written = fold-Expr Written Written written_node_step written_expr_step

-- the first byte of a text, if it has one
abbrev pub first_of : List ℕ → Option ℕ
first_of [] = None
first_of (c ∷ rest) = Some c
