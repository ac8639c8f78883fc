-- Expressions with their heights, as the rules make them.
use Rattle.std.specs.Prelude.{ℕ, suc, ◌+◌, ◌-◌, ◌/◌, nat_le, take, max, Bool, true, false, if◌then◌else◌, List, [], ◌∷◌, ◌++◌, length, Some, None, map}
use Rattle.mol_base.specs.Token.{Token}
use Rattle.jav_tree.specs.declared.types.TypeName.{TypeName}
use Rattle.jav_tree.specs.declared.types.TypeName.TheVariants as ty
use Rattle.jav_tree.specs.declared.expr.Expr.{Expr}
use Rattle.jav_tree.specs.declared.expr.ExprNode.TheVariants as node
use Rattle.jav_tree.specs.Expressions.{expr_at}
use Rattle.jav_tree.specs.Types.{array_of}
use Rattle.jav_parse_cursor.specs.declared.tall.Shape.{Shape}
use Rattle.jav_parse_cursor.specs.declared.tall.Shape.TheVariants.{Target, Invocation, Atom, Array, Loose}
use Rattle.jav_parse_cursor.specs.declared.tall.Tall.{Tall}
use Rattle.jav_parse_cursor.specs.declared.tall.Listed.{Listed}

abbrev pub is_target : Shape → Bool
is_target Target = true
is_target _ = false

abbrev pub is_invocation : Shape → Bool
is_invocation Invocation = true
is_invocation _ = false

abbrev pub is_array : Shape → Bool
is_array Array = true
is_array _ = false

abbrev pub no_exprs : Listed
no_exprs = record { exprs = []; height = 0 }

abbrev pub with : Listed → Tall → Listed
with all x = record { exprs = all.exprs ++ x.expr ∷ []; height = max all.height x.height }

abbrev pub literal : Token → Tall
literal t = record { expr = expr_at t.start (node.Lit t.text); height = 1; shape = Atom }

abbrev pub this : Token → Tall
this t = record { expr = expr_at t.start node.This; height = 1; shape = Atom }

abbrev pub name : Token → Tall
name t = record { expr = expr_at t.start (node.Name t.text); height = 1; shape = Target }

abbrev pub dotted : Tall → Token → Tall
dotted x t = record { expr = expr_at x.expr.at (node.Dot x.expr t.text); height = x.height + 1; shape = Target }

abbrev pub called_on : Tall → Token → Listed → Tall
called_on x t args = record { expr = expr_at x.expr.at (node.Call (Some x.expr) t.text args.exprs); height = max x.height args.height + 1; shape = Invocation }

abbrev pub called : Token → Listed → Tall
called t args = record { expr = expr_at t.start (node.Call None t.text args.exprs); height = args.height + 1; shape = Invocation }

abbrev pub super_called : ℕ → Token → Listed → Tall
super_called at t args = record { expr = expr_at at (node.SuperCall t.text args.exprs); height = args.height + 1; shape = Invocation }

abbrev pub created : ℕ → TypeName → Listed → Tall
created at to args = record { expr = expr_at at (node.New to args.exprs); height = args.height + 1; shape = Invocation }

abbrev pub sized : ℕ → TypeName → Listed → ℕ → Tall
sized at base sizes n = record { expr = expr_at at (node.NewArray base sizes.exprs n); height = sizes.height + 1; shape = Array }

abbrev pub filled : ℕ → TypeName → Listed → Tall
filled at to items = record { expr = expr_at at (node.ArrayLit to items.exprs); height = items.height + 1; shape = Array }

abbrev pub braced : ℕ → Listed → Tall
braced at items = record { expr = expr_at at (node.Braces items.exprs); height = items.height + 1; shape = Loose }

abbrev pub indexed : Tall → Tall → Tall
indexed x i = record { expr = expr_at x.expr.at (node.Index x.expr i.expr); height = max x.height i.height + 1; shape = Target }

abbrev pub in_parens : ℕ → Tall → Tall
in_parens at x = record { expr = expr_at at (node.Paren x.expr); height = x.height + 1; shape = Atom }

abbrev pub unary : Token → Tall → Tall
unary op x = record { expr = expr_at op.start (node.Unary op.text x.expr); height = x.height + 1; shape = Loose }

abbrev pub stepped : Tall → Token → Tall
stepped x op = record { expr = expr_at x.expr.at (node.Post x.expr op.text); height = x.height + 1; shape = Loose }

abbrev pub cast : ℕ → TypeName → Tall → Tall
cast at to x = record { expr = expr_at at (node.Cast to x.expr); height = x.height + 1; shape = Loose }

abbrev pub tested : Tall → TypeName → Tall
tested x to = record { expr = expr_at x.expr.at (node.InstanceOf x.expr to); height = x.height + 1; shape = Loose }

abbrev pub joined : Tall → Token → Tall → Tall
joined x op y = record { expr = expr_at x.expr.at (node.Binary x.expr op.text y.expr); height = max x.height y.height + 1; shape = Loose }

abbrev pub assigned : Tall → Token → Tall → Tall
assigned x op y = record { expr = expr_at x.expr.at (node.Assign x.expr op.text y.expr); height = max x.height y.height + 1; shape = Loose }

abbrev pub chosen : Tall → Tall → Tall → Tall
chosen test x y = record { expr = expr_at test.expr.at (node.Cond test.expr x.expr y.expr); height = max test.height (max x.height y.height) + 1; shape = Loose }

-- whether these names are one alone
abbrev pub is_one : List Token → Bool
is_one [] = false
is_one (t ∷ []) = true
is_one (t ∷ u ∷ rest) = false

abbrev pub first_text : List Token → List ℕ
first_text [] = []
first_text (t ∷ rest) = t.text

-- how many names some names with dots are
abbrev pub count_of : List Token → ℕ
count_of [] = 0
count_of (t ∷ rest) = length rest / 2 + 1

-- the field that goes on from x by a dot and a name, and so on
unfoldable pub dotted_by : Tall → List Token → Tall
dotted_by x [] = x
dotted_by x (dot ∷ []) = x
dotted_by x (dot ∷ t ∷ rest) = dotted_by (dotted x t) rest

-- the variable or field of these names; the first name with their height where none is built
unfoldable pub named : Bool → List Token → Tall
named builds [] = record { expr = expr_at 0 node.This; height = 0; shape = Target }
named builds (t ∷ rest) = if builds then dotted_by (name t) rest else record (name t) { height = length rest / 2 + 1 }

abbrev pub last_of : Token → List Token → Token
last_of first [] = first
last_of first (t ∷ rest) = last_of t rest

-- a call of the method of these names, on those before the last dot
unfoldable pub named_call : Bool → List Token → Listed → Tall
named_call builds [] args = named builds []
named_call builds (t ∷ rest) args =
    if nat_le 2 (length rest) then called_on (named builds (t ∷ take (length rest - 2) rest)) (last_of t rest) args else called t args

-- the text of names with dots
unfoldable pub text_of : List Token → List ℕ
text_of [] = []
text_of (t ∷ ts) = t.text ++ text_of ts

-- the array type with n pairs of brackets after this type; the type alone where none is built
unfoldable pub array_type : Bool → ℕ → TypeName → TypeName
array_type builds n base = if builds then array_of n base else base
