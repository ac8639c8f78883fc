-- What is written of an expression is the text of the tree as printed, and it binds as that does.
use Rattle.std.proofs.Common.{◌≡◌, ℕ, suc, List, [], ◌∷◌, ◌++◌, map, option_map, codes, Option, Some, None, Bool, true, false, nat_lt, ◌||◌, ◌&&◌, not, refl, sym, ap, ◌∙◌, subst, append_assoc, append-nil}
use Rattle.mol_base.specs.Operators.{binary_level, is_sign}
use Rattle.jav_tree.specs.declared.types.TypeName.{TypeName}
use Rattle.jav_tree.specs.declared.expr.Expr.{Expr}
use Rattle.jav_tree.specs.declared.expr.ExprNode.{ExprNode}
use Rattle.jav_tree.specs.declared.expr.ExprNode.TheVariants as node
use Rattle.jav_tree.specs.declared.expr.ExprNode.TheOpen.{ExprNode-F, Expr-F}
use Rattle.jav_tree.specs.declared.expr.ExprNode.TheFolds.{ind-Expr, map-ExprNode, map-Expr}
use Rattle.jav_tree.specs.declared.expr.ExprNode.TheViews.{roll-ExprNode, roll-Expr}
use Rattle.jav_tree.specs.Expressions.{expr_at}
use Rattle.jav_tree.specs.Types.{is_primitive}
use Rattle.jav_tree.specs.TypeText.{type_text}
use Rattle.jav_tree.specs.ExpressionText.{tree_text, node_tree_text, text_node_step, gap, spaced, in_parens, in_braces, on_text, sizes_text, brackets_text, expr_text}
use Rattle.jav_tree.specs.WithParens as printed
use Rattle.jav_tree.specs.WithParens.{Operand, operand, operand_of_node, operand_node_step, operand_expr_step, trees}
use Rattle.jav_tree.proofs.ExpressionFolds.{ExprFold, fold-placed, fold-Lit, fold-This, fold-Name, fold-Dot, fold-Call, fold-SuperCall, fold-New, fold-NewArray, fold-ArrayLit, fold-Braces, fold-Index, fold-Unary, fold-Post, fold-Binary, fold-Assign, fold-Cond, fold-Cast, fold-InstanceOf, fold-Paren}
use Rattle.jav_tree.proofs.ExpressionTexts.{text-placed, text-Lit, text-This, text-Name, text-Dot, text-Call, text-SuperCall, text-New, text-NewArray, text-ArrayLit, text-Braces, text-Index, text-Unary, text-Post, text-Binary, text-Assign, text-Cond, text-Cast, text-InstanceOf, text-Paren}
use Rattle.jav_print.specs.declared.binding.Binding.{Binding}
use Rattle.jav_print.specs.Written.{Written, written, written_node, written_node_step, written_expr_step, text_of, binding_of, parenthesized, from, before_dot, cast_operand, texts, prefix_level, after_prefix, own_level, left_level, right_level, after_operator}

-- the fold that writes
abbrev Writes : ExprFold
Writes = record { Node = Written; Whole = Written; of_node = written_node_step; of_expr = written_expr_step }

-- the fold that makes operands
abbrev Printing : ExprFold
Printing = record { Node = ℕ → Operand; Whole = Operand; of_node = operand_node_step; of_expr = operand_expr_step }

abbrev binding_in : Operand → Binding
binding_in o = record { level = o.level; is_signed = o.is_signed; is_number = o.is_number }

-- what is written of an operand, and how it binds
record Writes_as (w : Written) (o : Operand) : Type 0 where
  binding : w.binding ≡ binding_in o
  text : text_of w ≡ tree_text o.tree

abbrev IsSeen : Expr → Type 0
IsSeen e = Writes_as (written e) (operand e)

abbrev IsSeenNode : ExprNode → Type 0
IsSeenNode n = (at : ℕ) → Writes_as (written_node n) (operand_of_node n at)

abbrev With : Type 0
With = (e : Expr) × IsSeen e

-- # Pieces in other groups

regroup_operator : (x op y : List ℕ) → x ++ after_operator op y ≡ spaced x op y
regroup_operator x op y = ap (λ t. x ++ t) (append_assoc (codes " " ++ op) (codes " ") y) ∙ sym (append_assoc x (codes " " ++ op) (codes " " ++ y))
    ∙ ap (λ t. t ++ (codes " " ++ y)) (sym (append_assoc x (codes " ") op)) ∙ sym (append_assoc (x ++ codes " " ++ op) (codes " ") y)

regroup_condition : (x y z : List ℕ) → x ++ (after_operator (codes "?") y ++ after_operator (codes ":") z) ≡ spaced x (codes "?") (spaced y (codes ":") z)
regroup_condition x y z = ap (λ t. x ++ t) (append_assoc (codes " ? ") y (after_operator (codes ":") z) ∙ ap (λ t. codes " ? " ++ t) (regroup_operator y (codes ":") z))
    ∙ regroup_operator x (codes "?") (spaced y (codes ":") z)

regroup_instance : (x y : List ℕ) → x ++ (codes " instanceof " ++ y) ≡ spaced x (codes "instanceof") y
regroup_instance x y = regroup_operator x (codes "instanceof") y

regroup_index : (x y : List ℕ) → x ++ (codes "[" ++ y ++ codes "]") ≡ x ++ codes "[" ++ y ++ codes "]"
regroup_index x y = sym (append_assoc x (codes "[" ++ y) (codes "]")) ∙ ap (λ t. t ++ codes "]") (sym (append_assoc x (codes "[") y))

-- # Operands

put : (needed : Bool) (e : Expr) → parenthesized needed (tree_text e) ≡ tree_text (printed.parenthesized needed e)
put false e = refl
put true e = sym (text-placed e.at (node.Paren e) ∙ text-Paren e)

plain : (e : With) → text_of (written e.0) ≡ tree_text (printed.anywhere (operand e.0))
plain e = e.1.text

-- in parentheses where the binding asks for them
put_in : (test : Binding → Bool) (e : With) → parenthesized (test (written e.0).binding) (text_of (written e.0)) ≡ tree_text (printed.parenthesized (test (binding_in (operand e.0))) (operand e.0).tree)
put_in test e = ap (λ b. parenthesized (test b) (text_of (written e.0))) e.1.binding ∙ ap (parenthesized (test (binding_in (operand e.0)))) e.1.text ∙ put (test (binding_in (operand e.0))) (operand e.0).tree

from_level : (level : ℕ) (e : With) → from level (written e.0) ≡ tree_text (printed.from level (operand e.0))
from_level level e = put_in (λ b. nat_lt b.level level) e

dotted : (e : With) → before_dot (written e.0) ≡ tree_text (printed.before_dot (operand e.0))
dotted e = put_in (λ b. nat_lt b.level 15 || b.is_number) e

cast_of : (primitive : Bool) (e : With) → cast_operand primitive (written e.0) ≡ tree_text (printed.cast_operand primitive (operand e.0))
cast_of primitive e = put_in (λ b. nat_lt b.level 13 || (not primitive && b.is_signed)) e

all_plain : (es : List With) → texts (map written (map (λ p. p.0) es)) ≡ map tree_text (trees (map operand (map (λ p. p.0) es)))
all_plain [] = refl
all_plain (e ∷ es) = ap (λ t. t ∷ texts (map written (map (λ p. p.0) es))) (plain e) ∙ ap (λ ts. tree_text (printed.anywhere (operand e.0)) ∷ ts) (all_plain es)

maybe_dotted : (on : Option With) → option_map before_dot (option_map written (option_map (λ p. p.0) on)) ≡ option_map tree_text (option_map printed.before_dot (option_map operand (option_map (λ p. p.0) on)))
maybe_dotted None = refl
maybe_dotted (Some e) = ap Some (dotted e)

-- # Nodes

seen-Lit : (text : List ℕ) → IsSeenNode (node.Lit text)
seen-Lit text = λ at. record {
  binding = ap (λ w. w.binding) (fold-Lit Writes text) ∙ sym (ap (λ k. binding_in (k at)) (fold-Lit Printing text));
  text = ap text_of (fold-Lit Writes text) ∙ append-nil text ∙ sym (text-placed at (node.Lit text) ∙ text-Lit text)
      ∙ sym (ap (λ k. tree_text (k at).tree) (fold-Lit Printing text));
}

seen-This : IsSeenNode node.This
seen-This = λ at. record {
  binding = ap (λ w. w.binding) (fold-This Writes) ∙ sym (ap (λ k. binding_in (k at)) (fold-This Printing));
  text = ap text_of (fold-This Writes) ∙ sym (text-placed at node.This ∙ text-This)
      ∙ sym (ap (λ k. tree_text (k at).tree) (fold-This Printing));
}

seen-Name : (name : List ℕ) → IsSeenNode (node.Name name)
seen-Name name = λ at. record {
  binding = ap (λ w. w.binding) (fold-Name Writes name) ∙ sym (ap (λ k. binding_in (k at)) (fold-Name Printing name));
  text = ap text_of (fold-Name Writes name) ∙ append-nil name ∙ sym (text-placed at (node.Name name) ∙ text-Name name)
      ∙ sym (ap (λ k. tree_text (k at).tree) (fold-Name Printing name));
}

seen-Dot : (e : With) (name : List ℕ) → IsSeenNode (node.Dot e.0 name)
seen-Dot e name = λ at. record {
  binding = ap (λ w. w.binding) (fold-Dot Writes e.0 name) ∙ sym (ap (λ k. binding_in (k at)) (fold-Dot Printing e.0 name));
  text = ap text_of (fold-Dot Writes e.0 name) ∙ sym (append_assoc (before_dot (written e.0)) (codes ".") name) ∙ ap (λ t. t ++ codes "." ++ name) (dotted e) ∙ sym (text-placed at (node.Dot (printed.before_dot (operand e.0)) name) ∙ text-Dot (printed.before_dot (operand e.0)) name)
      ∙ sym (ap (λ k. tree_text (k at).tree) (fold-Dot Printing e.0 name));
}

seen-Call : (on : Option With) (name : List ℕ) (args : List With) → IsSeenNode (node.Call (option_map (λ p. p.0) on) name (map (λ p. p.0) args))
seen-Call on name args = λ at. record {
  binding = ap (λ w. w.binding) (fold-Call Writes (option_map (λ p. p.0) on) name (map (λ p. p.0) args)) ∙ sym (ap (λ k. binding_in (k at)) (fold-Call Printing (option_map (λ p. p.0) on) name (map (λ p. p.0) args)));
  text = ap text_of (fold-Call Writes (option_map (λ p. p.0) on) name (map (λ p. p.0) args)) ∙ sym (append_assoc (on_text (option_map before_dot (option_map written (option_map (λ p. p.0) on)))) name (in_parens (texts (map written (map (λ p. p.0) args))))) ∙ ap (λ o. on_text o ++ name ++ in_parens (texts (map written (map (λ p. p.0) args)))) (maybe_dotted on) ∙ ap (λ ts. on_text (option_map tree_text (option_map printed.before_dot (option_map operand (option_map (λ p. p.0) on)))) ++ name ++ in_parens ts) (all_plain args) ∙ sym (text-placed at (node.Call (option_map printed.before_dot (option_map operand (option_map (λ p. p.0) on))) name (trees (map operand (map (λ p. p.0) args)))) ∙ text-Call (option_map printed.before_dot (option_map operand (option_map (λ p. p.0) on))) name (trees (map operand (map (λ p. p.0) args))))
      ∙ sym (ap (λ k. tree_text (k at).tree) (fold-Call Printing (option_map (λ p. p.0) on) name (map (λ p. p.0) args)));
}

seen-SuperCall : (name : List ℕ) (args : List With) → IsSeenNode (node.SuperCall name (map (λ p. p.0) args))
seen-SuperCall name args = λ at. record {
  binding = ap (λ w. w.binding) (fold-SuperCall Writes name (map (λ p. p.0) args)) ∙ sym (ap (λ k. binding_in (k at)) (fold-SuperCall Printing name (map (λ p. p.0) args)));
  text = ap text_of (fold-SuperCall Writes name (map (λ p. p.0) args)) ∙ ap (λ ts. codes "super." ++ name ++ in_parens ts) (all_plain args) ∙ sym (text-placed at (node.SuperCall name (trees (map operand (map (λ p. p.0) args)))) ∙ text-SuperCall name (trees (map operand (map (λ p. p.0) args))))
      ∙ sym (ap (λ k. tree_text (k at).tree) (fold-SuperCall Printing name (map (λ p. p.0) args)));
}

seen-New : (to : TypeName) (args : List With) → IsSeenNode (node.New to (map (λ p. p.0) args))
seen-New to args = λ at. record {
  binding = ap (λ w. w.binding) (fold-New Writes to (map (λ p. p.0) args)) ∙ sym (ap (λ k. binding_in (k at)) (fold-New Printing to (map (λ p. p.0) args)));
  text = ap text_of (fold-New Writes to (map (λ p. p.0) args)) ∙ ap (λ ts. codes "new " ++ type_text to ++ in_parens ts) (all_plain args) ∙ sym (text-placed at (node.New to (trees (map operand (map (λ p. p.0) args)))) ∙ text-New to (trees (map operand (map (λ p. p.0) args))))
      ∙ sym (ap (λ k. tree_text (k at).tree) (fold-New Printing to (map (λ p. p.0) args)));
}

seen-NewArray : (to : TypeName) (sizes : List With) (open_pairs : ℕ) → IsSeenNode (node.NewArray to (map (λ p. p.0) sizes) open_pairs)
seen-NewArray to sizes open_pairs = λ at. record {
  binding = ap (λ w. w.binding) (fold-NewArray Writes to (map (λ p. p.0) sizes) open_pairs) ∙ sym (ap (λ k. binding_in (k at)) (fold-NewArray Printing to (map (λ p. p.0) sizes) open_pairs));
  text = ap text_of (fold-NewArray Writes to (map (λ p. p.0) sizes) open_pairs) ∙ sym (append_assoc (codes "new " ++ type_text to) (sizes_text (texts (map written (map (λ p. p.0) sizes)))) (brackets_text open_pairs)) ∙ ap (λ ts. codes "new " ++ type_text to ++ sizes_text ts ++ brackets_text open_pairs) (all_plain sizes) ∙ sym (text-placed at (node.NewArray to (trees (map operand (map (λ p. p.0) sizes))) open_pairs) ∙ text-NewArray to (trees (map operand (map (λ p. p.0) sizes))) open_pairs)
      ∙ sym (ap (λ k. tree_text (k at).tree) (fold-NewArray Printing to (map (λ p. p.0) sizes) open_pairs));
}

seen-ArrayLit : (to : TypeName) (items : List With) → IsSeenNode (node.ArrayLit to (map (λ p. p.0) items))
seen-ArrayLit to items = λ at. record {
  binding = ap (λ w. w.binding) (fold-ArrayLit Writes to (map (λ p. p.0) items)) ∙ sym (ap (λ k. binding_in (k at)) (fold-ArrayLit Printing to (map (λ p. p.0) items)));
  text = ap text_of (fold-ArrayLit Writes to (map (λ p. p.0) items)) ∙ sym (append_assoc (codes "new " ++ type_text to) (codes " ") (in_braces (texts (map written (map (λ p. p.0) items))))) ∙ ap (λ ts. codes "new " ++ type_text to ++ codes " " ++ in_braces ts) (all_plain items) ∙ sym (text-placed at (node.ArrayLit to (trees (map operand (map (λ p. p.0) items)))) ∙ text-ArrayLit to (trees (map operand (map (λ p. p.0) items))))
      ∙ sym (ap (λ k. tree_text (k at).tree) (fold-ArrayLit Printing to (map (λ p. p.0) items)));
}

seen-Braces : (items : List With) → IsSeenNode (node.Braces (map (λ p. p.0) items))
seen-Braces items = λ at. record {
  binding = ap (λ w. w.binding) (fold-Braces Writes (map (λ p. p.0) items)) ∙ sym (ap (λ k. binding_in (k at)) (fold-Braces Printing (map (λ p. p.0) items)));
  text = ap text_of (fold-Braces Writes (map (λ p. p.0) items)) ∙ ap in_braces (all_plain items) ∙ sym (text-placed at (node.Braces (trees (map operand (map (λ p. p.0) items)))) ∙ text-Braces (trees (map operand (map (λ p. p.0) items))))
      ∙ sym (ap (λ k. tree_text (k at).tree) (fold-Braces Printing (map (λ p. p.0) items)));
}

seen-Index : (e : With) (i : With) → IsSeenNode (node.Index e.0 i.0)
seen-Index e i = λ at. record {
  binding = ap (λ w. w.binding) (fold-Index Writes e.0 i.0) ∙ sym (ap (λ k. binding_in (k at)) (fold-Index Printing e.0 i.0));
  text = ap text_of (fold-Index Writes e.0 i.0) ∙ regroup_index (from 15 (written e.0)) (text_of (written i.0)) ∙ ap (λ t. t ++ codes "[" ++ text_of (written i.0) ++ codes "]") (from_level 15 e) ∙ ap (λ t. tree_text (printed.from 15 (operand e.0)) ++ codes "[" ++ t ++ codes "]") (plain i) ∙ sym (text-placed at (node.Index (printed.from 15 (operand e.0)) (printed.anywhere (operand i.0))) ∙ text-Index (printed.from 15 (operand e.0)) (printed.anywhere (operand i.0)))
      ∙ sym (ap (λ k. tree_text (k at).tree) (fold-Index Printing e.0 i.0));
}

seen-Unary : (op : List ℕ) (e : With) → IsSeenNode (node.Unary op e.0)
seen-Unary op e = λ at. record {
  binding = ap (λ w. w.binding) (fold-Unary Writes op e.0) ∙ sym (ap (λ k. binding_in (k at)) (fold-Unary Printing op e.0));
  text = ap text_of (fold-Unary Writes op e.0) ∙ ap (λ t. op ++ after_prefix op t) (from_level (prefix_level op) e) ∙ sym (append_assoc op (gap op (tree_text (printed.prefix_operand op (operand e.0)))) (tree_text (printed.prefix_operand op (operand e.0)))) ∙ sym (text-placed at (node.Unary op (printed.prefix_operand op (operand e.0))) ∙ text-Unary op (printed.prefix_operand op (operand e.0)))
      ∙ sym (ap (λ k. tree_text (k at).tree) (fold-Unary Printing op e.0));
}

seen-Post : (e : With) (op : List ℕ) → IsSeenNode (node.Post e.0 op)
seen-Post e op = λ at. record {
  binding = ap (λ w. w.binding) (fold-Post Writes e.0 op) ∙ sym (ap (λ k. binding_in (k at)) (fold-Post Printing e.0 op));
  text = ap text_of (fold-Post Writes e.0 op) ∙ ap (λ t. t ++ op) (from_level 15 e) ∙ sym (text-placed at (node.Post (printed.from 15 (operand e.0)) op) ∙ text-Post (printed.from 15 (operand e.0)) op)
      ∙ sym (ap (λ k. tree_text (k at).tree) (fold-Post Printing e.0 op));
}

-- two operands with a text between them
both : {x y u v : List ℕ} (op : List ℕ) → x ≡ u → y ≡ v → x ++ after_operator op y ≡ spaced u op v
both {x} {y} {u} {v} op same_x same_y = regroup_operator x op y ∙ ap (λ t. spaced t op y) same_x ∙ ap (λ t. spaced u op t) same_y

seen-Binary : (a : With) (op : List ℕ) (b : With) → IsSeenNode (node.Binary a.0 op b.0)
seen-Binary a op b = λ at. record {
  binding = ap (λ w. w.binding) (fold-Binary Writes a.0 op b.0) ∙ level_is (binary_level op) at ∙ sym (ap (λ k. binding_in (k at)) (fold-Binary Printing a.0 op b.0));
  text = ap text_of (fold-Binary Writes a.0 op b.0) ∙ text_is (binary_level op) at ∙ sym (ap (λ k. tree_text (k at).tree) (fold-Binary Printing a.0 op b.0));
}
  where
    texts_at : (at left right : ℕ) → from left (written a.0) ++ after_operator op (from right (written b.0)) ≡ tree_text (expr_at at (node.Binary (printed.from left (operand a.0)) op (printed.from right (operand b.0))))
    texts_at at left right = both op (from_level left a) (from_level right b) ∙ sym (text-placed at (node.Binary (printed.from left (operand a.0)) op (printed.from right (operand b.0))) ∙ text-Binary (printed.from left (operand a.0)) op (printed.from right (operand b.0)))

    text_is : (level : Option ℕ) (at : ℕ) → from (left_level level) (written a.0) ++ after_operator op (from (right_level level) (written b.0)) ≡ tree_text (printed.binary level (operand a.0) op (operand b.0) at).tree
    text_is (Some level) at = texts_at at level (suc level)
    text_is None at = texts_at at 15 15

    level_is : (level : Option ℕ) (at : ℕ) → binding_of (own_level level) ≡ binding_in (printed.binary level (operand a.0) op (operand b.0) at)
    level_is (Some level) at = refl
    level_is None at = refl

seen-Assign : (a : With) (op : List ℕ) (b : With) → IsSeenNode (node.Assign a.0 op b.0)
seen-Assign a op b = λ at. record {
  binding = ap (λ w. w.binding) (fold-Assign Writes a.0 op b.0) ∙ sym (ap (λ k. binding_in (k at)) (fold-Assign Printing a.0 op b.0));
  text = ap text_of (fold-Assign Writes a.0 op b.0) ∙ both op (from_level 15 a) (plain b) ∙ sym (text-placed at (node.Assign (printed.from 15 (operand a.0)) op (printed.anywhere (operand b.0))) ∙ text-Assign (printed.from 15 (operand a.0)) op (printed.anywhere (operand b.0)))
      ∙ sym (ap (λ k. tree_text (k at).tree) (fold-Assign Printing a.0 op b.0));
}

seen-Cond : (test : With) (a : With) (b : With) → IsSeenNode (node.Cond test.0 a.0 b.0)
seen-Cond test a b = λ at. record {
  binding = ap (λ w. w.binding) (fold-Cond Writes test.0 a.0 b.0) ∙ sym (ap (λ k. binding_in (k at)) (fold-Cond Printing test.0 a.0 b.0));
  text = ap text_of (fold-Cond Writes test.0 a.0 b.0) ∙ regroup_condition (from 3 (written test.0)) (text_of (written a.0)) (from 2 (written b.0)) ∙ ap (λ t. spaced t (codes "?") (spaced (text_of (written a.0)) (codes ":") (from 2 (written b.0)))) (from_level 3 test) ∙ ap (λ t. spaced (tree_text (printed.from 3 (operand test.0))) (codes "?") (spaced t (codes ":") (from 2 (written b.0)))) (plain a) ∙ ap (λ t. spaced (tree_text (printed.from 3 (operand test.0))) (codes "?") (spaced (tree_text (printed.anywhere (operand a.0))) (codes ":") t)) (from_level 2 b) ∙ sym (text-placed at (node.Cond (printed.from 3 (operand test.0)) (printed.anywhere (operand a.0)) (printed.from 2 (operand b.0))) ∙ text-Cond (printed.from 3 (operand test.0)) (printed.anywhere (operand a.0)) (printed.from 2 (operand b.0)))
      ∙ sym (ap (λ k. tree_text (k at).tree) (fold-Cond Printing test.0 a.0 b.0));
}

seen-Cast : (to : TypeName) (e : With) → IsSeenNode (node.Cast to e.0)
seen-Cast to e = λ at. record {
  binding = ap (λ w. w.binding) (fold-Cast Writes to e.0) ∙ sym (ap (λ k. binding_in (k at)) (fold-Cast Printing to e.0));
  text = ap text_of (fold-Cast Writes to e.0) ∙ ap (λ t. codes "(" ++ type_text to ++ codes ") " ++ t) (cast_of (is_primitive to) e) ∙ sym (text-placed at (node.Cast to (printed.cast_operand (is_primitive to) (operand e.0))) ∙ text-Cast to (printed.cast_operand (is_primitive to) (operand e.0)))
      ∙ sym (ap (λ k. tree_text (k at).tree) (fold-Cast Printing to e.0));
}

seen-InstanceOf : (e : With) (to : TypeName) → IsSeenNode (node.InstanceOf e.0 to)
seen-InstanceOf e to = λ at. record {
  binding = ap (λ w. w.binding) (fold-InstanceOf Writes e.0 to) ∙ sym (ap (λ k. binding_in (k at)) (fold-InstanceOf Printing e.0 to));
  text = ap text_of (fold-InstanceOf Writes e.0 to) ∙ regroup_instance (from 9 (written e.0)) (type_text to) ∙ ap (λ t. spaced t (codes "instanceof") (type_text to)) (from_level 9 e) ∙ sym (text-placed at (node.InstanceOf (printed.from 9 (operand e.0)) to) ∙ text-InstanceOf (printed.from 9 (operand e.0)) to)
      ∙ sym (ap (λ k. tree_text (k at).tree) (fold-InstanceOf Printing e.0 to));
}

seen-Paren : (e : With) → IsSeenNode (node.Paren e.0)
seen-Paren e = λ at. record {
  binding = ap (λ w. w.binding) (fold-Paren Writes e.0) ∙ e.1.binding ∙ sym (ap (λ k. binding_in (k at)) (fold-Paren Printing e.0));
  text = ap text_of (fold-Paren Writes e.0) ∙ e.1.text ∙ sym (ap (λ k. tree_text (k at).tree) (fold-Paren Printing e.0));
}

-- # All expressions

seen_expr : (y : Expr-F ((n : ExprNode) × IsSeenNode n) With) → IsSeen (roll-Expr (map-Expr _ _ _ _ (λ p. p.0) (λ p. p.0) y))
seen_expr y = record {
  binding = ap (λ w. w.binding) (fold-placed Writes y.at y.node.0) ∙ (y.node.1 y.at).binding ∙ sym (ap binding_in (fold-placed Printing y.at y.node.0));
  text = ap text_of (fold-placed Writes y.at y.node.0) ∙ (y.node.1 y.at).text ∙ sym (ap (λ o. tree_text o.tree) (fold-placed Printing y.at y.node.0));
}

seen_node : (y : ExprNode-F ((n : ExprNode) × IsSeenNode n) With) → IsSeenNode (roll-ExprNode (map-ExprNode _ _ _ _ (λ p. p.0) (λ p. p.0) y))
seen_node (ExprNode-F.Lit text) = subst IsSeenNode (sym (node.rolls-Lit text)) (seen-Lit text)
seen_node ExprNode-F.This = subst IsSeenNode (sym node.rolls-This) seen-This
seen_node (ExprNode-F.Name name) = subst IsSeenNode (sym (node.rolls-Name name)) (seen-Name name)
seen_node (ExprNode-F.Dot e name) = subst IsSeenNode (sym (node.rolls-Dot e.0 name)) (seen-Dot e name)
seen_node (ExprNode-F.Call None name args) = subst IsSeenNode (sym (node.rolls-Call None name (map (λ p. p.0) args))) (seen-Call None name args)
seen_node (ExprNode-F.Call (Some e) name args) = subst IsSeenNode (sym (node.rolls-Call (Some e.0) name (map (λ p. p.0) args))) (seen-Call (Some e) name args)
seen_node (ExprNode-F.SuperCall name args) = subst IsSeenNode (sym (node.rolls-SuperCall name (map (λ p. p.0) args))) (seen-SuperCall name args)
seen_node (ExprNode-F.New to args) = subst IsSeenNode (sym (node.rolls-New to (map (λ p. p.0) args))) (seen-New to args)
seen_node (ExprNode-F.NewArray to sizes open_pairs) = subst IsSeenNode (sym (node.rolls-NewArray to (map (λ p. p.0) sizes) open_pairs)) (seen-NewArray to sizes open_pairs)
seen_node (ExprNode-F.ArrayLit to items) = subst IsSeenNode (sym (node.rolls-ArrayLit to (map (λ p. p.0) items))) (seen-ArrayLit to items)
seen_node (ExprNode-F.Braces items) = subst IsSeenNode (sym (node.rolls-Braces (map (λ p. p.0) items))) (seen-Braces items)
seen_node (ExprNode-F.Index e i) = subst IsSeenNode (sym (node.rolls-Index e.0 i.0)) (seen-Index e i)
seen_node (ExprNode-F.Unary op e) = subst IsSeenNode (sym (node.rolls-Unary op e.0)) (seen-Unary op e)
seen_node (ExprNode-F.Post e op) = subst IsSeenNode (sym (node.rolls-Post e.0 op)) (seen-Post e op)
seen_node (ExprNode-F.Binary a op b) = subst IsSeenNode (sym (node.rolls-Binary a.0 op b.0)) (seen-Binary a op b)
seen_node (ExprNode-F.Assign a op b) = subst IsSeenNode (sym (node.rolls-Assign a.0 op b.0)) (seen-Assign a op b)
seen_node (ExprNode-F.Cond test a b) = subst IsSeenNode (sym (node.rolls-Cond test.0 a.0 b.0)) (seen-Cond test a b)
seen_node (ExprNode-F.Cast to e) = subst IsSeenNode (sym (node.rolls-Cast to e.0)) (seen-Cast to e)
seen_node (ExprNode-F.InstanceOf e to) = subst IsSeenNode (sym (node.rolls-InstanceOf e.0 to)) (seen-InstanceOf e to)
seen_node (ExprNode-F.Paren e) = subst IsSeenNode (sym (node.rolls-Paren e.0)) (seen-Paren e)

is_seen : (e : Expr) → IsSeen e
is_seen = ind-Expr IsSeenNode IsSeen (λ x y is. subst (λ z. IsSeenNode (roll-ExprNode z)) is (seen_node y)) (λ x y is. subst (λ z. IsSeen (roll-Expr z)) is (seen_expr y))

-- What is written is the text of the tree as printed.
pub written_text : (e : Expr) → text_of (written e) ≡ expr_text e
written_text e = (is_seen e).text

pub written_texts : (es : List Expr) → texts (map written es) ≡ map expr_text es
written_texts [] = refl
written_texts (e ∷ es) = ap (λ t. t ∷ texts (map written es)) (written_text e) ∙ ap (λ ts. expr_text e ∷ ts) (written_texts es)
