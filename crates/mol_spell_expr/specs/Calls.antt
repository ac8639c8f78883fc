-- Members of their names and of what stands before them (JLS 15.11, 15.12).
use Rattle.std.specs.Prelude.{List, Option, None, Some}
use Rattle.mol_base.specs.declared.ident.Id.{Id}
use Rattle.jav_tree.specs.declared.expr.Expr.{Expr}
use Rattle.jav_tree.specs.declared.expr.ExprNode.TheVariants as node
use Rattle.jav_names.specs.DottedNames.{Name}
use Rattle.mol_resolve_rules.specs.Locals.{Locals}
use Rattle.mol_spell_rules.specs.SpelledExpressions.{MemberForm, by_name, on_this, on_class, class_names, dot_tree, made, name_tree, names_tree}
use Rattle.mol_spell_rules.specs.Writers.{Writer}

-- what stands before a member of such a form
abbrev pub receiver : Writer → Locals Id → MemberForm → Option Expr
receiver writer locals by_name = None
receiver writer locals on_this = Some (made node.This)
receiver writer locals (on_class class) = Some (names_tree (class_names writer locals class))

-- a field
abbrev pub field_node : Option Expr → Name → Expr
field_node None name = name_tree name
field_node (Some on) name = dot_tree on name

-- a call
abbrev pub call_node : Option Expr → Name → List Expr → Expr
call_node on name args = made (node.Call on name args)
