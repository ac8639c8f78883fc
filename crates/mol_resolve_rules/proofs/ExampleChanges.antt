-- What bodies of the shop read as once something else has changed.
use Rattle.std.proofs.Common.{◌≡◌, ℕ, true, false, List, [], ◌∷◌, Some, None, codes, refl}
use Prim.Native.String.{String}
use Rattle.mol_values_types.specs.declared.iexpr.IExpr.TheVariants as exprs
use Rattle.jav_tree.specs.Expressions.{expr_at}
use Rattle.jav_tree.specs.declared.expr.Expr.{Expr}
use Rattle.jav_tree.specs.declared.expr.ExprNode.TheVariants as node
use Rattle.jav_tree.specs.declared.types.TypeName.TheVariants as types
use Rattle.jav_tree.specs.declared.unit.Unit.{Unit as Source}
use Rattle.jav_names.specs.UnitViews.{MemberKey, header_of}
use Rattle.jav_names.specs.Views.{primitive_type, View}
use Rattle.jav_names.proofs.ExampleFiles.{int, param, field, method, file, with_superclasses}
use Rattle.jav_names.proofs.ExampleReadings.{cart, desk, till, till_with, last_extends}
use Rattle.mol_resolve_rules.specs.FaultKinds.{unknown_member, receiver_type}
use Rattle.mol_resolve_rules.specs.Files.{Files}
use Rattle.mol_resolve_rules.specs.Locals.{Locals, no_locals, declare}
use Rattle.mol_resolve_rules.specs.Numbering.{ids_by}
use Rattle.mol_resolve_rules.specs.Outcomes.{fine, refused}
use Rattle.mol_resolve_rules.specs.Readers.{Parameter, Reader}
use Rattle.mol_resolve_rules.specs.ReadTrees.{read_expr}
use Rattle.mol_resolve_rules.proofs.ExampleShop.{base, file_at}
use Rattle.mol_resolve_rules.proofs.ReadEquations.{reads-Lit, reads-Name, reads-Dot, reads-CallOn, one-read, expr-read}

abbrev name : ℕ → String → Expr
name at text = expr_at at (node.Name (codes text))

abbrev one : Expr
one = expr_at 9 (node.Lit (codes "1"))

-- three files in the order of their paths
abbrev shop_of : Source → Source → Source → Files
shop_of first second third = file_at "shop/A.java" first ∷ file_at "shop/B.java" second ∷ file_at "shop/C.java" third ∷ []

-- in a member of the file of this number
abbrev in_file : View ℕ MemberKey → Files → ℕ → Source → List (Parameter ℕ) → Reader ℕ MemberKey
in_file view files number unit params = record {
  view = view;
  ids = ids_by view files;
  header = header_of (number, unit);
  class = number;
  params = params;
  in_constructor = false;
}

-- ---- with a field `int count` in `Till`: `count` in `Till.pay` is that field, which is nearer than that of `Desk`

abbrev counted : Source
counted = till_with (field [] int "count" ∷ [])

abbrev in_counted : Reader ℕ MemberKey
in_counted = in_file (last_extends (cart ∷ desk ∷ counted ∷ [])) (shop_of cart desk counted) 2 counted []

count_of_till : read_expr in_counted no_locals (name 0 "count") ≡ fine (exprs.Own (base 11))
count_of_till = expr-read in_counted no_locals (name 0 "count") _ (reads-Name in_counted 0 (codes "count"))

-- ---- with `Cart` renamed to `Math`: `Math.abs(1)` in `Till.pay` goes to that class, which has no such method

abbrev math : Source
math = file "shop" [] "Math" None (method false int "total" [] ∷ [])

abbrev in_renamed : Reader ℕ MemberKey
in_renamed = in_file (last_extends (math ∷ desk ∷ till ∷ [])) (shop_of math desk till) 2 till []

abs_of_class : read_expr in_renamed no_locals (expr_at 0 (node.Call (Some (name 0 "Math")) (codes "abs") (one ∷ [])))
    ≡ refused unknown_member 0
abs_of_class = expr-read in_renamed no_locals (expr_at 0 (node.Call (Some (name 0 "Math")) (codes "abs") (one ∷ []))) _
    (reads-CallOn in_renamed 0 (name 0 "Math") (codes "abs") (one ∷ []) _ _ (reads-Name in_renamed 0 (codes "Math"))
    (one-read in_renamed one _ (reads-Lit in_renamed 9 (codes "1"))))

-- ---- with `tax` moved to `Desk`: in `Cart.total`, under a local `Desk`, it is reached through the full name of its class

abbrev moved_cart : Source
moved_cart = file "shop" [] "Cart" None (method false int "total" [] ∷ [])

abbrev moved_desk : Source
moved_desk = file "shop" [] "Desk" None (method true int "tax" (param int "amount" ∷ []) ∷ [])

abbrev in_moved : Reader ℕ MemberKey
in_moved = in_file (last_extends (moved_cart ∷ moved_desk ∷ till ∷ [])) (shop_of moved_cart moved_desk till) 0 moved_cart []

abbrev with_desk : Locals ℕ
with_desk = declare (record { name = codes "Desk"; type = primitive_type (codes "int") }) no_locals

abbrev shop_desk : Expr
shop_desk = expr_at 0 (node.Dot (name 0 "shop") (codes "Desk"))

tax_in_full : read_expr in_moved with_desk (expr_at 0 (node.Call (Some shop_desk) (codes "tax") (name 14 "Desk" ∷ [])))
    ≡ fine (exprs.StaticCall (base 8) (record { param = base 9; value = exprs.Local 0 } ∷ []))
tax_in_full = expr-read in_moved with_desk (expr_at 0 (node.Call (Some shop_desk) (codes "tax") (name 14 "Desk" ∷ []))) _
    (reads-CallOn in_moved 0 shop_desk (codes "tax") (name 14 "Desk" ∷ []) _ _
    (reads-Dot in_moved 0 (name 0 "shop") (codes "Desk") _ (reads-Name in_moved 0 (codes "shop")))
    (one-read in_moved (name 14 "Desk") _ (reads-Name in_moved 14 (codes "Desk"))))

-- ---- `a.X.m()` in `p.U.f(int a)`: `a` is the parameter, an `int`, which has no members; it would else be the class `a.X`

abbrev x_of : String → Source
x_of in_package = file in_package [] "X" None (method true types.Void "m" [] ∷ [])

abbrev user : Source
user = file "p" [] "U" None (method false types.Void "f" (param int "a" ∷ []) ∷ [])

abbrev two_of_a_name : View ℕ MemberKey
two_of_a_name = with_superclasses (x_of "a" ∷ x_of "b" ∷ user ∷ []) (None ∷ None ∷ None ∷ [])

abbrev in_f : List (Parameter ℕ) → Reader ℕ MemberKey
in_f params = in_file two_of_a_name (shop_of (x_of "a") (x_of "b") user) 2 user params

abbrev parameter_a : List (Parameter ℕ)
parameter_a = record { name = codes "a"; type = primitive_type (codes "int"); id = base 10 } ∷ []

abbrev x_of_a : Expr
x_of_a = expr_at 0 (node.Dot (name 0 "a") (codes "X"))

under_parameter : read_expr (in_f parameter_a) no_locals (expr_at 0 (node.Call (Some x_of_a) (codes "m") [])) ≡ refused receiver_type 0
under_parameter = expr-read (in_f parameter_a) no_locals (expr_at 0 (node.Call (Some x_of_a) (codes "m") [])) _
    (reads-CallOn (in_f parameter_a) 0 x_of_a (codes "m") [] _ _
    (reads-Dot (in_f parameter_a) 0 (name 0 "a") (codes "X") _ (reads-Name (in_f parameter_a) 0 (codes "a"))) refl)

without_parameter : read_expr (in_f []) no_locals (expr_at 0 (node.Call (Some x_of_a) (codes "m") [])) ≡ fine (exprs.StaticCall (base 7) [])
without_parameter = expr-read (in_f []) no_locals (expr_at 0 (node.Call (Some x_of_a) (codes "m") [])) _
    (reads-CallOn (in_f []) 0 x_of_a (codes "m") [] _ _
    (reads-Dot (in_f []) 0 (name 0 "a") (codes "X") _ (reads-Name (in_f []) 0 (codes "a"))) refl)
