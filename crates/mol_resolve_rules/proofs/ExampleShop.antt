-- Three small files of a shop: how what stands in them is numbered, and what the bodies of `pay` in `Till` read as. `Till` extends
-- `Desk`, and `Cart` extends nothing.
use Rattle.std.proofs.Common.{◌≡◌, ℕ, false, [], ◌∷◌, Some, None, codes, refl, ap}
use Prim.Native.String.{String}
use Rattle.mol_base.specs.declared.ident.Id.{Id}
use Rattle.mol_values_types.specs.declared.iexpr.IExpr.TheVariants as exprs
use Rattle.jav_tree.specs.Expressions.{expr_at}
use Rattle.jav_tree.specs.declared.expr.Expr.{Expr}
use Rattle.jav_tree.specs.declared.expr.ExprNode.TheVariants as node
use Rattle.jav_tree.specs.declared.unit.Unit.{Unit as Source}
use Rattle.jav_names.specs.UnitViews.{MemberKey, header_of}
use Rattle.jav_names.specs.Views.{class_type, primitive_type, View}
use Rattle.jav_names.proofs.ExampleReadings.{cart, desk, till, shop, last_extends, shop-seen}
use Rattle.mol_resolve_rules.specs.FaultKinds.{unknown_member, receiver_type}
use Rattle.mol_resolve_rules.specs.Files.{File, Files}
use Rattle.mol_resolve_rules.specs.Locals.{Locals, no_locals, declare}
use Rattle.mol_resolve_rules.specs.Numbering.{numbered_class, numbered_member, numbered_method, numbered_param, order_by, in_order, id_by, ids_by}
use Rattle.mol_resolve_rules.specs.Outcomes.{fine, refused}
use Rattle.mol_resolve_rules.specs.Readers.{Reader}
use Rattle.mol_resolve_rules.specs.ReadTrees.{read_expr}
use Rattle.mol_resolve_rules.proofs.ReadEquations.{reads-Lit, reads-Name, reads-Dot, reads-Call, reads-CallOn, one-read, expr-read}

abbrev pub base : ℕ → Id
base number = record { tag = []; num = number }

abbrev pub file_at : String → Source → File
file_at path unit = record { path = codes path; unit = unit }

abbrev pub files : Files
files = file_at "shop/Cart.java" cart ∷ file_at "shop/Desk.java" desk ∷ file_at "shop/Till.java" till ∷ []

abbrev pub view : View ℕ MemberKey
view = last_extends shop

-- ---- numbers

abbrev key : ℕ → ℕ → MemberKey
key unit member = record { unit = unit; member = member }

-- classes, then members, then methods with their parameters
numbers : in_order files ≡ numbered_class 0 ∷ numbered_class 1 ∷ numbered_class 2
    ∷ numbered_member (key 0 0) ∷ numbered_member (key 0 1) ∷ numbered_member (key 0 2) ∷ numbered_member (key 0 3)
    ∷ numbered_member (key 1 0) ∷ numbered_member (key 1 1) ∷ numbered_member (key 2 0)
    ∷ numbered_method (key 0 1) ∷ numbered_method (key 0 2) ∷ numbered_param (key 0 2) 0
    ∷ numbered_method (key 0 3) ∷ numbered_param (key 0 3) 0 ∷ numbered_param (key 0 3) 1
    ∷ numbered_method (key 1 1) ∷ numbered_method (key 2 0) ∷ numbered_param (key 2 0) 0 ∷ []
numbers = ap (λ v. order_by v files) shop-seen

-- so the field `count` of `Desk` is `:8`, and the parameter of `pay` is `:19`
count_number : id_by view files (numbered_member (key 1 0)) ≡ base 8
count_number = refl

cart_number : id_by view files (numbered_param (key 2 0) 0) ≡ base 19
cart_number = refl

-- ---- bodies of `pay`

abbrev pub in_pay : Reader ℕ MemberKey
in_pay = record {
  view = view;
  ids = ids_by view files;
  header = header_of (2, till);
  class = 2;
  params = record { name = codes "cart"; type = class_type 0; id = base 19 } ∷ [];
  in_constructor = false;
}

abbrev name : ℕ → String → Expr
name at text = expr_at at (node.Name (codes text))

abbrev lit : ℕ → String → Expr
lit at text = expr_at at (node.Lit (codes text))

-- `count` is the field of `Desk`
count_of_desk : read_expr in_pay no_locals (name 0 "count") ≡ fine (exprs.Own (base 8))
count_of_desk = expr-read in_pay no_locals (name 0 "count") _ (reads-Name in_pay 0 (codes "count"))

-- `tax(1)` is no method: neither `Till` nor `Desk` has one
no_tax : read_expr in_pay no_locals (expr_at 7 (node.Call None (codes "tax") (lit 11 "1" ∷ []))) ≡ refused unknown_member 7
no_tax = expr-read in_pay no_locals (expr_at 7 (node.Call None (codes "tax") (lit 11 "1" ∷ []))) _
    (reads-Call in_pay 7 (codes "tax") (lit 11 "1" ∷ []) _ (one-read in_pay (lit 11 "1") _ (reads-Lit in_pay 11 (codes "1"))))

-- `Cart.tax(1)` is the static method, through the name of its class
tax_of_cart : read_expr in_pay no_locals (expr_at 0 (node.Call (Some (name 0 "Cart")) (codes "tax") (lit 9 "1" ∷ [])))
    ≡ fine (exprs.StaticCall (base 12) (record { param = base 13; value = exprs.Lit (codes "1") } ∷ []))
tax_of_cart = expr-read in_pay no_locals (expr_at 0 (node.Call (Some (name 0 "Cart")) (codes "tax") (lit 9 "1" ∷ []))) _
    (reads-CallOn in_pay 0 (name 0 "Cart") (codes "tax") (lit 9 "1" ∷ []) _ _ (reads-Name in_pay 0 (codes "Cart"))
    (one-read in_pay (lit 9 "1") _ (reads-Lit in_pay 9 (codes "1"))))

-- `cart.total()` is the method of the parameter's class
total_of_cart : read_expr in_pay no_locals (expr_at 0 (node.Call (Some (name 0 "cart")) (codes "total") []))
    ≡ fine (exprs.CallOn (base 11) (exprs.Param (base 19)) [])
total_of_cart = expr-read in_pay no_locals (expr_at 0 (node.Call (Some (name 0 "cart")) (codes "total") [])) _
    (reads-CallOn in_pay 0 (name 0 "cart") (codes "total") [] _ _ (reads-Name in_pay 0 (codes "cart")) refl)

-- `Math.abs(1)`: nothing is named `Math`, so both are outside
abs_outside : read_expr in_pay no_locals (expr_at 0 (node.Call (Some (name 0 "Math")) (codes "abs") (lit 9 "1" ∷ [])))
    ≡ fine (exprs.OutsideCallOn (codes "abs") (exprs.OutsideName (codes "Math")) (exprs.Lit (codes "1") ∷ []))
abs_outside = expr-read in_pay no_locals (expr_at 0 (node.Call (Some (name 0 "Math")) (codes "abs") (lit 9 "1" ∷ []))) _
    (reads-CallOn in_pay 0 (name 0 "Math") (codes "abs") (lit 9 "1" ∷ []) _ _ (reads-Name in_pay 0 (codes "Math"))
    (one-read in_pay (lit 9 "1") _ (reads-Lit in_pay 9 (codes "1"))))

-- `Cart.tax(Cart)` under a local `Cart`: before the dot `Cart` is the local, an `int`, which has no methods; `shop.Cart.tax(Cart)` is
-- the static method
abbrev with_cart : Locals ℕ
with_cart = declare (record { name = codes "Cart"; type = primitive_type (codes "int") }) no_locals

hidden_class : read_expr in_pay with_cart (expr_at 0 (node.Call (Some (name 0 "Cart")) (codes "tax") (name 9 "Cart" ∷ [])))
    ≡ refused receiver_type 0
hidden_class = expr-read in_pay with_cart (expr_at 0 (node.Call (Some (name 0 "Cart")) (codes "tax") (name 9 "Cart" ∷ []))) _
    (reads-CallOn in_pay 0 (name 0 "Cart") (codes "tax") (name 9 "Cart" ∷ []) _ _ (reads-Name in_pay 0 (codes "Cart"))
    (one-read in_pay (name 9 "Cart") _ (reads-Name in_pay 9 (codes "Cart"))))

class_in_full : read_expr in_pay with_cart
    (expr_at 0 (node.Call (Some (expr_at 0 (node.Dot (name 0 "shop") (codes "Cart")))) (codes "tax") (name 14 "Cart" ∷ [])))
    ≡ fine (exprs.StaticCall (base 12) (record { param = base 13; value = exprs.Local 0 } ∷ []))
class_in_full = expr-read in_pay with_cart
    (expr_at 0 (node.Call (Some (expr_at 0 (node.Dot (name 0 "shop") (codes "Cart")))) (codes "tax") (name 14 "Cart" ∷ []))) _
    (reads-CallOn in_pay 0 (expr_at 0 (node.Dot (name 0 "shop") (codes "Cart"))) (codes "tax") (name 14 "Cart" ∷ []) _ _
    (reads-Dot in_pay 0 (name 0 "shop") (codes "Cart") _ (reads-Name in_pay 0 (codes "shop")))
    (one-read in_pay (name 14 "Cart") _ (reads-Name in_pay 14 (codes "Cart"))))
