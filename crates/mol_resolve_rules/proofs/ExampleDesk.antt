-- What names read as in the class `shop.Desk`, which extends nothing. It has the fields `int i`, `static int s` and `int[] a`, and no
-- other class is there.
use Rattle.std.proofs.Common.{◌≡◌, ℕ, ◌+◌, true, false, [], ◌∷◌, Some, None, codes, refl}
use Prim.Native.String.{String}
use Rattle.std.specs.Ordering.{nat_cmp}
use Rattle.mol_base.specs.declared.ident.Id.{Id}
use Rattle.mol_values_types.specs.declared.iexpr.IExpr.{IExpr}
use Rattle.mol_values_types.specs.declared.iexpr.IExpr.TheVariants as exprs
use Rattle.jav_tree.specs.Expressions.{expr_at}
use Rattle.jav_tree.specs.declared.expr.Expr.{Expr}
use Rattle.jav_tree.specs.declared.expr.ExprNode.TheVariants as node
use Rattle.jav_names.specs.LookUps.{super_constructor}
use Rattle.jav_names.specs.UnitViews.{MemberKey, member_key_cmp}
use Rattle.jav_names.specs.Views.{ViewType, primitive_type, array_type, ViewClass, View}
use Rattle.mol_resolve_rules.specs.FaultKinds.{unknown_name, unknown_member, static_by_instance, receiver_type}
use Rattle.mol_resolve_rules.specs.Locals.{no_locals}
use Rattle.mol_resolve_rules.specs.Outcomes.{Outcome, fine, refused}
use Rattle.mol_resolve_rules.specs.Readers.{Reader}
use Rattle.mol_resolve_rules.specs.ReadStatements.{super_if}
use Rattle.mol_resolve_rules.specs.ReadTrees.{read_expr}
use Rattle.mol_resolve_rules.proofs.ReadEquations.{reads-Lit, reads-This, reads-Name, reads-Dot, reads-CallOn, reads-Index, reads-Paren, expr-read}

-- ---- the class

abbrev pub base : ℕ → Id
base number = record { tag = []; num = number }

abbrev pub int : ViewType ℕ
int = primitive_type (codes "int")

abbrev pub desk : ViewClass ℕ
desk = record { key = 0; «package» = codes "shop"; name = codes "Desk" }

abbrev pub view : View ℕ MemberKey
view = record {
  classes = record { cmp = nat_cmp; items = desk ∷ [] };
  member_cmp = member_key_cmp;
  fields = record { key = record { unit = 0; member = 0 }; owner = 0; name = codes "i"; is_static = false; type = int }
      ∷ record { key = record { unit = 0; member = 1 }; owner = 0; name = codes "s"; is_static = true; type = int }
      ∷ record { key = record { unit = 0; member = 2 }; owner = 0; name = codes "a"; is_static = false; type = array_type int } ∷ [];
  declarations = [];
  superclass = λ number. None;
}

-- the fields are `:2`, `:3` and `:4`
abbrev pub in_desk : Reader ℕ MemberKey
in_desk = record {
  view = view;
  ids = record {
    class_id = λ number. base 1;
    member_id = λ key. base (key.member + 2);
    method_id = λ declared. base 9;
    param_ids = λ declared. [];
  };
  header = record { own = Some desk; «package» = codes "shop"; imports = [] };
  class = 0;
  params = [];
  in_constructor = true;
}

abbrev read : Expr → Outcome IExpr
read = read_expr in_desk no_locals

-- ---- trees

abbrev pub name : ℕ → String → Expr
name at text = expr_at at (node.Name (codes text))

abbrev dot : Expr → String → Expr
dot e text = expr_at e.at (node.Dot e (codes text))

abbrev call : Expr → String → Expr
call e text = expr_at e.at (node.Call (Some e) (codes text) [])

abbrev in_parentheses : Expr → Expr
in_parentheses e = expr_at 0 (node.Paren e)

abbrev of_this : Expr
of_this = expr_at 0 node.This

-- ---- names

-- `Date.now()`: nothing is named `Date`, so it is outside before a dot; in parentheses it stands alone, and is no variable
date_outside : read (call (name 0 "Date") "now") ≡ fine (exprs.OutsideCallOn (codes "now") (exprs.OutsideName (codes "Date")) [])
date_outside = expr-read in_desk no_locals (call (name 0 "Date") "now") _
    (reads-CallOn in_desk 0 (name 0 "Date") (codes "now") [] _ _ (reads-Name in_desk 0 (codes "Date")) refl)

date_alone : read (call (in_parentheses (name 1 "Date")) "now") ≡ refused unknown_name 1
date_alone = expr-read in_desk no_locals (call (in_parentheses (name 1 "Date")) "now") _
    (reads-CallOn in_desk 0 (in_parentheses (name 1 "Date")) (codes "now") [] _ _
    (reads-Paren in_desk 0 (name 1 "Date") _ (reads-Name in_desk 1 (codes "Date"))) refl)

-- `Desk` where a value is wanted is no variable, and `shop.Desk` is no member
class_alone : read (name 0 "Desk") ≡ refused unknown_name 0
class_alone = expr-read in_desk no_locals (name 0 "Desk") _ (reads-Name in_desk 0 (codes "Desk"))

full_name_alone : read (dot (name 0 "shop") "Desk") ≡ refused unknown_member 0
full_name_alone = expr-read in_desk no_locals (dot (name 0 "shop") "Desk") _
    (reads-Dot in_desk 0 (name 0 "shop") (codes "Desk") _ (reads-Name in_desk 0 (codes "shop")))

-- ---- members of an instance, and through the class

own_field : read (dot of_this "i") ≡ fine (exprs.Own (base 2))
own_field = expr-read in_desk no_locals (dot of_this "i") _ (reads-Dot in_desk 0 of_this (codes "i") _ (reads-This in_desk 0))

static_by_this : read (dot of_this "s") ≡ refused static_by_instance 0
static_by_this = expr-read in_desk no_locals (dot of_this "s") _ (reads-Dot in_desk 0 of_this (codes "s") _ (reads-This in_desk 0))

static_by_class : read (dot (name 0 "Desk") "s") ≡ fine (exprs.StaticField (base 3))
static_by_class = expr-read in_desk no_locals (dot (name 0 "Desk") "s") _
    (reads-Dot in_desk 0 (name 0 "Desk") (codes "s") _ (reads-Name in_desk 0 (codes "Desk")))

instance_by_class : read (dot (name 0 "Desk") "i") ≡ refused unknown_member 0
instance_by_class = expr-read in_desk no_locals (dot (name 0 "Desk") "i") _
    (reads-Dot in_desk 0 (name 0 "Desk") (codes "i") _ (reads-Name in_desk 0 (codes "Desk")))

-- through the whole name of the class
static_by_full_name : read (dot (dot (name 0 "shop") "Desk") "s") ≡ fine (exprs.StaticField (base 3))
static_by_full_name = expr-read in_desk no_locals (dot (dot (name 0 "shop") "Desk") "s") _
    (reads-Dot in_desk 0 (dot (name 0 "shop") "Desk") (codes "s") _
    (reads-Dot in_desk 0 (name 0 "shop") (codes "Desk") _ (reads-Name in_desk 0 (codes "shop"))))

-- ---- arrays: `a` is an `int[]`

abbrev a : Expr
a = name 0 "a"

length_of_array : read (dot a "length") ≡ fine (exprs.OutsideField (codes "length") (exprs.Own (base 4)))
length_of_array = expr-read in_desk no_locals (dot a "length") _
    (reads-Dot in_desk 0 a (codes "length") _ (reads-Name in_desk 0 (codes "a")))

-- it is an `int`, which has no members
of_length : read (dot (dot a "length") "x") ≡ refused receiver_type 0
of_length = expr-read in_desk no_locals (dot (dot a "length") "x") _
    (reads-Dot in_desk 0 (dot a "length") (codes "x") _ (reads-Dot in_desk 0 a (codes "length") _ (reads-Name in_desk 0 (codes "a"))))

other_of_array : read (dot a "foo") ≡ refused unknown_member 0
other_of_array = expr-read in_desk no_locals (dot a "foo") _ (reads-Dot in_desk 0 a (codes "foo") _ (reads-Name in_desk 0 (codes "a")))

-- `a.clone()[0]` is an item of an array, and `i[0]` is none
abbrev zero_at : ℕ → Expr
zero_at at = expr_at at (node.Lit (codes "0"))

item_of_clone : read (expr_at 0 (node.Index (call a "clone") (zero_at 10)))
    ≡ fine (exprs.Index (exprs.OutsideCallOn (codes "clone") (exprs.Own (base 4)) []) (exprs.Lit (codes "0")))
item_of_clone = expr-read in_desk no_locals (expr_at 0 (node.Index (call a "clone") (zero_at 10))) _
    (reads-Index in_desk 0 (call a "clone") (zero_at 10) _ _
    (reads-CallOn in_desk 0 a (codes "clone") [] _ _ (reads-Name in_desk 0 (codes "a")) refl) (reads-Lit in_desk 10 (codes "0")))

item_of_number : read (expr_at 0 (node.Index (name 0 "i") (zero_at 2))) ≡ refused receiver_type 0
item_of_number = expr-read in_desk no_locals (expr_at 0 (node.Index (name 0 "i") (zero_at 2))) _
    (reads-Index in_desk 0 (name 0 "i") (zero_at 2) _ _ (reads-Name in_desk 0 (codes "i")) (reads-Lit in_desk 2 (codes "0")))

-- ---- `super();` in a constructor: the class extends nothing

no_super : super_if in_desk true 0 (Some []) (super_constructor view 0 0) ≡ refused unknown_member 0
no_super = refl
