-- What is written in three small classes of a shop once a field is added, a method moved or a class renamed. `Till` extends `Desk`, and
-- `Cart` extends nothing. The view of the program is given; of the program only names, packages and owners are known.
use Rattle.std.proofs.Common.{◌≡◌, ℕ, ◌==◌, true, false, List, [], ◌∷◌, Some, None, codes, refl, ap, ◌∙◌, if◌then◌else◌}
use Prim.Native.String.{String}
use Rattle.mol_base.specs.Order.{id_cmp}
use Rattle.mol_base.specs.declared.ident.Id.{Id}
use Rattle.mol_spell_rules.specs.references.References.{class_target, field_target, method_target, local_target, outside_target}
use Rattle.mol_table_rules.specs.Program.{Program, same_id, package_at, name_at}
use Rattle.mol_values_types.specs.declared.iexpr.IExpr.{IExpr}
use Rattle.mol_values_types.specs.declared.iexpr.IExpr.TheOpen.{IExpr-F}
use Rattle.mol_values_types.specs.declared.iexpr.IExpr.TheVariants as exprs
use Rattle.mol_values_types.specs.declared.itype.IType.TheVariants as itypes
use Rattle.jav_tree.specs.declared.expr.ExprNode.TheVariants as node
use Rattle.jav_tree.specs.declared.types.TypeName.TheVariants as types
use Rattle.jav_names.specs.OnValues.{class_value, outside_value}
use Rattle.jav_names.specs.Views.{ViewType, primitive_type, void_type, class_type, outside_type, ViewClass, ViewField, DeclarationKind, instance_method, static_method, ViewDeclaration, View}
use Rattle.mol_resolve_rules.specs.Locals.{Locals, no_locals, declare}
use Rattle.mol_resolve_rules.specs.Readers.{Reader}
use Rattle.mol_resolve_rules.specs.StaticTypes.{class_of_only_declaration}
use Rattle.mol_spell_rules.proofs.SpelledEquations.{of_parts, argument-is, spelled-Lit, spelled-Local, spelled-Own, spelled-NewDefault, spelled-OutsideName, spelled-StaticCall, spelled-OutsideCallOn, type-Class}
use Rattle.mol_spell_rules.specs.Answers.{answer}
use Rattle.mol_spell_rules.specs.SpelledExpressions.{made, name_tree, dot_tree, spelled_expr, reference, plain}
use Rattle.mol_spell_rules.specs.SpelledTypes.{spelled_type}
use Rattle.mol_spell_rules.specs.Writers.{program_class, Writer, hides_none, importable_use, written_use, name_asked, name_before_asked, static_method_asked, field_asked, method_asked}

-- ---- the shop

abbrev pub base : ℕ → Id
base number = record { tag = []; num = number }

abbrev pub int : ViewType Id
int = primitive_type (codes "int")

abbrev pub class_in : ℕ → String → String → ViewClass Id
class_in number «package» name = record { key = base number; «package» = codes «package»; name = codes name }

abbrev pub field_in : Id → ℕ → String → ViewField Id Id
field_in key owner name = record { key = key; owner = base owner; name = codes name; is_static = false; type = int }

abbrev pub method_in : ℕ → ℕ → String → ℕ → DeclarationKind → ViewType Id → ViewDeclaration Id Id
method_in number owner name arity kind result = record {
  key = base number;
  owner = base owner;
  name = codes name;
  arity = arity;
  kind = kind;
  result = result;
}

-- with a class in place of `Cart`, further fields, and `tax` in one of the classes
abbrev pub shop : String → List (ViewField Id Id) → ℕ → View Id Id
shop cart more tax_owner = record {
  classes = record {
    cmp = id_cmp;
    items = class_in 1 "shop" cart ∷ class_in 2 "shop" "Desk" ∷ class_in 3 "shop" "Till" ∷ [];
  };
  member_cmp = id_cmp;
  fields = field_in (base 4) 1 "count" ∷ field_in (base 8) 2 "count" ∷ more;
  declarations = method_in 5 1 "total" 0 instance_method int ∷ method_in 6 tax_owner "tax" 1 static_method int
      ∷ method_in 7 1 "add" 2 instance_method void_type ∷ method_in 9 2 "label" 0 instance_method (outside_type (codes "String"))
      ∷ method_in 10 3 "pay" 1 instance_method int ∷ [];
  superclass = λ class. if same_id class (base 3) then Some (class_type (base 2)) else None;
}

-- the methods `:11` total, `:12` tax, `:14` add, `:17` label and `:18` pay
abbrev method_number : ℕ → ℕ
method_number declaration = if declaration == 5 then 11 else if declaration == 6 then 12 else if declaration == 7 then 14
    else if declaration == 9 then 17 else 18

-- in one of these classes, without imports and parameters
abbrev pub in_class : View Id Id → ViewClass Id → Reader Id Id
in_class view class = record {
  view = view;
  ids = record {
    class_id = λ key. key;
    member_id = λ key. key;
    method_id = λ declared. base (method_number declared.key.num);
    param_ids = λ declared. [];
  };
  header = record { own = Some class; «package» = class.«package»; imports = [] };
  class = class.key;
  params = [];
  in_constructor = false;
}

module _ (program : Program) where
  -- each class has its simple name
  abbrev pub writer : Reader Id Id → Writer
  writer reader = record { program = program; reader = reader; is_simple = λ what. true }

  -- ---- a field `count` in `Till`: `return count;` in `Till.pay`, which means `Desk.count`

  abbrev added : Id
  added = record { tag = codes "ann"; num = 1 }

  abbrev in_pay : Reader Id Id
  in_pay = in_class (shop "Cart" (field_in added 3 "count" ∷ []) 1) (class_in 3 "shop" "Till")

  module _ (named : name_at program (base 8) ≡ codes "count") where
    count-written : (spelled_expr (writer in_pay) no_locals (exprs.Own (base 8))).tree ≡ dot_tree (made node.This) (codes "count")
    count-written = ap (λ part. part.tree) (spelled-Own (writer in_pay) no_locals (base 8)) ∙ simp (named) refl

    count-asks : (spelled_expr (writer in_pay) no_locals (exprs.Own (base 8))).references None
        ≡ plain (writer in_pay) no_locals (field_target (base 8)) (field_asked (class_value (base 3)) (codes "count")) ∷ []
    count-asks = ap (λ part. part.references None) (spelled-Own (writer in_pay) no_locals (base 8)) ∙ simp (named) refl

  -- so it is misread, as the new field
  count-answered : answer in_pay no_locals (field_asked (class_value (base 3)) (codes "count")) ≡ Some (field_target added)
  count-answered = refl

  -- ---- `Cart` renamed to `Math`: `Math.abs(1)` in `Till.pay`, outside

  abbrev beside_math : Reader Id Id
  beside_math = in_class (shop "Math" [] 1) (class_in 3 "shop" "Till")

  math-asks : (spelled_expr (writer beside_math) no_locals
      (exprs.OutsideCallOn (codes "abs") (exprs.OutsideName (codes "Math")) (exprs.Lit (codes "1") ∷ []))).references None
      ≡ reference (writer beside_math) no_locals (outside_target (codes "Math")) (name_before_asked (codes "Math") [])
      (Some (written_use (codes "Math")))
      ∷ plain (writer beside_math) no_locals (outside_target (codes "abs")) (method_asked outside_value (codes "abs") 1) ∷ []
  math-asks = ap (λ part. part.references None) (spelled-OutsideCallOn (writer beside_math) no_locals (codes "abs")
      (exprs.OutsideName (codes "Math")) (exprs.Lit (codes "1") ∷ []) _ _
      (spelled-OutsideName (writer beside_math) no_locals (codes "Math"))
      (ap (λ part. part ∷ []) (spelled-Lit (writer beside_math) no_locals (codes "1"))))

  -- it is misread, as the class
  math-answered : answer beside_math no_locals (name_before_asked (codes "Math") []) ≡ Some (class_target (base 1))
  math-answered = refl

  -- ---- `tax` moved to `Desk`: `int Desk = 1; return tax(Desk);` in `Cart.total`

  abbrev in_total : Reader Id Id
  in_total = in_class (shop "Cart" [] 2) (class_in 1 "shop" "Cart")

  abbrev with_desk : Locals Id
  with_desk = declare (record { name = codes "Desk"; type = int }) no_locals

  abbrev tax_call : IExpr
  tax_call = exprs.StaticCall (base 12) (record { param = base 13; value = exprs.Local 0 } ∷ [])

  tax-parts : spelled_expr (writer in_total) with_desk tax_call
      ≡ of_parts (writer in_total) with_desk
      (IExpr-F.StaticCall (base 12) (of_parts (writer in_total) with_desk (IExpr-F.Local 0) ∷ []))
  tax-parts = spelled-StaticCall (writer in_total) with_desk (base 12) (record { param = base 13; value = exprs.Local 0 } ∷ []) _
      (ap (λ part. part ∷ [])
      (argument-is (writer in_total) with_desk (base 13) (exprs.Local 0) _ (spelled-Local (writer in_total) with_desk 0)))

  -- the local goes before the class, so that the class is written in full
  module _ (tax_named : name_at program (base 12) ≡ codes "tax") (desk_named : name_at program (base 2) ≡ codes "Desk")
      (desk_packed : package_at program (base 2) ≡ codes "shop")
      (tax_owned : class_of_only_declaration program (base 12) ≡ Some (base 2)) where
    tax-written : (spelled_expr (writer in_total) with_desk tax_call).tree
        ≡ made (node.Call (Some (dot_tree (name_tree (codes "shop")) (codes "Desk"))) (codes "tax") (name_tree (codes "Desk") ∷ []))
    tax-written = ap (λ part. part.tree) tax-parts ∙ simp (tax_named, tax_owned, desk_named, desk_packed) refl

    tax-asks : (spelled_expr (writer in_total) with_desk tax_call).references None
        ≡ reference (writer in_total) with_desk (method_target (base 12))
        (static_method_asked (record { first = codes "shop"; rest = codes "Desk" ∷ [] }) (codes "tax") 1)
        (Some (importable_use (program_class (base 2)) true))
        ∷ plain (writer in_total) with_desk (local_target 0) (name_asked (codes "Desk")) ∷ []
    tax-asks = ap (λ part. part.references None) tax-parts ∙ simp (tax_named, tax_owned, desk_named, desk_packed) refl

    -- `Desk d = new shop.Desk();` and `(shop.Desk) d`: in the type of a declaration nothing hides the class
    creation-written : (spelled_expr (writer in_total) with_desk (exprs.NewDefault (base 2))).tree
        ≡ made (node.New (types.Named (codes "shop.Desk")) [])
    creation-written = ap (λ part. part.tree) (spelled-NewDefault (writer in_total) with_desk (base 2))
        ∙ simp (desk_named, desk_packed) refl

    declaration-written : (spelled_type (writer in_total) hides_none with_desk (itypes.Class (base 2))).tree
        ≡ types.Named (codes "Desk")
    declaration-written = ap (λ part. part.tree) (type-Class (writer in_total) hides_none with_desk (base 2))
        ∙ simp (desk_named) refl

  -- in full it is the method
  tax-answered : answer in_total with_desk (static_method_asked (record { first = codes "shop"; rest = codes "Desk" ∷ [] }) (codes "tax") 1)
      ≡ Some (method_target (base 12))
  tax-answered = refl
