-- A method that is overridden: `Till` extends `Desk`, and both have `String label()`; `Till` has `String name()` too, whose body calls it.
use Rattle.std.proofs.Common.{◌≡◌, ℕ, false, [], ◌∷◌, Some, None, codes, refl, ap}
use Rattle.mol_values_types.specs.declared.cell.Slot.TheVariants as slots
use Rattle.mol_values_types.specs.declared.iexpr.IExpr.TheVariants as exprs
use Rattle.mol_values_types.specs.declared.value.Value.TheVariants as values
use Rattle.jav_tree.specs.Expressions.{expr_at}
use Rattle.jav_tree.specs.declared.expr.ExprNode.TheVariants as node
use Rattle.jav_tree.specs.declared.unit.Unit.{Unit as Source}
use Rattle.jav_names.specs.TypeTexts.{type_in}
use Rattle.jav_names.specs.UnitViews.{MemberKey, classes_of, header_of}
use Rattle.jav_names.specs.Views.{class_type, instance_method, ViewDeclaration, View}
use Rattle.jav_names.proofs.ExampleFiles.{int, named, field, method, file, with_superclasses, view-seen}
use Rattle.jav_names.proofs.WrittenTypes.{type_in-Named}
use Rattle.mol_resolve_rules.specs.Expected.{value_of}
use Rattle.mol_resolve_rules.specs.Files.{Files, files_view}
use Rattle.mol_resolve_rules.specs.Locals.{no_locals}
use Rattle.mol_resolve_rules.specs.Numbering.{numbered_class, numbered_member, numbered_method, order_by, in_order, ids_by}
use Rattle.mol_resolve_rules.specs.Outcomes.{fine}
use Rattle.mol_resolve_rules.specs.Readers.{Reader}
use Rattle.mol_resolve_rules.specs.ReadTrees.{read_expr}
use Rattle.mol_resolve_rules.proofs.ExampleShop.{base, file_at}
use Rattle.mol_resolve_rules.proofs.ReadEquations.{reads-Call, expr-read}

-- ---- the files

abbrev desk : Source
desk = file "shop" [] "Desk" None (field ("protected" ∷ []) int "count" ∷ method false (named "String") "label" [] ∷ [])

abbrev till : Source
till = file "shop" [] "Till" (Some (named "Desk"))
    (method false (named "String") "label" [] ∷ method false (named "String") "name" [] ∷ [])

abbrev files : Files
files = file_at "shop/Desk.java" desk ∷ file_at "shop/Till.java" till ∷ []

abbrev view : View ℕ MemberKey
view = with_superclasses (desk ∷ till ∷ []) (None ∷ Some (class_type 0) ∷ [])

seen : files_view files ≡ view
seen = view-seen (desk ∷ till ∷ []) (None ∷ Some (class_type 0) ∷ [])
    (λ i. None ∷ Some (type_in-Named (classes_of (desk ∷ till ∷ [])) (header_of (1, till)) (codes "Desk") i) ∷ [])

abbrev key : ℕ → ℕ → MemberKey
key unit member = record { unit = unit; member = member }

-- ---- numbers: the methods are `:7` label, of both declarations, and `:8` name

numbers : in_order files ≡ numbered_class 0 ∷ numbered_class 1
    ∷ numbered_member (key 0 0) ∷ numbered_member (key 0 1) ∷ numbered_member (key 1 0) ∷ numbered_member (key 1 1)
    ∷ numbered_method (key 0 1) ∷ numbered_method (key 1 1) ∷ []
numbers = ap (λ v. order_by v files) seen

-- a declaration of one of the files, without parameters and with the result `String`
abbrev declaration : ℕ → Source → ℕ → ViewDeclaration ℕ MemberKey
declaration unit source member = record {
  key = key unit member;
  owner = unit;
  name = codes "label";
  arity = 0;
  kind = instance_method;
  result = type_in (classes_of (desk ∷ till ∷ [])) (header_of (unit, source)) (named "String");
}

label_of_desk : value_of files (numbered_member (key 0 1)) slots.Method ≡ Some (values.Method (base 7))
label_of_desk = ap (λ v. Some (values.Method ((ids_by v files).method_id (declaration 0 desk 1)))) seen

label_of_till : value_of files (numbered_member (key 1 0)) slots.Method ≡ Some (values.Method (base 7))
label_of_till = ap (λ v. Some (values.Method ((ids_by v files).method_id (declaration 1 till 0)))) seen

-- ---- `label()` in `Till.name`: the declaration of `Till` is the nearest, and its method is the one that `Desk` declares

abbrev in_name : Reader ℕ MemberKey
in_name = record { view = view; ids = ids_by view files; header = header_of (1, till); class = 1; params = []; in_constructor = false }

label_called : read_expr in_name no_locals (expr_at 0 (node.Call None (codes "label") [])) ≡ fine (exprs.Call (base 7) [])
label_called = expr-read in_name no_locals (expr_at 0 (node.Call None (codes "label") [])) _
    (reads-Call in_name 0 (codes "label") [] [] refl)
