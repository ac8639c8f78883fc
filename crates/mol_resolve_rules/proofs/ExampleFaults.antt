-- Small sets of files with faults of whole files.
use Rattle.std.proofs.Common.{◌≡◌, ◌≢◌, ℕ, Bool, true, false, List, [], ◌∷◌, Option, Some, None, codes, refl, ap, arith, slice_index_or, inl, inr, subst}
use Rattle.jav_tree.specs.declared.types.TypeName.{TypeName}
use Rattle.jav_tree.specs.declared.types.TypeName.TheVariants as types
use Rattle.jav_tree.specs.declared.unit.Field.{Field}
use Rattle.jav_tree.specs.declared.unit.Member.{Member}
use Rattle.jav_tree.specs.declared.unit.Member.TheVariants as member
use Rattle.jav_tree.specs.declared.unit.Method.{Method}
use Rattle.jav_tree.specs.declared.unit.Param.{Param}
use Rattle.jav_tree.specs.declared.unit.Unit.{Unit as Source}
use Rattle.jav_tree.specs.Blocks.{block_of}
use Rattle.jav_names.specs.Ancestors.{IsAncestor}
use Rattle.jav_names.specs.DottedNames.{Name}
use Rattle.jav_names.specs.StaticTypes.{SameType, same_primitive}
use Rattle.jav_names.specs.UnitViews.{classes_of, header_of}
use Rattle.jav_names.specs.Views.{ViewType, primitive_type, class_type, unread_type}
use Rattle.jav_names.proofs.ExampleFiles.{int, named, param, with_superclasses, view-seen, way_read}
use Rattle.jav_names.proofs.WrittenTypes.{type_in-Prim, type_in-Named}
use Rattle.mol_resolve_rules.specs.FaultKinds.{path_differs, duplicate_class, package_is_class, import_clash, duplicate_member, overload_by_type, result_differs, static_hidden}
use Rattle.mol_resolve_rules.specs.Files.{File, Files, units, files_view, type_of_file}
use Rattle.mol_resolve_rules.specs.MemberFaults.{Row, row_of, AreInOrder, AreDuplicates, AreOverloads, by_duplicate, by_types, by_result, by_static}
use Rattle.mol_resolve_rules.specs.ResolveFaults.{Fails, by_path, by_class, by_package, by_import, between_members}
use Rattle.mol_resolve_rules.proofs.ExampleShop.{file_at}

-- two texts that differ in the byte at a place
apart_at : (place : ℕ) (first second : Name) → slice_index_or first place 0 ≢ slice_index_or second place 0 → first ≢ second
apart_at place first second differ is = differ (ap (λ (text : Name). slice_index_or text place 0) is)

-- ---- classes

abbrev empty_class : (in_package name : Name) → List Name → Source
empty_class in_package name imports = record {
  head = [];
  «package» = in_package;
  imports = imports;
  class = record { front = []; words = []; name = name; parent = None; members = []; tail = [] };
}

abbrev cart : Source
cart = empty_class (codes "shop") (codes "Cart") []

-- `shop.Cart` at `shop/Desk.java`
misplaced : Fails (file_at "shop/Desk.java" cart ∷ []) path_differs 0 0
misplaced = by_path (record {
  file = file_at "shop/Desk.java" cart;
  stands = refl;
  differs = apart_at 5 _ _ (λ is. omega (arith, is));
})

-- two files of the class `shop.Cart`
twice : Fails (file_at "shop/Cart.java" cart ∷ file_at "shop/Desk.java" cart ∷ []) duplicate_class 1 0
twice = by_class (record {
  file = file_at "shop/Desk.java" cart;
  other = file_at "shop/Cart.java" cart;
  second = 0;
  apart = λ is. omega (arith, is);
  stands = refl;
  other_stands = refl;
  same = refl;
})

-- a class `a.b`, and one of the package `a.b.c`
package_in_class : Fails (file_at "a/b.java" (empty_class (codes "a") (codes "b") [])
    ∷ file_at "a/b/c/D.java" (empty_class (codes "a.b.c") (codes "D") []) ∷ []) package_is_class 0 0
package_in_class = by_package (record {
  file = file_at "a/b.java" (empty_class (codes "a") (codes "b") []);
  other = file_at "a/b/c/D.java" (empty_class (codes "a.b.c") (codes "D") []);
  stands = refl;
  other_stands = (1, omega arith, refl);
  inside = inr (record { rest = codes "c"; is = refl });
})

-- `import q.Cart;` in the file of `shop.Cart`
abbrev importing : Source
importing = empty_class (codes "shop") (codes "Cart") (codes "q.Cart" ∷ [])

own_name_imported : Fails (file_at "shop/Cart.java" importing ∷ []) import_clash 0 0
own_name_imported = by_import (record {
  file = file_at "shop/Cart.java" importing;
  stands = refl;
  import = codes "q.Cart";
  other = codes "shop.Cart";
  imported = (0, omega arith, refl);
  known = inl refl;
  apart = apart_at 0 _ _ (λ is. omega (arith, is));
  same = refl;
})

-- ---- members

abbrev field_at : ℕ → Field
field_at at = record { front = []; at = at; words = []; ty = int; name = codes "count"; init = None }

abbrev method_of : ℕ → Bool → TypeName → List Param → Method
method_of at is_static result params = record {
  front = [];
  at = at;
  words = [];
  is_static = is_static;
  result = result;
  name = codes "label";
  params = params;
  block = Some (block_of [] []);
}

abbrev method_at : ℕ → Bool → TypeName → Method
method_at at is_static result = method_of at is_static result []

abbrev long : TypeName
long = types.Prim (codes "long")

abbrev class_with : Name → Option TypeName → List Member → Source
class_with name parent members = record {
  head = [];
  «package» = codes "shop";
  imports = [];
  class = record { front = []; words = []; name = name; parent = parent; members = members; tail = [] };
}

-- two fields `int count`: the fault is at the second
abbrev two_fields : File
two_fields = file_at "shop/Cart.java" (class_with (codes "Cart") None (member.Field (field_at 20) ∷ member.Field (field_at 40) ∷ []))

fields_of_a_name : Fails (two_fields ∷ []) duplicate_member 0 40
fields_of_a_name = between_members {first = row_of (type_of_file (two_fields ∷ []) (0, two_fields)) 0 (0, member.Field (field_at 20))}
    {second = row_of (type_of_file (two_fields ∷ []) (0, two_fields)) 0 (1, member.Field (field_at 40))} (0, omega arith, refl)
    (1, omega arith, refl)
    (by_duplicate (AreDuplicates.fields (record { one_class = refl; ordered = omega arith })
    (record { first_is = refl; second_is = refl; named = refl })))

-- ---- two methods `label` in one class

-- the file of `Cart` with these methods
abbrev with_methods : Method → Method → File
with_methods first second = file_at "shop/Cart.java" (class_with (codes "Cart") None (member.Method first ∷ member.Method second ∷ []))

module _ (first second : Method) where
  abbrev only_file : Files
  only_file = with_methods first second ∷ []

  abbrev first_row : Row ℕ
  first_row = row_of (type_of_file only_file (0, with_methods first second)) 0 (0, member.Method first)

  abbrev second_row : Row ℕ
  second_row = row_of (type_of_file only_file (0, with_methods first second)) 0 (1, member.Method second)

  in_order : AreInOrder first_row second_row
  in_order = record { one_class = refl; ordered = omega arith }

-- two primitive types of different names
one_primitive : (first second : Name) → SameType {C = ℕ} (primitive_type first) (primitive_type second) → first ≡ second
one_primitive first second same_primitive = refl

int_or_long : (files : Files) (file : ℕ × File) → ¬ SameType (type_of_file files file int) (type_of_file files file long)
int_or_long files (number, file) same = apart_at 0 (codes "int") (codes "long") (λ is. omega (arith, is))
    (one_primitive (codes "int") (codes "long")
    (subst (λ (type : ViewType ℕ). SameType (primitive_type (codes "int")) type)
    (type_in-Prim (classes_of (units files)) (header_of (number, file.unit)) (codes "long"))
    (subst (λ (type : ViewType ℕ). SameType type (type_of_file files (number, file) long))
    (type_in-Prim (classes_of (units files)) (header_of (number, file.unit)) (codes "int")) same)))

-- `int label()` and `long label()`
results_differ : Fails (with_methods (method_at 20 false int) (method_at 40 false long) ∷ []) result_differs 0 40
results_differ =
    let first = method_at 20 false int in
    let second = method_at 40 false long in
    between_members {first = first_row first second} {second = second_row first second} (0, omega arith, refl) (1, omega arith, refl)
    (by_result (record {
      related = record {
        alike = record { first_is = refl; second_is = refl; named = refl };
        as_many = refl;
        placed = inl (in_order first second);
      };
      differ = int_or_long (only_file first second) (0, with_methods first second);
    }))

-- `int label(int n)` and `int label(long n)`: a call of `label` with one argument could mean either
types_differ : Fails (with_methods (method_of 20 false int (param int "n" ∷ [])) (method_of 40 false int (param long "n" ∷ [])) ∷ [])
    overload_by_type 0 40
types_differ =
    let first = method_of 20 false int (param int "n" ∷ []) in
    let second = method_of 40 false int (param long "n" ∷ []) in
    between_members {first = first_row first second} {second = second_row first second} (0, omega arith, refl) (1, omega arith, refl)
    (by_types (AreOverloads.methods
    (record { alike = record { first_is = refl; second_is = refl; named = refl }; as_many = refl; placed = inl (in_order first second) })
    (record { as_many = refl; differ = λ equal. int_or_long (only_file first second) (0, with_methods first second) equal.0 })))

-- `int label(Cart.X n)` twice, where `Cart` has no `X`: a type that is not found equals no type, so that these are overloads and no
-- duplicates, and that fault comes before those of the names
never_same : (type : ViewType ℕ) → ¬ SameType unread_type type
never_same type same = elim same [ ]

abbrev unread_name : TypeName
unread_name = types.Named (codes "Cart.X")

abbrev of_unread : ℕ → Method
of_unread at = method_of at false int (param unread_name "n" ∷ [])

abbrev twice_unread : Files
twice_unread = only_file (of_unread 20) (of_unread 40)

reads-unread : type_of_file twice_unread (0, with_methods (of_unread 20) (of_unread 40)) unread_name ≡ unread_type
reads-unread = type_in-Named (classes_of (units twice_unread)) (header_of (0, (with_methods (of_unread 20) (of_unread 40)).unit))
    (codes "Cart.X")

same_headers : Fails twice_unread overload_by_type 0 40
same_headers =
    between_members {first = first_row (of_unread 20) (of_unread 40)} {second = second_row (of_unread 20) (of_unread 40)}
    (0, omega arith, refl) (1, omega arith, refl)
    (by_types (AreOverloads.methods
    (record {
      alike = record { first_is = refl; second_is = refl; named = refl };
      as_many = refl;
      placed = inl (in_order (of_unread 20) (of_unread 40));
    })
    (record {
      as_many = refl;
      differ = λ equal. never_same (type_of_file twice_unread (0, with_methods (of_unread 20) (of_unread 40)) unread_name)
          (subst (λ (type : ViewType ℕ). SameType type
          (type_of_file twice_unread (0, with_methods (of_unread 20) (of_unread 40)) unread_name))
          reads-unread equal.0);
    })))

-- ---- `static int label()` in `Desk`, and `int label()` in `Till`, which extends `Desk`

abbrev desk : Source
desk = class_with (codes "Desk") None (member.Method (method_at 20 true int) ∷ [])

abbrev till : Source
till = class_with (codes "Till") (Some (named "Desk")) (member.Method (method_at 60 false int) ∷ [])

abbrev hidden : Files
hidden = file_at "shop/Desk.java" desk ∷ file_at "shop/Till.java" till ∷ []

abbrev second_extends : ViewType ℕ → List (Option (ViewType ℕ))
second_extends type = None ∷ Some type ∷ []

hidden-seen : files_view hidden ≡ with_superclasses (desk ∷ till ∷ []) (second_extends (class_type 0))
hidden-seen = view-seen (desk ∷ till ∷ []) (second_extends (class_type 0))
    (ap second_extends (type_in-Named (classes_of (desk ∷ till ∷ [])) (header_of (1, till)) (codes "Desk")))

desk_above : IsAncestor (files_view hidden) 1 0
desk_above = record {
  ancestors = 0 ∷ [];
  way = way_read (desk ∷ till ∷ []) (with_superclasses (desk ∷ till ∷ []) (second_extends (class_type 0))) hidden-seen 1 (1 ∷ 0 ∷ []) refl;
  met = (0, omega arith, refl);
}

abbrev static_label : Row ℕ
static_label = row_of (type_of_file hidden (0, file_at "shop/Desk.java" desk)) 0 (0, member.Method (method_at 20 true int))

abbrev own_label : Row ℕ
own_label = row_of (type_of_file hidden (1, file_at "shop/Till.java" till)) 1 (0, member.Method (method_at 60 false int))

static_method_hidden : Fails hidden static_hidden 1 60
static_method_hidden = between_members {first = static_label} {second = own_label} (0, omega arith, refl) (1, omega arith, refl)
    (by_static (record {
      related = record {
        alike = record { first_is = refl; second_is = refl; named = refl };
        as_many = refl;
        placed = inr desk_above;
      };
      above = desk_above;
      static = inl refl;
    }))
