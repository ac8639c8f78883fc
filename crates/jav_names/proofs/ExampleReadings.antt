-- What names read as in three small files, as they are and after changes.
use Rattle.std.proofs.Common.{◌≡◌, ℕ, true, false, List, [], ◌∷◌, Option, Some, None, codes, refl, ap}
use Prim.Native.String.{String}
use Rattle.jav_tree.specs.declared.types.TypeName.TheVariants as types
use Rattle.jav_tree.specs.declared.unit.Member.{Member}
use Rattle.jav_tree.specs.declared.unit.Unit.{Unit as Source}
use Rattle.jav_names.specs.DottedNames.{Names}
use Rattle.jav_names.specs.Ancestors.{Way}
use Rattle.jav_names.specs.Leftmost.{leftmost_variable, leftmost_class, leftmost_outside, ReadsLeftmost}
use Rattle.jav_names.specs.Members.{ReadsMethod}
use Rattle.jav_names.specs.OnValues.{primitive_value, has_no_members, ReadsOn, ReadsFieldOn, ReadsStaticMethod}
use Rattle.jav_names.specs.TypeTexts.{type_in}
use Rattle.jav_names.specs.Types.{class_read, written, ReadsType}
use Rattle.jav_names.specs.UnitViews.{MemberKey, classes_of, header_of, view_of, place_in}
use Rattle.jav_names.specs.Variables.{Place, local_variable, parameter_variable, field_variable, ReadsVariable}
use Rattle.jav_names.specs.Views.{ViewType, class_type, ViewField, static_method, View, found, not_found}
use Rattle.jav_names.proofs.ExampleFiles.{int, named, param, field, method, file, with_superclasses, view-seen, variable_read, leftmost_read, method_read, static_method_read, way_read, type_read}
use Rattle.jav_names.proofs.WrittenTypes.{type_in-Named}

-- ---- the files

abbrev cart_named : String → Source
cart_named name = file "shop" [] name None
    (field ("private" ∷ []) int "count" ∷ method false int "total" [] ∷ method true int "tax" (param int "amount" ∷ [])
    ∷ method false types.Void "add" (param int "amount" ∷ param int "times" ∷ []) ∷ [])

abbrev pub cart : Source
cart = cart_named "Cart"

abbrev pub desk : Source
desk = file "shop" [] "Desk" None (field ("protected" ∷ []) int "count" ∷ method false (named "String") "label" [] ∷ [])

abbrev pub till_with : List Member → Source
till_with more = file "shop" [] "Till" (Some (named "Desk")) (method false int "pay" (param (named "Cart") "cart" ∷ []) ∷ more)

abbrev pub till : Source
till = till_with []

abbrev pub shop : List Source
shop = cart ∷ desk ∷ till ∷ []

-- of three files the last extends the class of the second
abbrev pub last_extends : List Source → View ℕ MemberKey
last_extends units = with_superclasses units (None ∷ None ∷ Some (class_type 1) ∷ [])

abbrev pub third_extends : ViewType ℕ → List (Option (ViewType ℕ))
third_extends type = None ∷ None ∷ Some type ∷ []

pub shop-seen : view_of shop ≡ last_extends shop
shop-seen =
    view-seen shop (third_extends (class_type 1)) (ap third_extends (type_in-Named (classes_of shop) (header_of (2, till)) (codes "Desk")))

-- a field `int count` of a file
abbrev pub count_in : List Source → ℕ × Source → ℕ → ViewField ℕ MemberKey
count_in units unit number = record {
  key = record { unit = unit.0; member = number };
  owner = unit.0;
  name = codes "count";
  is_static = false;
  type = type_in (classes_of units) (header_of unit) int;
}

-- in `Till.pay`
abbrev in_pay : Place ℕ
in_pay = place_in (2, till) [] (codes "cart" ∷ [])

-- ---- as they are

-- `count` in `Cart.total` is the field of the class itself, and `amount` in `Cart.tax` the parameter.
count_of_cart : ReadsVariable (view_of shop) (place_in (0, cart) [] []) (codes "count") (found (field_variable (count_in shop (0, cart) 0)))
count_of_cart = variable_read shop (last_extends shop) shop-seen (place_in (0, cart) [] []) (codes "count") _ refl

amount_of_tax : ReadsVariable (view_of shop) (place_in (0, cart) [] (codes "amount" ∷ [])) (codes "amount") (found (parameter_variable 0))
amount_of_tax = variable_read shop (last_extends shop) shop-seen (place_in (0, cart) [] (codes "amount" ∷ [])) (codes "amount") _ refl

-- The type of the parameter of `Till.pay` is the class of the package, and the result of `Desk.label` is outside.
cart_class : ReadsType (classes_of shop) (header_of (2, till)) (codes "Cart") [] (class_read 0)
cart_class = type_read shop (header_of (2, till)) (codes "Cart") [] _ refl

string_outside : ReadsType (classes_of shop) (header_of (1, desk)) (codes "String") [] (written (codes "String"))
string_outside = type_read shop (header_of (1, desk)) (codes "String") [] _ refl

-- `return count;` in `Till.pay` is the field of `Desk`, which `Till` extends.
count_of_desk : ReadsVariable (view_of shop) in_pay (codes "count") (found (field_variable (count_in shop (1, desk) 0)))
count_of_desk = variable_read shop (last_extends shop) shop-seen in_pay (codes "count") _ refl

-- `return tax(1);` in `Till.pay` is no method: neither `Till` nor `Desk` has one.
no_tax : ReadsMethod (view_of shop) 2 (codes "tax") 1 not_found
no_tax = method_read shop (last_extends shop) shop-seen 2 (codes "tax") 1 _ refl

-- `Math.abs(1)` in `Till.pay`: nothing is named `Math`, so it is outside.
math_outside : ReadsLeftmost (view_of shop) in_pay (codes "Math") [] leftmost_outside
math_outside = leftmost_read shop (last_extends shop) shop-seen in_pay (codes "Math") [] _ refl

-- ---- with a field `int count` in `Till`

abbrev counted : List Source
counted = cart ∷ desk ∷ till_with (field [] int "count" ∷ []) ∷ []

counted-seen : view_of counted ≡ last_extends counted
counted-seen = view-seen counted (third_extends (class_type 1))
    (ap third_extends (type_in-Named (classes_of counted) (header_of (2, till_with (field [] int "count" ∷ []))) (codes "Desk")))

-- then `return count;` in `Till.pay` is that field, which is nearer
count_of_till : ReadsVariable (view_of counted) in_pay (codes "count")
    (found (field_variable (count_in counted (2, till_with (field [] int "count" ∷ [])) 1)))
count_of_till = variable_read counted (last_extends counted) counted-seen in_pay (codes "count") _ refl

-- ---- with `Cart` renamed to `Math`

abbrev renamed : List Source
renamed = cart_named "Math" ∷ desk ∷ till ∷ []

renamed-seen : view_of renamed ≡ last_extends renamed
renamed-seen = view-seen renamed (third_extends (class_type 1))
    (ap third_extends (type_in-Named (classes_of renamed) (header_of (2, till)) (codes "Desk")))

-- then `Math.abs(1)` in `Till.pay` goes to that class
math_class : ReadsLeftmost (view_of renamed) in_pay (codes "Math") [] (leftmost_class 0 1)
math_class = leftmost_read renamed (last_extends renamed) renamed-seen in_pay (codes "Math") [] _ refl

-- ---- with `tax` moved to `Desk`, and `int Desk = 1;` at the head of `Cart.total`

abbrev moved_cart : Source
moved_cart = file "shop" [] "Cart" None
    (field ("private" ∷ []) int "count" ∷ method false int "total" [] ∷ method false types.Void "add"
    (param int "amount" ∷ param int "times" ∷ []) ∷ [])

abbrev moved_desk : Source
moved_desk = file "shop" [] "Desk" None
    (method true int "tax" (param int "amount" ∷ []) ∷ field ("protected" ∷ []) int "count" ∷ method false (named "String") "label" [] ∷ [])

abbrev moved : List Source
moved = moved_cart ∷ moved_desk ∷ till ∷ []

moved-seen : view_of moved ≡ last_extends moved
moved-seen =
    view-seen moved (third_extends (class_type 1))
    (ap third_extends (type_in-Named (classes_of moved) (header_of (2, till)) (codes "Desk")))

abbrev in_total : Place ℕ
in_total = place_in (0, moved_cart) (codes "Desk" ∷ []) []

-- `tax(Desk)` is no method of `Cart`
tax_gone : ReadsMethod (view_of moved) 0 (codes "tax") 1 not_found
tax_gone = method_read moved (last_extends moved) moved-seen 0 (codes "tax") 1 _ refl

-- in `Desk.tax(Desk)` the local goes before the class, as it does where it stands alone
desk_local : ReadsLeftmost (view_of moved) in_total (codes "Desk") [] (leftmost_variable (local_variable 0))
desk_local = leftmost_read moved (last_extends moved) moved-seen in_total (codes "Desk") [] _ refl

desk_alone : ReadsVariable (view_of moved) in_total (codes "Desk") (found (local_variable 0))
desk_alone = variable_read moved (last_extends moved) moved-seen in_total (codes "Desk") _ refl

-- in `shop.Desk.tax(Desk)` two names spell the class, and the method is found through it
desk_in_full : ReadsLeftmost (view_of moved) in_total (codes "shop") (codes "Desk" ∷ []) (leftmost_class 1 2)
desk_in_full = leftmost_read moved (last_extends moved) moved-seen in_total (codes "shop") (codes "Desk" ∷ []) _ refl

tax_of_desk : ReadsStaticMethod (view_of moved) 1 (codes "tax") 1 (Some (record {
  key = record { unit = 1; member = 0 };
  owner = 1;
  name = codes "tax";
  arity = 1;
  kind = static_method;
  result = type_in (classes_of moved) (header_of (1, moved_desk)) int;
}))
tax_of_desk = static_method_read moved (last_extends moved) moved-seen 1 (codes "tax") 1 _ refl

-- ---- a name that is a class and a package: `a.X`, `b.X`, and `p.U` with `import a.X;` and a method `f(int a)`

abbrev two_of_a_name : List Source
two_of_a_name = file "a" [] "X" None (method true types.Void "m" [] ∷ []) ∷ file "b" [] "X" None (method true types.Void "m" [] ∷ [])
    ∷ file "p" ("a.X" ∷ []) "U" None (method false types.Void "f" (param int "a" ∷ []) ∷ []) ∷ []

abbrev none_extends : List Source → View ℕ MemberKey
none_extends units = with_superclasses units (None ∷ None ∷ None ∷ [])

two-seen : view_of two_of_a_name ≡ none_extends two_of_a_name
two-seen = view-seen two_of_a_name (None ∷ None ∷ None ∷ []) refl

-- in the method, in the file as it is and in the file without its import, with these parameters
abbrev in_f : Names → Place ℕ
in_f params = place_in (2, file "p" ("a.X" ∷ []) "U" None []) [] params

abbrev in_f_in_full : Names → Place ℕ
in_f_in_full params = place_in (2, file "p" [] "U" None []) [] params

-- `X` in `X.m()` is the imported class, and in `b.X.m()` two names spell the other one.
x_imported : ReadsLeftmost (view_of two_of_a_name) (in_f (codes "a" ∷ [])) (codes "X") [] (leftmost_class 0 1)
x_imported = leftmost_read two_of_a_name (none_extends two_of_a_name) two-seen (in_f (codes "a" ∷ [])) (codes "X") [] _ refl

x_of_b : ReadsLeftmost (view_of two_of_a_name) (in_f (codes "a" ∷ [])) (codes "b") (codes "X" ∷ []) (leftmost_class 1 2)
x_of_b = leftmost_read two_of_a_name (none_extends two_of_a_name) two-seen (in_f (codes "a" ∷ [])) (codes "b") (codes "X" ∷ []) _ refl

-- Spelled in full, `a.X.m()` would name the class ..
a_package : ReadsLeftmost (view_of two_of_a_name) (in_f_in_full []) (codes "a") (codes "X" ∷ []) (leftmost_class 0 2)
a_package = leftmost_read two_of_a_name (none_extends two_of_a_name) two-seen (in_f_in_full []) (codes "a") (codes "X" ∷ []) _ refl

-- .. but for the parameter of that name, which goes first, and has no members.
a_param : ReadsLeftmost (view_of two_of_a_name) (in_f_in_full (codes "a" ∷ [])) (codes "a") (codes "X" ∷ [])
    (leftmost_variable (parameter_variable 0))
a_param =
    leftmost_read two_of_a_name (none_extends two_of_a_name) two-seen (in_f_in_full (codes "a" ∷ [])) (codes "a") (codes "X" ∷ []) _ refl

x_of_int : ReadsFieldOn (view_of two_of_a_name) (codes "X") primitive_value has_no_members
x_of_int = ReadsOn.of_primitive

-- ---- superclasses in a circle: `k.A extends B`, `k.B extends A`

abbrev pub circle : List Source
circle = file "k" [] "A" (Some (named "B")) [] ∷ file "k" [] "B" (Some (named "A")) [] ∷ []

abbrev pub two_extend : ViewType ℕ → ViewType ℕ → List (Option (ViewType ℕ))
two_extend first second = Some first ∷ Some second ∷ []

pub circle-seen : view_of circle ≡ with_superclasses circle (two_extend (class_type 1) (class_type 0))
circle-seen = view-seen circle (two_extend (class_type 1) (class_type 0)) (λ i. two_extend (a_extends i) (b_extends i)) where
  a_extends : type_in (classes_of circle) (header_of (0, file "k" [] "A" (Some (named "B")) [])) (named "B") ≡ class_type 1
  a_extends = type_in-Named (classes_of circle) (header_of (0, file "k" [] "A" (Some (named "B")) [])) (codes "B")

  b_extends : type_in (classes_of circle) (header_of (1, file "k" [] "B" (Some (named "A")) [])) (named "A") ≡ class_type 0
  b_extends = type_in-Named (classes_of circle) (header_of (1, file "k" [] "B" (Some (named "A")) [])) (codes "A")

-- The way up stops where a class was met.
way_round : Way (view_of circle) 0 (0 ∷ 1 ∷ [])
way_round = way_read circle (with_superclasses circle (two_extend (class_type 1) (class_type 0))) circle-seen 0 (0 ∷ 1 ∷ []) refl
