-- Static types of worked expressions.
use Rattle.std.proofs.Common.{◌≡◌, ℕ, codes, refl}
use Rattle.jav_names.specs.OnValues.{StaticType, primitive_value, null_value, mixed_value, outside_value, class_value, array_value, unread_value}
use Rattle.jav_names.specs.StaticTypes.{of_type, of_literal, item, outside_field, outside_call, ReadsCommon}
use Rattle.jav_names.specs.UnitViews.{view_of}
use Rattle.jav_names.specs.Views.{ViewType, primitive_type, array_type, unread_type}
use Rattle.jav_names.proofs.ExampleFiles.{choice_read}
use Rattle.jav_names.proofs.ExampleReadings.{shop, last_extends, shop-seen}

-- ---- literals

null_is_null : of_literal {C = ℕ} (codes "null") ≡ null_value
null_is_null = refl

text_is_outside : of_literal {C = ℕ} (codes "\"null\"") ≡ outside_value
text_is_outside = refl

number_is_primitive : of_literal {C = ℕ} (codes "1") ≡ primitive_value
number_is_primitive = refl

character_is_primitive : of_literal {C = ℕ} (codes "'\"'") ≡ primitive_value
character_is_primitive = refl

-- ---- arrays: `a` is an `int[][]`

abbrev int_type : ViewType ℕ
int_type = primitive_type (codes "int")

abbrev int_arrays : StaticType ℕ
int_arrays = of_type (array_type (array_type int_type))

-- `a[0]` and `a[0][0]`
array_in_array : item int_arrays ≡ array_value int_type
array_in_array = refl

number_in_array : item (item int_arrays) ≡ primitive_value
number_in_array = refl

-- `a.length`, `a.clone()`, `a.clone()[0]` and `a.hashCode()`
length_of_array : outside_field int_arrays (codes "length") ≡ primitive_value
length_of_array = refl

clone_of_array : outside_call int_arrays (codes "clone") 0 ≡ int_arrays
clone_of_array = refl

item_of_clone : item (outside_call int_arrays (codes "clone") 0) ≡ array_value int_type
item_of_clone = refl

hash_of_array : outside_call int_arrays (codes "hashCode") 0 ≡ outside_value
hash_of_array = refl

-- an array has no other field; one that a program names all the same is outside
size_of_array : outside_field int_arrays (codes "size") ≡ outside_value
size_of_array = refl

-- `s.length` and `s[0]`, where `s` is outside
length_of_outside : outside_field {C = ℕ} outside_value (codes "length") ≡ outside_value
length_of_outside = refl

item_of_outside : item {C = ℕ} outside_value ≡ outside_value
item_of_outside = refl

-- a number has no items
item_of_number : item {C = ℕ} primitive_value ≡ mixed_value
item_of_number = refl

-- ---- choices, where `Till` (2) extends `Desk` (1), and `Cart` (0) extends nothing

abbrev Chosen : StaticType ℕ → StaticType ℕ → StaticType ℕ → Type 0
Chosen = ReadsCommon (view_of shop)

chosen_till : Chosen (class_value 2) (class_value 2) (class_value 2)
chosen_till = choice_read shop (last_extends shop) shop-seen (class_value 2) (class_value 2) _ refl

-- of a class and its ancestor the ancestor, whichever comes first
till_or_desk : Chosen (class_value 2) (class_value 1) (class_value 1)
till_or_desk = choice_read shop (last_extends shop) shop-seen (class_value 2) (class_value 1) _ refl

desk_or_till : Chosen (class_value 1) (class_value 2) (class_value 1)
desk_or_till = choice_read shop (last_extends shop) shop-seen (class_value 1) (class_value 2) _ refl

cart_or_desk : Chosen (class_value 0) (class_value 1) mixed_value
cart_or_desk = choice_read shop (last_extends shop) shop-seen (class_value 0) (class_value 1) _ refl

null_or_cart : Chosen null_value (class_value 0) (class_value 0)
null_or_cart = choice_read shop (last_extends shop) shop-seen null_value (class_value 0) _ refl

number_or_text : Chosen primitive_value outside_value mixed_value
number_or_text = choice_read shop (last_extends shop) shop-seen primitive_value outside_value _ refl

-- arrays of equal types are equal, and of others they are not
numbers_or_numbers : Chosen (array_value int_type) (array_value int_type) (array_value int_type)
numbers_or_numbers = choice_read shop (last_extends shop) shop-seen (array_value int_type) (array_value int_type) _ refl

numbers_or_truths : Chosen (array_value int_type) (array_value (primitive_type (codes "boolean"))) mixed_value
numbers_or_truths =
    choice_read shop (last_extends shop) shop-seen (array_value int_type) (array_value (primitive_type (codes "boolean"))) _ refl

-- a type that is not found equals nothing: of a choice nothing is known where a value or the items of one of two arrays are of it
unread_or_number : Chosen primitive_value unread_value unread_value
unread_or_number = choice_read shop (last_extends shop) shop-seen primitive_value unread_value _ refl

unread_arrays : Chosen (array_value unread_type) (array_value unread_type) unread_value
unread_arrays = choice_read shop (last_extends shop) shop-seen (array_value unread_type) (array_value unread_type) _ refl

numbers_or_unread : Chosen (array_value int_type) (array_value (array_type unread_type)) unread_value
numbers_or_unread = choice_read shop (last_extends shop) shop-seen (array_value int_type) (array_value (array_type unread_type)) _ refl

unread_array_or_number : Chosen (array_value unread_type) primitive_value mixed_value
unread_array_or_number = choice_read shop (last_extends shop) shop-seen (array_value unread_type) primitive_value _ refl
