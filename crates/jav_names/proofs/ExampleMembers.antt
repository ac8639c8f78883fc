-- Members beside those that they go before, and names that are no members.
use Rattle.std.proofs.Common.{◌≡◌, ℕ, true, false, List, [], ◌∷◌, Some, None, codes, refl, sym, ap, arith, subst}
use Prim.Native.String.{String}
use Rattle.jav_tree.specs.declared.types.TypeName.{TypeName}
use Rattle.jav_tree.specs.declared.unit.Unit.{Unit as Source}
use Rattle.jav_names.specs.Ancestors.{Extends, IsAncestor, Leads}
use Rattle.jav_names.specs.Members.{ReadsField, ReadsMethod, ReadsSuperMethod}
use Rattle.jav_names.specs.OnValues.{class_value, member, static_member, missing_member, not_indexed, ReadsMethodOn, ReadsIndexOn, ReadsStaticMethod}
use Rattle.jav_names.specs.TypeTexts.{type_in}
use Rattle.jav_names.specs.UnitViews.{MemberKey, class_of, classes_of, header_of, view_of}
use Rattle.jav_names.specs.Views.{class_type, DeclarationKind, instance_method, static_method, ViewDeclaration, View, IsOrdered, found, outside, not_found}
use Rattle.jav_names.proofs.AncestorsFound.{ancestors-never_itself}
use Rattle.jav_names.proofs.ExampleFiles.{int, named, field, method, file, with_superclasses, view-seen, reads, field_read, method_read, super_method_read, method_on_read, static_method_read}
use Rattle.jav_names.proofs.ExampleReadings.{cart, desk, till_with, shop, last_extends, third_extends, shop-seen, count_in, circle, two_extend, circle-seen}
use Rattle.jav_names.proofs.ReadMembers.{field-answered, method-answered}
use Rattle.jav_names.proofs.UnitsOrdered.{view_of_ordered}
use Rattle.jav_names.proofs.WrittenTypes.{type_in-Named}

-- a method of a file, the member of this number
abbrev method_in : List Source → ℕ × Source → ℕ → String → ℕ → DeclarationKind → TypeName → ViewDeclaration ℕ MemberKey
method_in units unit number name arity kind result = record {
  key = record { unit = unit.0; member = number };
  owner = unit.0;
  name = codes name;
  arity = arity;
  kind = kind;
  result = type_in (classes_of units) (header_of unit) result;
}

-- ---- on a value and through the name of a class: `Cart` has the static method `tax` and the method `total`

static_on_a_value : ReadsMethodOn (view_of shop) (codes "tax") 1 (class_value 0)
    (static_member (method_in shop (0, cart) 2 "tax" 1 static_method int))
static_on_a_value = method_on_read shop (last_extends shop) shop-seen (codes "tax") 1 (class_value 0) _ refl

method_on_a_value : ReadsMethodOn (view_of shop) (codes "total") 0 (class_value 0)
    (member (method_in shop (0, cart) 1 "total" 0 instance_method int))
method_on_a_value = method_on_read shop (last_extends shop) shop-seen (codes "total") 0 (class_value 0) _ refl

none_on_a_value : ReadsMethodOn (view_of shop) (codes "total") 1 (class_value 0) missing_member
none_on_a_value = method_on_read shop (last_extends shop) shop-seen (codes "total") 1 (class_value 0) _ refl

instance_through_a_class : ReadsStaticMethod (view_of shop) 0 (codes "total") 0 None
instance_through_a_class = static_method_read shop (last_extends shop) shop-seen 0 (codes "total") 0 _ refl

no_items_of_a_class : ReadsIndexOn {C = ℕ} (class_value 0) not_indexed
no_items_of_a_class = ReadsIndexOn.of_class

-- ---- `super.name(..)`, in `Till`, which extends `Desk`, and in `Desk`, which extends nothing

super_label : ReadsSuperMethod (view_of shop) 2 (codes "label") 0
    (found (method_in shop (1, desk) 1 "label" 0 instance_method (named "String")))
super_label = super_method_read shop (last_extends shop) shop-seen 2 (codes "label") 0 _ refl

-- the class's own method does not count
no_super_pay : ReadsSuperMethod (view_of shop) 2 (codes "pay") 1 not_found
no_super_pay = super_method_read shop (last_extends shop) shop-seen 2 (codes "pay") 1 _ refl

super_of_object : ReadsSuperMethod (view_of shop) 1 (codes "toString") 0 outside
super_of_object = super_method_read shop (last_extends shop) shop-seen 1 (codes "toString") 0 _ refl

no_super_label : ReadsSuperMethod (view_of shop) 1 (codes "label") 0 not_found
no_super_label = super_method_read shop (last_extends shop) shop-seen 1 (codes "label") 0 _ refl

-- ---- with a method `int label()` in `Till`, which goes before that of `Desk`

abbrev own_till : Source
own_till = till_with (method false int "label" [] ∷ [])

abbrev labelled : List Source
labelled = cart ∷ desk ∷ own_till ∷ []

labelled-seen : view_of labelled ≡ last_extends labelled
labelled-seen = view-seen labelled (third_extends (class_type 1))
    (ap third_extends (type_in-Named (classes_of labelled) (header_of (2, own_till)) (codes "Desk")))

own_label : ReadsMethod (view_of labelled) 2 (codes "label") 0 (found (method_in labelled (2, own_till) 1 "label" 0 instance_method int))
own_label = method_read labelled (last_extends labelled) labelled-seen 2 (codes "label") 0 _ refl

label_of_desk : ReadsMethod (view_of labelled) 1 (codes "label") 0
    (found (method_in labelled (1, desk) 1 "label" 0 instance_method (named "String")))
label_of_desk = method_read labelled (last_extends labelled) labelled-seen 1 (codes "label") 0 _ refl

-- ---- two of one name in one class: the first counts

abbrev twice : Source
twice = file "p" [] "W" None
    (field [] int "count" ∷ field [] (named "String") "count" ∷ method false int "total" [] ∷ method true int "total" [] ∷ [])

twice-seen : view_of (twice ∷ []) ≡ with_superclasses (twice ∷ []) (None ∷ [])
twice-seen = view-seen (twice ∷ []) (None ∷ []) refl

first_field : ReadsField (view_of (twice ∷ [])) 0 (codes "count") (found (count_in (twice ∷ []) (0, twice) 0))
first_field = field_read (twice ∷ []) (with_superclasses (twice ∷ []) (None ∷ [])) twice-seen 0 (codes "count") _ refl

first_method : ReadsMethod (view_of (twice ∷ [])) 0 (codes "total") 0
    (found (method_in (twice ∷ []) (0, twice) 2 "total" 0 instance_method int))
first_method = method_read (twice ∷ []) (with_superclasses (twice ∷ []) (None ∷ [])) twice-seen 0 (codes "total") 0 _ refl

-- ---- a class that is none of the view: 3, which extends `Desk`, and which `Cart` extends

abbrev with_gone : View ℕ MemberKey
with_gone = with_superclasses shop (Some (class_type 3) ∷ None ∷ None ∷ Some (class_type 1) ∷ [])

with_gone-ordered : IsOrdered with_gone
with_gone-ordered = record {
  classes = (view_of_ordered shop).classes;
  order = (view_of_ordered shop).order;
  fields = (view_of_ordered shop).fields;
  declarations = (view_of_ordered shop).declarations;
}

-- going up from `Cart` ends before it, and it is not outside
none_through_gone : ReadsMethod with_gone 0 (codes "label") 0 not_found
none_through_gone = reads (method-answered with_gone with_gone-ordered 0 (codes "label") 0) refl

-- from the class itself going up is as from any other
from_gone : ReadsField with_gone 3 (codes "count") (found (count_in shop (1, desk) 0))
from_gone = reads (field-answered with_gone with_gone-ordered 3 (codes "count")) refl

-- ---- superclasses in a circle: `k.A extends B`, `k.B extends A`

abbrev in_circle : View ℕ MemberKey
in_circle = with_superclasses circle (two_extend (class_type 1) (class_type 0))

-- the methods of `Object` are outside there too, and nothing else is
object_of_circle : ReadsMethod (view_of circle) 0 (codes "hashCode") 0 outside
object_of_circle = method_read circle in_circle circle-seen 0 (codes "hashCode") 0 _ refl

none_of_circle : ReadsMethod (view_of circle) 0 (codes "grow") 1 not_found
none_of_circle = method_read circle in_circle circle-seen 0 (codes "grow") 1 _ refl

-- going up from `A` leads back to it, and still it is no ancestor of itself
back_to_a : Leads (view_of circle) 0 0
back_to_a = subst (λ v. Leads v 0 0) (sym circle-seen) (Leads.step a_extends (Leads.last_step b_extends)) where
  a_extends : Extends in_circle 0 1
  a_extends = record {
    named = refl;
    stands = record { class = class_of (1, file "k" [] "B" (Some (named "A")) []); stands = (1, omega arith, refl); is = refl };
  }

  b_extends : Extends in_circle 1 0
  b_extends = record {
    named = refl;
    stands = record { class = class_of (0, file "k" [] "A" (Some (named "B")) []); stands = (0, omega arith, refl); is = refl };
  }

not_its_ancestor : ¬ IsAncestor (view_of circle) 0 0
not_its_ancestor = ancestors-never_itself (view_of circle) 0
