-- What the indexes of members find in the nearest class is what the rules find.
use Rattle.std.proofs.Common.{◌≡◌, ℕ, zero, suc, ◌==◌, Bool, true, false, not, ◌&&◌, ◌||◌, List, length, Option, Some, None, option_map, find, refl, sym, ◌∙◌, ap, nat_cmp, bytes_eq}
use Rattle.std.specs.Ordering.{is_eq}
use Rattle.std.proofs.lemmas.List.{length-map}
use Rattle.std.proofs.lemmas.List.FromFn.{length-enumerate_from}
use Rattle.jav_names.specs.DottedNames.{Name}
use Rattle.jav_names.specs.LookUps.{way, ends_outside, nearest, found_or, field_from, is_constructor, is_method, method_from}
use Rattle.jav_names.specs.Members.{is_object_method}
use Rattle.jav_names.specs.UnitViews.{MemberKey, numbered, class_of}
use Rattle.jav_names.specs.Views.{ViewField, ViewDeclaration, View, AreOrdered, Found as Result, found, outside, not_found}
use Rattle.jav_names.proofs.UnitsOrdered.{classes_of-ordered}
use Rattle.jav_names.specs.index.Seeking.{is_sought}
use Rattle.jav_scope.specs.Answers.{answered, entry_ref, field_ref, declaration_ref, or_of_object}
use Rattle.jav_scope.specs.Climbs.{above, found_first, look_from, climb}
use Rattle.jav_scope.specs.Entries.{units_of, view_in}
use Rattle.jav_scope.specs.MemberLists.{field_entry, method_entry, AreIndexed, found_in}
use Rattle.jav_scope.specs.declared.found.Found.TheVariants as answer
use Rattle.jav_scope.specs.declared.members.Members.{Members}
use Rattle.jav_scope.specs.declared.source.SourceUnit.{SourceUnit}
use Rattle.jav_scope.proofs.Climbing.{climb-way}
use Rattle.jav_scope.proofs.Finding.{option_map-twice, found-made, found-filtered, sought-is}
use Rattle.jav_scope.proofs.MemberOwners.{FieldOwned, DeclarationOwned, fields-owned, declarations-owned, same-of_found}

-- ---- tests

swapped : (o n : Bool) → (o && n) ≡ (n && o)
swapped true true = refl
swapped true false = refl
swapped false true = refl
swapped false false = refl

turned : (k o a n : Bool) → (k && (o && (a && n))) ≡ ((k && (n && a)) && o)
turned false o a n = refl
turned true true true true = refl
turned true true true false = refl
turned true true false true = refl
turned true true false false = refl
turned true false true true = refl
turned true false true false = refl
turned true false false true = refl
turned true false false false = refl

field-sought : (class : ℕ) (name : Name) (field : ViewField ℕ MemberKey)
    → is_sought class 0 name (field_entry field) ≡ (bytes_eq field.name name && is_eq (nat_cmp field.owner class))
field-sought class name field = sought-is class 0 name (field_entry field)
    ∙ swapped (is_eq (nat_cmp field.owner class)) (bytes_eq field.name name)

method-sought : (class arity : ℕ) (name : Name) (declared : ViewDeclaration ℕ MemberKey)
    → (not (is_constructor declared.kind) && is_sought class arity name (method_entry declared))
    ≡ (is_method name arity declared && is_eq (nat_cmp declared.owner class))
method-sought class arity name declared =
    ap (λ b. not (is_constructor declared.kind) && b) (sought-is class arity name (method_entry declared))
    ∙ turned (not (is_constructor declared.kind)) (is_eq (nat_cmp declared.owner class)) (declared.arity == arity)
    (bytes_eq declared.name name)

-- ---- in the nearest class

-- where the same is found in each class, so it is in the nearest
module _ {C M X Y R : Type 0} (view : View C M) (here : C → Option X) (there : C → Option Y) (f : X → R) (g : Y → R)
    (same : (class : C) → option_map f (here class) ≡ option_map g (there class)) where
  climb-alike : (steps : ℕ) (class : C) → answered f (climb steps view here class) ≡ answered g (climb steps view there class)
  climb-alike zero class = refl
  climb-alike (suc steps) class = by_here (here class) (there class) (same class) (climb-alike steps) where
    by_above : ((next : C) → answered f (climb steps view here next) ≡ answered g (climb steps view there next)) → (up : Result C)
        → answered f (look_from up (climb steps view here)) ≡ answered g (look_from up (climb steps view there))
    by_above more (found next) = more next
    by_above more outside = refl
    by_above more not_found = refl

    by_here : (o : Option X) (p : Option Y) → option_map f o ≡ option_map g p
        → ((next : C) → answered f (climb steps view here next) ≡ answered g (climb steps view there next))
        → answered f (found_first o (look_from (above view class) (climb steps view here)))
        ≡ answered g (found_first p (look_from (above view class) (climb steps view there)))
    by_here (Some x) (Some y) is more = ap answer.Found (let alike : f x ≡ g y = cc in alike)
    by_here (Some x) None is more = absurd cc
    by_here None (Some y) is more = absurd cc
    by_here None None is more = by_above more (above view class)

pub object-or : {X R : Type 0} (g : X → R) (o : Option X) (a b : Bool) → or_of_object b (answered g (found_or o a))
    ≡ answered g (found_or o (a || b))
object-or g (Some x) a b = refl
object-or g None true b = refl
object-or g None false true = refl
object-or g None false false = refl

-- ---- what the indexes find

module _ (sources : List SourceUnit) (members : Members) (indexed : AreIndexed members (view_in sources)) where
  enough : suc (length sources) ≡ suc (length (view_in sources).classes.items)
  enough = ap suc (sym (
      length-map (numbered (units_of sources)) class_of ∙ length-enumerate_from 0 (units_of sources)
      ∙ length-map sources (λ (s : SourceUnit). s.unit)
      ))

  ordered : AreOrdered (view_in sources).classes
  ordered = classes_of-ordered (units_of sources)

  abbrev field_owner : ViewField ℕ MemberKey → ℕ
  field_owner field = field.owner

  abbrev is_field : Name → ViewField ℕ MemberKey → Bool
  is_field name field = bytes_eq field.name name

  abbrev declaration_owner : ViewDeclaration ℕ MemberKey → ℕ
  declaration_owner declared = declared.owner

  abbrev field_in_class : Name → ℕ → ViewField ℕ MemberKey → Bool
  field_in_class name class field = is_field name field && is_eq (nat_cmp field.owner class)

  abbrev method_in_class : Name → ℕ → ℕ → ViewDeclaration ℕ MemberKey → Bool
  method_in_class name arity class declared = is_method name arity declared && is_eq (nat_cmp declared.owner class)

  abbrev field_here : Name → ℕ → Option (ViewField ℕ MemberKey)
  field_here name class = find (field_in_class name class) (view_in sources).fields

  abbrev method_here : Name → ℕ → ℕ → Option (ViewDeclaration ℕ MemberKey)
  method_here name arity class = find (method_in_class name arity class) (view_in sources).declarations

  field-same : (name : Name) (class : ℕ) → option_map entry_ref (found_in members.fields 0 name class)
      ≡ option_map field_ref (field_here name class)
  field-same name class =
      ap (option_map entry_ref) (
      indexed.fields class 0 name
      ∙ found-made field_entry class 0 name (field_in_class name class) (field-sought class name) (view_in sources).fields
      )
      ∙ option_map-twice field_entry entry_ref (field_here name class)
      ∙ same-of_found FieldOwned (λ f. entry_ref (field_entry f)) field_ref
      (λ f owned. (λ i. record { unit = owned i; member = f.key.member })) (field_in_class name class) (view_in sources).fields
      (fields-owned (units_of sources))

  method-same : (name : Name) (arity class : ℕ)
      → option_map entry_ref (found_in members.methods arity name class) ≡ option_map declaration_ref (method_here name arity class)
  method-same name arity class =
      ap (option_map entry_ref) (
      indexed.methods class arity name
      ∙ found-filtered method_entry class arity name (λ declared. not (is_constructor declared.kind)) (method_in_class name arity class)
      (method-sought class arity name) (view_in sources).declarations
      )
      ∙ option_map-twice method_entry entry_ref (method_here name arity class)
      ∙ same-of_found DeclarationOwned (λ d. entry_ref (method_entry d)) declaration_ref
      (λ d owned. (λ i. record { unit = owned i; member = d.key.member })) (method_in_class name arity class) (view_in sources).declarations
      (declarations-owned (units_of sources))

  pub field-found : (class : ℕ) (name : Name)
      → answered entry_ref (climb (suc (length sources)) (view_in sources) (found_in members.fields 0 name) class)
      ≡ answered field_ref (field_from (view_in sources) class name)
  field-found class name =
      climb-alike (view_in sources) (found_in members.fields 0 name) (field_here name) entry_ref field_ref (field-same name)
      (suc (length sources)) class
      ∙ ap (λ n. answered field_ref (climb n (view_in sources) (field_here name) class)) enough
      ∙ ap (answered field_ref) (climb-way (view_in sources) ordered field_owner (is_field name) (view_in sources).fields class)

  pub method-found : (class : ℕ) (name : Name) (arity : ℕ)
      → or_of_object (is_object_method name arity)
      (answered entry_ref (climb (suc (length sources)) (view_in sources) (found_in members.methods arity name) class))
      ≡ answered declaration_ref (method_from (view_in sources) class name arity)
  method-found class name arity =
      ap (or_of_object (is_object_method name arity)) (
      climb-alike (view_in sources) (found_in members.methods arity name) (method_here name arity) entry_ref declaration_ref
      (method-same name arity)
      (suc (length sources)) class
      ∙ ap (λ n. answered declaration_ref (climb n (view_in sources) (method_here name arity) class)) enough
      ∙ ap (answered declaration_ref)
      (climb-way (view_in sources) ordered declaration_owner (is_method name arity) (view_in sources).declarations class)
      )
      ∙ object-or declaration_ref
      (nearest (view_in sources) declaration_owner (is_method name arity) (view_in sources).declarations (way (view_in sources) class))
      (ends_outside (view_in sources) class) (is_object_method name arity)
