-- Static types in which nothing is unread.
use Rattle.std.proofs.Common.{◌≡◌, ℕ, zero, suc, ◌==◌, Bool, true, false, ◌&&◌, Option, Some, None, option_map, codes, if◌then◌else◌, refl, sym, ◌∙◌, ap, subst, true≢false}
use Rattle.std.specs.Str.{bytes_eq}
use Rattle.mol_base.specs.Operators.{is_step}
use Rattle.jav_tree.specs.declared.types.TypeName.{TypeName}
use Rattle.jav_tree.specs.declared.types.TypeName.TheFolds.{fold-roll-TypeName, ind-TypeName, map-TypeName}
use Rattle.jav_tree.specs.declared.types.TypeName.TheOpen.{TypeName-F}
use Rattle.jav_tree.specs.declared.types.TypeName.TheViews.{roll-TypeName}
use Rattle.jav_names.specs.DottedNames.{Name, cut}
use Rattle.jav_names.specs.LookUps.{is_ancestor, type_named}
use Rattle.jav_names.specs.OnValues.{StaticType, primitive_value, null_value, void_value, mixed_value, outside_value, class_value, array_value, unread_value}
use Rattle.jav_names.specs.StaticTypes.{of_type, of_literal, opens_string, is_unread, are_unread, same_value, common_apart, common, item, outside_field, outside_call}
use Rattle.jav_names.specs.Types.{TypeReading, class_read, imported, written, no_type}
use Rattle.jav_names.specs.TypeTexts as texts
use Rattle.jav_names.specs.TypeTexts.{type_of}
use Rattle.jav_names.specs.Views.{ViewType, primitive_type, void_type, class_type, outside_type, array_type, unread_type, View}
use Rattle.mol_resolve_rules.specs.Readers.{Reader}
use Rattle.mol_resolve_rules.specs.ReadTrees.{arrays, unary_type, binary_type}
use Rattle.mol_resolve_rules.specs.ReadTypes as reading
use Rattle.mol_resolve_rules.specs.ReadTypes.{ReadType, named_tree, type_tree, seen_type, type_or_fault, read_type}
use Rattle.mol_values_types.specs.declared.itype.IType.{IType}
use Rattle.mol_resolve_rules.proofs.Whole.{IsWhole, whole-fine, whole-refused}

-- ---- types as written

-- A type that has a tree is read.
module _ {C M : Type 0} (reader : Reader C M) where
  abbrev IsKnown : TypeName → Type 0
  IsKnown type = (tree : IType) → type_tree reader type ≡ Some tree → is_unread (seen_type reader type) ≡ false

  named-known : (r : TypeReading C) (tree : IType) → named_tree reader r ≡ Some tree → is_unread (type_of r) ≡ false
  named-known (class_read class) tree is = refl
  named-known (imported import rest) tree is = refl
  named-known (written text) tree is = refl
  named-known no_type tree is = absurd cc

  from : (x : TypeName-F TypeName)
      → ((tree : IType) → reading.type_step reader (map-TypeName _ _ (type_tree reader) x) ≡ Some tree
      → is_unread (texts.type_step reader.view.classes reader.header (map-TypeName _ _ (seen_type reader) x)) ≡ false)
      → IsKnown (roll-TypeName x)
  from x known tree is =
      ap is_unread (fold-roll-TypeName (ViewType C) (texts.type_step reader.view.classes reader.header) x)
      ∙ known tree (sym (fold-roll-TypeName (Option IType) (reading.type_step reader) x) ∙ is)

  mapped-some : (o : Option IType) (make : IType → IType) (tree : IType) → option_map make o ≡ Some tree → (t : IType) × (o ≡ Some t)
  mapped-some None make tree is = absurd cc
  mapped-some (Some t) make tree is = (t, refl)

  layer : (y : TypeName-F ((type : TypeName) × IsKnown type)) → IsKnown (roll-TypeName (map-TypeName _ _ (λ p. p.0) y))
  layer (TypeName-F.Prim name) = from (TypeName-F.Prim name) (λ tree is. refl)
  layer (TypeName-F.Named name) = from (TypeName-F.Named name)
      (λ tree is. named-known (type_named reader.view.classes reader.header (cut name).first (cut name).rest) tree is)
  layer (TypeName-F.ArrayOf item) = from (TypeName-F.ArrayOf item.0)
      (λ tree is. let inner = mapped-some (type_tree reader item.0) _ tree is in item.1 inner.0 inner.1)
  layer TypeName-F.Void = from TypeName-F.Void (λ tree is. refl)

  pub tree-known : (type : TypeName) (tree : IType) → type_tree reader type ≡ Some tree → is_unread (seen_type reader type) ≡ false
  tree-known = ind-TypeName IsKnown (λ x y is. subst (λ z. IsKnown (roll-TypeName z)) is (layer y))

  -- what a type reads as: it is as it is seen, and known
  pub record IsRead (type : TypeName) (read : ReadType C) : Type 0 where
    pub seen : read.type ≡ seen_type reader type
    pub known : is_unread (seen_type reader type) ≡ false

  pub type-whole : (at : ℕ) (type : TypeName) → IsWhole (IsRead type) (read_type reader at type)
  type-whole at type = by (type_tree reader type) refl where
    by : (o : Option IType) → type_tree reader type ≡ o → IsWhole (IsRead type) (type_or_fault reader at o (seen_type reader type))
    by None is = whole-refused (IsRead type) _ at
    by (Some tree) is = whole-fine (IsRead type) (record { tree = tree; type = seen_type reader type })
        (record { seen = refl; known = tree-known type tree is })

-- ---- static types

-- whether something in it is unread
abbrev pub has_unread : {C : Type 0} → StaticType C → Bool
has_unread unread_value = true
has_unread (array_value type) = is_unread type
has_unread type = false

module _ {C : Type 0} where
  pub known-of_type : (type : ViewType C) → is_unread type ≡ false → has_unread (of_type type) ≡ false
  known-of_type (primitive_type name) known = refl
  known-of_type void_type known = refl
  known-of_type (class_type class) known = refl
  known-of_type (outside_type text) known = refl
  known-of_type (array_type item) known = known
  known-of_type unread_type known = absurd (true≢false known)

  pub known-arrays : (count : ℕ) (type : ViewType C) → is_unread type ≡ false → is_unread (arrays count type) ≡ false
  known-arrays zero type known = known
  known-arrays (suc count) type known = known-arrays count type known

  known-if : (b : Bool) (first second : StaticType C) → has_unread first ≡ false → has_unread second ≡ false
      → has_unread (if b then first else second) ≡ false
  known-if true first second known other = known
  known-if false first second known other = other

  pub known-unary : (op : Name) (type : StaticType C) → has_unread type ≡ false → has_unread (unary_type op type) ≡ false
  known-unary op type known = known-if (is_step op) type primitive_value known refl

  pub known-item : (type : StaticType C) → has_unread type ≡ false → has_unread (item type) ≡ false
  known-item (array_value type) known = known-of_type type known
  known-item outside_value known = refl
  known-item unread_value known = absurd (true≢false known)
  known-item (class_value class) known = refl
  known-item primitive_value known = refl
  known-item null_value known = refl
  known-item void_value known = refl
  known-item mixed_value known = refl

  pub known-outside_field : (type : StaticType C) (name : Name) → has_unread (outside_field type name) ≡ false
  known-outside_field (array_value type) name = known-if (bytes_eq name (codes "length")) primitive_value outside_value refl refl
  known-outside_field outside_value name = refl
  known-outside_field unread_value name = refl
  known-outside_field (class_value class) name = refl
  known-outside_field primitive_value name = refl
  known-outside_field null_value name = refl
  known-outside_field void_value name = refl
  known-outside_field mixed_value name = refl

  pub known-outside_call : (type : StaticType C) (name : Name) (arity : ℕ) → has_unread type ≡ false
      → has_unread (outside_call type name arity) ≡ false
  known-outside_call (array_value type) name arity known =
      known-if (bytes_eq name (codes "clone") && arity == 0) (array_value type) outside_value known refl
  known-outside_call outside_value name arity known = refl
  known-outside_call unread_value name arity known = refl
  known-outside_call (class_value class) name arity known = refl
  known-outside_call primitive_value name arity known = refl
  known-outside_call null_value name arity known = refl
  known-outside_call void_value name arity known = refl
  known-outside_call mixed_value name arity known = refl

  both-known : (first second : StaticType C) → has_unread first ≡ false → has_unread second ≡ false → are_unread first second ≡ false
  both-known unread_value second known other = absurd (true≢false known)
  both-known first unread_value known other = absurd (true≢false other)
  both-known (array_value first) (array_value second) known other = rw (known, other) refl
  both-known first second known other = refl

pub known-of_literal : (C : Type 0) (text : Name) → has_unread (of_literal {C = C} text) ≡ false
known-of_literal C text = known-if {C = C} (bytes_eq text (codes "null")) null_value
    (if opens_string text then outside_value else primitive_value) refl
    (known-if {C = C} (opens_string text) outside_value primitive_value refl refl)

pub known-binary : (C : Type 0) (op : Name) → has_unread (binary_type {C = C} op) ≡ false
known-binary C op = known-if {C = C} (bytes_eq op (codes "+")) outside_value primitive_value refl refl

module _ {C M : Type 0} (view : View C M) where
  known-apart : (first second : StaticType C) → has_unread first ≡ false → has_unread second ≡ false
      → has_unread (common_apart view first second) ≡ false
  known-apart null_value second known other = other
  known-apart first null_value known other = known
  known-apart (class_value first) (class_value second) known other =
      known-if (is_ancestor view second first) (class_value first)
      (if is_ancestor view first second then class_value second else mixed_value)
      refl (known-if (is_ancestor view first second) (class_value second) mixed_value refl refl)
  known-apart first second known other = refl

  pub known-common : (first second : StaticType C) → has_unread first ≡ false → has_unread second ≡ false
      → has_unread (common view first second) ≡ false
  known-common first second known other =
      known-if (same_value view.classes.cmp first second) first
      (if are_unread first second then unread_value else common_apart view first second)
      known (rw (both-known first second known other) (known-apart first second known other))
