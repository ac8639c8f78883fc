-- Readers that are alike read types alike.
use Rattle.std.proofs.Common.{◌≡◌, ℕ, Bool, true, false, cond, List, [], ◌∷◌, Option, Some, None, option_map, find, codes, refl, sym, ◌∙◌, ap, subst}
use Prim.Native.String.{String}
use Rattle.std.specs.List.{AllByRecursion}
use Rattle.std.specs.Str.{bytes_eq}
use Rattle.mol_base.specs.declared.ident.Id.{Id}
use Rattle.jav_tree.specs.declared.types.TypeName.{TypeName}
use Rattle.jav_tree.specs.declared.types.TypeName.TheFolds.{fold-roll-TypeName, ind-TypeName, map-TypeName}
use Rattle.jav_tree.specs.declared.types.TypeName.TheOpen.{TypeName-F}
use Rattle.jav_tree.specs.declared.types.TypeName.TheViews.{roll-TypeName}
use Rattle.jav_names.specs.Ancestors.{HasClass}
use Rattle.jav_names.specs.DottedNames.{Name, cut}
use Rattle.jav_names.specs.LookUps.{type_named}
use Rattle.jav_names.specs.Types.{Header, TypeReading, class_read, imported, written, no_type}
use Rattle.jav_names.specs.TypeTexts as texts
use Rattle.jav_names.specs.TypeTexts.{type_of}
use Rattle.jav_names.specs.Views.{ViewType, class_type}
use Rattle.jav_names_laws.specs.Keys.{Keys, type_as, reading_as}
use Rattle.mol_resolve_keys.specs.Alike.{ReadersAlike}
use Rattle.mol_resolve_rules.specs.FaultKinds.{unknown_member}
use Rattle.mol_resolve_rules.specs.Readers.{Reader}
use Rattle.mol_resolve_rules.specs.ReadTypes as reading
use Rattle.mol_resolve_rules.specs.ReadTypes.{ReadType, primitive_types, named_tree, type_tree, seen_type, type_or_fault, read_type}
use Rattle.mol_values_types.specs.Renamed.{rename_type}
use Rattle.mol_values_types.specs.declared.itype.IType.{IType}
use Rattle.mol_values_types.specs.declared.itype.IType.TheVariants as types
use Rattle.mol_resolve_keys.proofs.FoundStands.{ClassReads, type-stands}
use Rattle.mol_resolve_keys.proofs.OutcomesAlike.{OutcomesAlike, alike-fine, alike-refused}
use Rattle.mol_resolve_keys.proofs.RenamedTrees.{renamed-Boolean, renamed-Byte, renamed-Short, renamed-Char, renamed-Int, renamed-Long, renamed-Void, renamed-Class, renamed-Imported, renamed-Written, renamed-Array}

module _ {C M D N : Type 0} (keys : Keys C M D N) (name : Id → Id) (first : Reader C M) (second : Reader D N)
    (alike : ReadersAlike keys name first second) where
  -- ---- types as rules on names look at them

  type_of-alike : (r : TypeReading C) → type_as keys.class (type_of r) ≡ type_of (reading_as keys.class r)
  type_of-alike (class_read class) = refl
  type_of-alike (imported import rest) = refl
  type_of-alike (written text) = refl
  type_of-alike no_type = refl

  -- the name of a type reads alike
  named-alike : (text : Name) → reading_as keys.class (type_named first.view.classes first.header (cut text).first (cut text).rest)
      ≡ type_named second.view.classes second.header (cut text).first (cut text).rest
  named-alike text = alike.looks.types first.header (cut text).first (cut text).rest
      ∙ ap (λ (header : Header D). type_named second.view.classes header (cut text).first (cut text).rest) alike.header

  abbrev SeenAlike : TypeName → Type 0
  SeenAlike type = type_as keys.class (seen_type first type) ≡ seen_type second type

  seen-from : (x : TypeName-F TypeName)
      → type_as keys.class (texts.type_step first.view.classes first.header (map-TypeName _ _ (seen_type first) x))
      ≡ texts.type_step second.view.classes second.header (map-TypeName _ _ (seen_type second) x)
      → SeenAlike (roll-TypeName x)
  seen-from x same =
      ap (type_as keys.class) (fold-roll-TypeName (ViewType C) (texts.type_step first.view.classes first.header) x) ∙ same
      ∙ sym (fold-roll-TypeName (ViewType D) (texts.type_step second.view.classes second.header) x)

  seen-layer : (y : TypeName-F ((type : TypeName) × SeenAlike type)) → SeenAlike (roll-TypeName (map-TypeName _ _ (λ p. p.0) y))
  seen-layer (TypeName-F.Prim text) = seen-from (TypeName-F.Prim text) refl
  seen-layer (TypeName-F.Named text) = seen-from (TypeName-F.Named text)
      (type_of-alike (type_named first.view.classes first.header (cut text).first (cut text).rest) ∙ ap type_of (named-alike text))
  seen-layer (TypeName-F.ArrayOf item) = seen-from (TypeName-F.ArrayOf item.0) (ap (λ (t : ViewType D). ViewType.array_type t) item.1)
  seen-layer TypeName-F.Void = seen-from TypeName-F.Void refl

  pub seen-alike : (type : TypeName) → type_as keys.class (seen_type first type) ≡ seen_type second type
  seen-alike = ind-TypeName SeenAlike (λ x y is. subst (λ z. SeenAlike (roll-TypeName z)) is (seen-layer y))

  -- ---- types as a program keeps them

  abbrev Kept : String × IType → Type 0
  Kept primitive = rename_type name primitive.1 ≡ primitive.1

  primitives-kept : AllByRecursion Kept primitive_types
  primitives-kept = (
    renamed-Boolean name,
    (
      renamed-Byte name,
      (
        renamed-Short name,
        (
          renamed-Char name,
          (
            renamed-Int name,
            (renamed-Long name, tt),
          ),
        ),
      ),
    ),
  )

  found-kept : (passes : String × IType → Bool) (all : List (String × IType)) → AllByRecursion Kept all
      → option_map (λ (p : String × IType). p.1) (find passes all)
      ≡ option_map (rename_type name) (option_map (λ (p : String × IType). p.1) (find passes all))
  found-kept passes [] kept = refl
  found-kept passes (p ∷ all) kept = by_test (passes p) (found-kept passes all kept.1) where
    by_test : (b : Bool)
        → option_map (λ (p : String × IType). p.1) (find passes all)
        ≡ option_map (rename_type name) (option_map (λ (p : String × IType). p.1) (find passes all))
        → option_map (λ (p : String × IType). p.1) (cond b (Some p) (find passes all))
        ≡ option_map (rename_type name) (option_map (λ (p : String × IType). p.1) (cond b (Some p) (find passes all)))
    by_test true more = ap (λ (t : IType). Some t) (sym kept.0)
    by_test false more = more

  named_tree-alike : (r : TypeReading C) → ClassReads (HasClass first.view.classes) r
      → named_tree first r ≡ option_map (rename_type name) (named_tree second (reading_as keys.class r))
  named_tree-alike (class_read class) stands = ap (λ (t : IType). Some t)
      (ap (λ (id : Id). types.Class id) (alike.ids.classes class stands) ∙ sym
      (renamed-Class name (second.ids.class_id (keys.class class))))
  named_tree-alike (imported import rest) stands = ap (λ (t : IType). Some t) (sym (renamed-Imported name import rest))
  named_tree-alike (written text) stands = ap (λ (t : IType). Some t) (sym (renamed-Written name text))
  named_tree-alike no_type stands = refl

  abbrev TreeAlike : TypeName → Type 0
  TreeAlike type = type_tree first type ≡ option_map (rename_type name) (type_tree second type)

  tree-from : (x : TypeName-F TypeName) → reading.type_step first (map-TypeName _ _ (type_tree first) x)
      ≡ option_map (rename_type name) (reading.type_step second (map-TypeName _ _ (type_tree second) x)) → TreeAlike (roll-TypeName x)
  tree-from x same = fold-roll-TypeName (Option IType) (reading.type_step first) x ∙ same
      ∙ ap (option_map (rename_type name)) (sym (fold-roll-TypeName (Option IType) (reading.type_step second) x))

  array-alike : (t : Option IType) → option_map (λ tree. types.Array tree) (option_map (rename_type name) t)
      ≡ option_map (rename_type name) (option_map (λ tree. types.Array tree) t)
  array-alike None = refl
  array-alike (Some tree) = ap (λ (t : IType). Some t) (sym (renamed-Array name tree))

  tree-layer : (y : TypeName-F ((type : TypeName) × TreeAlike type)) → TreeAlike (roll-TypeName (map-TypeName _ _ (λ p. p.0) y))
  tree-layer (TypeName-F.Prim text) = tree-from (TypeName-F.Prim text)
      (found-kept (λ (primitive : String × IType). bytes_eq (codes primitive.0) text) primitive_types primitives-kept)
  tree-layer (TypeName-F.Named text) = tree-from (TypeName-F.Named text)
      (named_tree-alike (type_named first.view.classes first.header (cut text).first (cut text).rest)
      (type-stands first.view.classes first.header alike.ordered.classes alike.own (cut text).first (cut text).rest)
      ∙ ap (λ r. option_map (rename_type name) (named_tree second r)) (named-alike text))
  tree-layer (TypeName-F.ArrayOf item) = tree-from (TypeName-F.ArrayOf item.0)
      (ap (option_map (λ tree. types.Array tree)) item.1 ∙ array-alike (type_tree second item.0))
  tree-layer TypeName-F.Void = tree-from TypeName-F.Void (ap (λ (t : IType). Some t) (sym (renamed-Void name)))

  pub tree-alike : (type : TypeName) → type_tree first type ≡ option_map (rename_type name) (type_tree second type)
  tree-alike = ind-TypeName TreeAlike (λ x y is. subst (λ z. TreeAlike (roll-TypeName z)) is (tree-layer y))

  -- ---- a class that a type is

  abbrev ClassStands : ViewType C → Type 0
  ClassStands type = (class : C) → type ≡ class_type class → HasClass first.view.classes class

  read-stands : (r : TypeReading C) → ClassReads (HasClass first.view.classes) r → ClassStands (type_of r)
  read-stands (class_read read) stands class is = let same : read ≡ class = cc in subst (HasClass first.view.classes) same stands
  read-stands (imported import rest) stands class is = absurd cc
  read-stands (written text) stands class is = absurd cc
  read-stands no_type stands class is = absurd cc

  stands-from : (x : TypeName-F TypeName)
      → ClassStands (texts.type_step first.view.classes first.header (map-TypeName _ _ (seen_type first) x))
      → ClassStands (seen_type first (roll-TypeName x))
  stands-from x stands class is =
      stands class (sym (fold-roll-TypeName (ViewType C) (texts.type_step first.view.classes first.header) x) ∙ is)

  stands-layer : (y : TypeName-F ((type : TypeName) × ClassStands (seen_type first type)))
      → ClassStands (seen_type first (roll-TypeName (map-TypeName _ _ (λ p. p.0) y)))
  stands-layer (TypeName-F.Prim text) = stands-from (TypeName-F.Prim text) (λ class is. absurd cc)
  stands-layer (TypeName-F.Named text) = stands-from (TypeName-F.Named text)
      (read-stands (type_named first.view.classes first.header (cut text).first (cut text).rest)
      (type-stands first.view.classes first.header alike.ordered.classes alike.own (cut text).first (cut text).rest))
  stands-layer (TypeName-F.ArrayOf item) = stands-from (TypeName-F.ArrayOf item.0) (λ class is. absurd cc)
  stands-layer TypeName-F.Void = stands-from TypeName-F.Void (λ class is. absurd cc)

  seen-stands : (type : TypeName) → ClassStands (seen_type first type)
  seen-stands = ind-TypeName (λ type. ClassStands (seen_type first type))
      (λ x y is. subst (λ z. ClassStands (seen_type first (roll-TypeName z))) is (stands-layer y))

  -- ---- types as they are read

  pub record TypesAlike (read : ReadType C) (other : ReadType D) : Type 0 where
    pub tree : read.tree ≡ rename_type name other.tree
    pub type : type_as keys.class read.type ≡ other.type
    pub stands : (class : C) → read.type ≡ class_type class → HasClass first.view.classes class

  type-by : (at : ℕ) (type : ViewType C) (seen : ViewType D) → type_as keys.class type ≡ seen → ClassStands type
      → (tree : Option IType) (other : Option IType) → tree ≡ option_map (rename_type name) other
      → OutcomesAlike TypesAlike (type_or_fault first at tree type) (type_or_fault second at other seen)
  type-by at type seen same stands None None is = alike-refused TypesAlike unknown_member at
  type-by at type seen same stands None (Some other) is = absurd cc
  type-by at type seen same stands (Some tree) None is = absurd cc
  type-by at type seen same stands (Some tree) (Some other) is =
      alike-fine TypesAlike _ _ (record { tree = cc; type = same; stands = stands })

  pub type-alike : (at : ℕ) (type : TypeName) → OutcomesAlike TypesAlike (read_type first at type) (read_type second at type)
  type-alike at type = type-by at (seen_type first type) (seen_type second type) (seen-alike type) (seen-stands type)
      (type_tree first type) (type_tree second type) (tree-alike type)
