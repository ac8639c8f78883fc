-- What types read as has the form of what is written, and mentions classes of the view.
use Rattle.std.proofs.Common.{◌≡◌, ◌⊎◌, inl, inr, ℕ, suc, Bool, true, false, ◌&&◌, ◌||◌, List, [], ◌∷◌, Option, Some, None, option_map, find, cond, Contains, codes, refl, sym, ◌∙◌, ap, subst, true≢false, arith}
use Rattle.std.proofs.lemmas.Bool.{and_from, or_right}
use Prim.Native.String.{String}
use Rattle.std.specs.List.{list_all, AllByRecursion}
use Rattle.std.specs.Str.{bytes_eq}
use Rattle.mol_base.specs.declared.ident.Id.{Id}
use Rattle.jav_tree.specs.PrintableExpressions.{TypeUses, type_uses_step, type_uses}
use Rattle.jav_tree.specs.TokenTexts.{is_dotted_name}
use Rattle.jav_tree.specs.Widths.{type_width_step, type_width}
use Rattle.jav_tree.specs.declared.types.TypeName.{TypeName}
use Rattle.jav_tree.specs.declared.types.TypeName.TheFolds.{fold-roll-TypeName, ind-TypeName, map-TypeName}
use Rattle.jav_tree.specs.declared.types.TypeName.TheOpen.{TypeName-F}
use Rattle.jav_tree.specs.declared.types.TypeName.TheViews.{roll-TypeName}
use Rattle.jav_names.proofs.FoundNames.{types_stand}
use Rattle.jav_names.proofs.NamesAnswered.{types_answered}
use Rattle.jav_names.specs.Ancestors.{HasClass}
use Rattle.jav_names.specs.DottedNames.{Name, Names, joined, cut}
use Rattle.jav_names.specs.LookUps.{type_named}
use Rattle.jav_names.specs.Types.{Header, TypeReading, class_read, imported, written, no_type, ReadsSimple, ReadsType}
use Rattle.jav_names.specs.TypeTexts as texts
use Rattle.jav_names.specs.TypeTexts.{type_of}
use Rattle.jav_names.specs.Views.{ViewType, class_type, array_type, primitive_type, void_type, Classes}
use Rattle.jav_names.proofs.CutNames.{names_cut}
use Rattle.mol_resolve_rules.proofs.FilesStand.{some-same}
use Rattle.mol_resolve_rules.proofs.Stands.{in_place}
use Rattle.mol_resolve_rules.specs.FaultKinds.{unknown_member}
use Rattle.mol_resolve_rules.specs.Readers.{Reader}
use Rattle.mol_resolve_rules.specs.ReadTypes as reading
use Rattle.mol_resolve_rules.specs.ReadTypes.{ReadType, primitive_types, primitive_tree, named_tree, type_tree, seen_type, type_or_fault, read_type}
use Rattle.mol_table_rules.specs.Mentions as mentions
use Rattle.mol_table_rules.specs.Mentions.{Mention, a_class, type_mentions}
use Rattle.mol_values_types.specs.TokenForms.{is_dotted, is_empty}
use Rattle.mol_table_rules.specs.TypeForms.{named_step, dimensions_step, dimensions, void_step, is_void, array_step, is_array, outside_step, class_step}
use Rattle.mol_values_types.specs.declared.itype.IType.{IType, fold-IType}
use Rattle.mol_values_types.specs.declared.itype.IType.TheFolds.{fold-roll-IType}
use Rattle.mol_values_types.specs.declared.itype.IType.TheOpen.{IType-F}
use Rattle.mol_values_types.specs.declared.itype.IType.TheVariants as types
use Rattle.mol_values_types.specs.declared.itype.IType.TheViews.{roll-IType}
use Rattle.mol_resolve_laws.proofs.DottedTexts.{dotted-rest}
use Rattle.mol_resolve_laws.proofs.Gives.{Gives, gives-fine, gives-refused}
use Rattle.mol_resolve_laws.proofs.Right.{Passes, ReadsRightly, passes-named}

abbrev pub is_named : IType → Bool
is_named = fold-IType Bool named_step

abbrev pub is_outside : IType → Bool
is_outside = fold-IType Bool outside_step

abbrev pub is_own : IType → Bool
is_own = fold-IType Bool class_step

-- What is written so, and seen so, reads as this.
pub record TypeRight {C : Type 0} (test : Mention → Bool) (uses : TypeUses) (width : ℕ) (seen : ViewType C) (tree : IType) : Type 0 where
  pub wide : dimensions tree ≡ width
  pub type : uses.is_type ≡ true → is_named tree ≡ true
  pub base : uses.is_base ≡ true → (is_named tree ≡ true) × (is_array tree ≡ false) × (dimensions tree ≡ 0)
  pub array : uses.is_array ≡ true → (is_named tree ≡ true) × (is_array tree ≡ true)
  pub result : uses.is_result ≡ true → (is_void tree ≡ true) ⊎ (is_named tree ≡ true)
  pub class : uses.is_class ≡ true → (is_named tree ≡ true) × (dimensions tree ≡ 0)
      × ((is_outside tree ≡ true) ⊎ ((is_own tree ≡ true) × ((class : C) × (seen ≡ class_type class))))
  pub mentions : Passes test (type_mentions tree)

-- ---- names

module _ {C : Type 0} (classes : Classes C) (header : Header C) where
  simple-import : (name import more : Name) → ReadsSimple classes header name (imported import more)
      → Contains header.imports import × (more ≡ [])
  simple-import name import more (ReadsSimple.import_outside {place = place} first none) =
      (in_place header.imports place import first.here, refl)

  -- an import, and nothing more or the names that follow the first
  type-import : (first : Name) (rest : Names) (import more : Name) → ReadsType classes header first rest (imported import more)
      → Contains header.imports import
      × ((more ≡ []) ⊎ ((next : Name) × ((others : Names) × (rest ≡ next ∷ others) × (more ≡ joined next others))))
  type-import first rest import more (ReadsType.simple reads) =
      let simple = simple-import first import more reads in (simple.0, inl simple.1)
  type-import first rest import more (ReadsType.in_import {next = next} {rest = others} reads) =
      ((simple-import first import [] reads).0, inr (next, (others, refl, refl)))

  simple-written : (name text : Name) → ReadsSimple classes header name (written text) → text ≡ name
  simple-written name text (ReadsSimple.as_written no_import not_own none) = refl

  -- what is outside as it is written is all that is written
  type-written : (first : Name) (rest : Names) (text : Name) → ReadsType classes header first rest (written text)
      → text ≡ joined first rest
  type-written first rest text (ReadsType.simple reads) = simple-written first text reads
  type-written first rest text (ReadsType.whole_written reads none) = refl

-- ---- primitive types

record Primitive (tree : IType) : Type 0 where
  width : dimensions tree ≡ 0
  type : is_named tree ≡ true
  array : is_array tree ≡ false
  mentions : type_mentions tree ≡ []

-- P holds of what is found among what it holds of
found-holds : {X : Type 0} (P : X → Type 0) (p : X → Bool) (xs : List X) → AllByRecursion P xs → (y : X) → find p xs ≡ Some y → P y
found-holds P p [] all y is = absurd cc
found-holds P p (x ∷ xs) all y is = by (p x) is (found-holds P p xs all.1 y) where
  by : (b : Bool) → cond b (Some x) (find p xs) ≡ Some y → (find p xs ≡ Some y → P y) → P y
  by true is more = subst P (some-same is) all.0
  by false is more = more is

boolean-is : Primitive types.Boolean
boolean-is = subst Primitive types.rolls-Boolean (record {
  width = fold-roll-IType ℕ dimensions_step IType-F.Boolean;
  type = fold-roll-IType Bool named_step IType-F.Boolean;
  array = fold-roll-IType Bool array_step IType-F.Boolean;
  mentions = fold-roll-IType (List Mention) mentions.type_step IType-F.Boolean;
})

byte-is : Primitive types.Byte
byte-is = subst Primitive types.rolls-Byte (record {
  width = fold-roll-IType ℕ dimensions_step IType-F.Byte;
  type = fold-roll-IType Bool named_step IType-F.Byte;
  array = fold-roll-IType Bool array_step IType-F.Byte;
  mentions = fold-roll-IType (List Mention) mentions.type_step IType-F.Byte;
})

short-is : Primitive types.Short
short-is = subst Primitive types.rolls-Short (record {
  width = fold-roll-IType ℕ dimensions_step IType-F.Short;
  type = fold-roll-IType Bool named_step IType-F.Short;
  array = fold-roll-IType Bool array_step IType-F.Short;
  mentions = fold-roll-IType (List Mention) mentions.type_step IType-F.Short;
})

char-is : Primitive types.Char
char-is = subst Primitive types.rolls-Char (record {
  width = fold-roll-IType ℕ dimensions_step IType-F.Char;
  type = fold-roll-IType Bool named_step IType-F.Char;
  array = fold-roll-IType Bool array_step IType-F.Char;
  mentions = fold-roll-IType (List Mention) mentions.type_step IType-F.Char;
})

int-is : Primitive types.Int
int-is = subst Primitive types.rolls-Int (record {
  width = fold-roll-IType ℕ dimensions_step IType-F.Int;
  type = fold-roll-IType Bool named_step IType-F.Int;
  array = fold-roll-IType Bool array_step IType-F.Int;
  mentions = fold-roll-IType (List Mention) mentions.type_step IType-F.Int;
})

long-is : Primitive types.Long
long-is = subst Primitive types.rolls-Long (record {
  width = fold-roll-IType ℕ dimensions_step IType-F.Long;
  type = fold-roll-IType Bool named_step IType-F.Long;
  array = fold-roll-IType Bool array_step IType-F.Long;
  mentions = fold-roll-IType (List Mention) mentions.type_step IType-F.Long;
})

abbrev PrimitivePair : String × IType → Type 0
PrimitivePair pair = Primitive pair.1

primitive-is : (name : Name) (tree : IType) → primitive_tree name ≡ Some tree → Primitive tree
primitive-is name tree is = by (find test primitive_types) refl is where
  test : String × IType → Bool
  test pair = bytes_eq (codes pair.0) name

  found : (pair : String × IType) → find test primitive_types ≡ Some pair → PrimitivePair pair
  found pair is = found-holds PrimitivePair test primitive_types
      (boolean-is, (byte-is, (short-is, (char-is, (int-is, (long-is, tt)))))) pair is

  by : (o : Option (String × IType)) → find test primitive_types ≡ o → option_map (λ (pair : String × IType). pair.1) o ≡ Some tree
      → Primitive tree
  by None found-none is = absurd cc
  by (Some pair) some is = subst Primitive (some-same is) (found pair some)

-- ---- all types

module _ {C M : Type 0} (test : Mention → Bool) (reader : Reader C M) (right : ReadsRightly test reader) where
  abbrev Right : TypeUses → ℕ → ViewType C → IType → Type 0
  Right = TypeRight {C = C} test

  abbrev uses_named : Name → TypeUses
  uses_named text = type_uses_step (TypeName-F.Named text)

  named : (text : Name) → is_dotted_name text ≡ true → is_dotted text ≡ true
  named text is = is

  -- a class of the view
  class-right : (text : Name) (class : C) → HasClass reader.view.classes class
      → Right (uses_named text) 0 (class_type class) (types.Class (reader.ids.class_id class))
  class-right text class has = subst (Right (uses_named text) 0 (class_type class)) (types.rolls-Class id) (record {
    wide = fold-roll-IType ℕ dimensions_step (IType-F.Class id);
    type = λ is. is_type;
    base = λ is. (is_type, fold-roll-IType Bool array_step (IType-F.Class id), fold-roll-IType ℕ dimensions_step (IType-F.Class id));
    array = λ is. absurd (true≢false (sym is));
    result = λ is. inr is_type;
    class = λ is. (
      is_type,
      fold-roll-IType ℕ dimensions_step (IType-F.Class id),
      inr
          (fold-roll-IType Bool class_step (IType-F.Class id), (class, refl)),
    );
    mentions = ap (list_all test) (fold-roll-IType (List Mention) mentions.type_step (IType-F.Class id))
        ∙ passes-named test a_class id (right.classes class has);
  }) where
    id : Id
    id = reader.ids.class_id class

    is_type : is_named (roll-IType (IType-F.Class id)) ≡ true
    is_type = fold-roll-IType Bool named_step (IType-F.Class id)

  import-right : (text import more : Name) → (is_dotted_name text ≡ true → (is_dotted import && (is_empty more || is_dotted more)) ≡ true)
      → Right (uses_named text) 0 (type_of (imported import more)) (types.Imported import more)
  import-right text import more dotted =
      subst (Right (uses_named text) 0 (type_of (imported import more))) (types.rolls-Imported import more) (record {
        wide = fold-roll-IType ℕ dimensions_step (IType-F.Imported import more);
        type = is_type;
        base = λ is. (
          is_type is,
          fold-roll-IType Bool array_step (IType-F.Imported import more),
          fold-roll-IType ℕ dimensions_step (IType-F.Imported import more),
        );
        array = λ is. absurd (true≢false (sym is));
        result = λ is. inr (is_type is);
        class = λ is. (
          is_type is,
          fold-roll-IType ℕ dimensions_step (IType-F.Imported import more),
          inl
              (fold-roll-IType Bool outside_step (IType-F.Imported import more)),
        );
        mentions = ap (list_all test) (fold-roll-IType (List Mention) mentions.type_step (IType-F.Imported import more));
      }) where
        is_type : is_dotted_name text ≡ true → is_named (roll-IType (IType-F.Imported import more)) ≡ true
        is_type is = fold-roll-IType Bool named_step (IType-F.Imported import more) ∙ dotted is

  written-right : (text : Name) → Right (uses_named text) 0 (type_of (written text)) (types.Written text)
  written-right text = subst (Right (uses_named text) 0 (type_of (written text))) (types.rolls-Written text) (record {
    wide = fold-roll-IType ℕ dimensions_step (IType-F.Written text);
    type = is_type;
    base = λ is. (
      is_type is,
      fold-roll-IType Bool array_step (IType-F.Written text),
      fold-roll-IType ℕ dimensions_step (IType-F.Written text),
    );
    array = λ is. absurd (true≢false (sym is));
    result = λ is. inr (is_type is);
    class = λ is. (
      is_type is,
      fold-roll-IType ℕ dimensions_step (IType-F.Written text),
      inl
          (fold-roll-IType Bool outside_step (IType-F.Written text)),
    );
    mentions = ap (list_all test) (fold-roll-IType (List Mention) mentions.type_step (IType-F.Written text));
  }) where
    is_type : is_dotted_name text ≡ true → is_named (roll-IType (IType-F.Written text)) ≡ true
    is_type is = fold-roll-IType Bool named_step (IType-F.Written text) ∙ named text is

  abbrev read_as : Name → TypeReading C
  read_as text = type_named reader.view.classes reader.header (cut text).first (cut text).rest

  reads-as : (text : Name) (r : TypeReading C) → read_as text ≡ r
      → ReadsType reader.view.classes reader.header (cut text).first (cut text).rest r
  reads-as text r is = subst (ReadsType reader.view.classes reader.header (cut text).first (cut text).rest) is
      ((types_answered C).types reader.view.classes reader.header (cut text).first (cut text).rest right.ordered.classes).holds

  import-dotted : (text import more : Name) → read_as text ≡ imported import more → is_dotted_name text ≡ true
      → (is_dotted import && (is_empty more || is_dotted more)) ≡ true
  import-dotted text import more is dotted =
      let found = type-import reader.view.classes reader.header (cut text).first (cut text).rest import more
      (reads-as text (imported import more) is) in
      and_from (is_dotted import) (is_empty more || is_dotted more) (right.imports import found.0) (follows found.1) where
        follows : (more ≡ []) ⊎ ((next : Name) × ((others : Names) × ((cut text).rest ≡ next ∷ others) × (more ≡ joined next others)))
            → (is_empty more || is_dotted more) ≡ true
        follows (inl none) = ap (λ (m : Name). is_empty m || is_dotted m) none
        follows (inr after) = or_right (is_empty more) (is_dotted more)
            (ap is_dotted after.1.2 ∙ dotted-rest text after.0 after.1.0 (named text dotted) after.1.1)

  reading-right : (text : Name) (r : TypeReading C) → read_as text ≡ r → (tree : IType) → named_tree reader r ≡ Some tree
      → Right (uses_named text) 0 (type_of r) tree
  reading-right text (class_read class) is tree made = subst (Right (uses_named text) 0 (class_type class)) (some-same made)
      (class-right text class ((types_stand C).types reader.view.classes reader.header (cut text).first (cut text).rest class
      right.own (reads-as text (class_read class) is)))
  reading-right text (imported import more) is tree made = subst (Right (uses_named text) 0 (type_of (imported import more)))
      (some-same made)
      (import-right text import more (import-dotted text import more is))
  reading-right text (written other) is tree made =
      let same : other ≡ text = type-written reader.view.classes reader.header (cut text).first (cut text).rest other
      (reads-as text (written other) is) ∙ names_cut.whole text in
      subst (Right (uses_named text) 0 (type_of (written other))) (some-same made)
      (subst (λ name. Right (uses_named text) 0 (type_of (written name)) (types.Written name)) (sym same) (written-right text))
  reading-right text no_type is tree made = absurd cc

  -- whatever it reads as is right
  abbrev RightIf : Option IType → TypeUses → ℕ → ViewType C → Type 0
  RightIf read uses width seen = (tree : IType) → read ≡ Some tree → Right uses width seen tree

  abbrev IsRight : TypeName → Type 0
  IsRight type = RightIf (type_tree reader type) (type_uses type) (type_width type) (seen_type reader type)

  moved : {a b : Option IType} {u v : TypeUses} {m n : ℕ} {s t : ViewType C} → a ≡ b → u ≡ v → m ≡ n → s ≡ t → RightIf a u m s
      → RightIf b v n t
  moved {a} {b} {u} {v} {m} {n} {s} {t} p q r w holds =
      subst (λ o. RightIf o v n t) p (subst (λ uses. RightIf a uses n t) q
      (subst (λ width. RightIf a u width t) r (subst (λ seen. RightIf a u m seen) w holds)))

  from : (x : TypeName-F TypeName) → RightIf (reading.type_step reader (map-TypeName _ _ (type_tree reader) x))
      (type_uses_step (map-TypeName _ _ type_uses x)) (type_width_step (map-TypeName _ _ type_width x))
      (texts.type_step reader.view.classes reader.header (map-TypeName _ _ (seen_type reader) x))
      → IsRight (roll-TypeName x)
  from x = moved (sym (fold-roll-TypeName (Option IType) (reading.type_step reader) x))
      (sym (fold-roll-TypeName TypeUses type_uses_step x)) (sym (fold-roll-TypeName ℕ type_width_step x))
      (sym (fold-roll-TypeName (ViewType C) (texts.type_step reader.view.classes reader.header) x))

  primitive-right : (name : Name) (tree : IType) → Primitive tree
      → Right (type_uses_step (TypeName-F.Prim name)) 0 (primitive_type name) tree
  primitive-right name tree p = record {
    wide = p.width;
    type = λ is. p.type;
    base = λ is. (p.type, p.array, p.width);
    array = λ is. absurd (true≢false (sym is));
    result = λ is. inr p.type;
    class = λ is. absurd (true≢false (sym is));
    mentions = ap (list_all test) p.mentions;
  }

  array-right : (uses : TypeUses) (width : ℕ) (seen : ViewType C) (item : IType) → Right uses width seen item
      → Right (type_uses_step (TypeName-F.ArrayOf uses)) (suc width) (array_type seen) (types.Array item)
  array-right uses width seen item r =
      subst (Right (type_uses_step (TypeName-F.ArrayOf uses)) (suc width) (array_type seen)) (types.rolls-Array item) (record {
        wide = fold-roll-IType ℕ dimensions_step (IType-F.Array item) ∙ omega (arith, r.wide);
        type = is_type;
        base = λ is. absurd (true≢false (sym is));
        array = λ is. (is_type is, fold-roll-IType Bool array_step (IType-F.Array item));
        result = λ is. inr (is_type is);
        class = λ is. absurd (true≢false (sym is));
        mentions = ap (list_all test) (fold-roll-IType (List Mention) mentions.type_step (IType-F.Array item)) ∙ r.mentions;
      }) where
        is_type : uses.is_type ≡ true → is_named (roll-IType (IType-F.Array item)) ≡ true
        is_type is = fold-roll-IType Bool named_step (IType-F.Array item) ∙ r.type is

  void-right : Right (type_uses_step TypeName-F.Void) 0 void_type types.Void
  void-right = subst (Right (type_uses_step TypeName-F.Void) 0 void_type) types.rolls-Void (record {
    wide = fold-roll-IType ℕ dimensions_step IType-F.Void;
    type = λ is. absurd (true≢false (sym is));
    base = λ is. absurd (true≢false (sym is));
    array = λ is. absurd (true≢false (sym is));
    result = λ is. inl (fold-roll-IType Bool void_step IType-F.Void);
    class = λ is. absurd (true≢false (sym is));
    mentions = ap (list_all test) (fold-roll-IType (List Mention) mentions.type_step IType-F.Void);
  })

  layer : (y : TypeName-F ((type : TypeName) × IsRight type)) → IsRight (roll-TypeName (map-TypeName _ _ (λ p. p.0) y))
  layer (TypeName-F.Prim name) = from (TypeName-F.Prim name) (λ tree is. primitive-right name tree (primitive-is name tree is))
  layer (TypeName-F.Named text) = from (TypeName-F.Named text) (reading-right text (read_as text) refl)
  layer (TypeName-F.ArrayOf item) = from (TypeName-F.ArrayOf item.0) (by (type_tree reader item.0) refl) where
    by : (o : Option IType) → type_tree reader item.0 ≡ o
        → RightIf (option_map (λ tree. types.Array tree) o) (type_uses_step (TypeName-F.ArrayOf (type_uses item.0)))
        (suc (type_width item.0)) (array_type (seen_type reader item.0))
    by None none tree is = absurd cc
    by (Some inner) some tree is = subst
        (Right (type_uses_step (TypeName-F.ArrayOf (type_uses item.0))) (suc (type_width item.0)) (array_type (seen_type reader item.0)))
        (some-same is)
        (array-right (type_uses item.0) (type_width item.0) (seen_type reader item.0) inner (item.1 inner some))
  layer TypeName-F.Void = from TypeName-F.Void
      (λ tree is. subst (Right (type_uses_step TypeName-F.Void) 0 void_type) (some-same is) void-right)

  pub tree-right : (type : TypeName) (tree : IType) → type_tree reader type ≡ Some tree
      → Right (type_uses type) (type_width type) (seen_type reader type) tree
  tree-right = ind-TypeName IsRight (λ x y is. subst (λ z. IsRight (roll-TypeName z)) is (layer y))

  -- what a type reads as
  pub record IsReadRightly (type : TypeName) (read : ReadType C) : Type 0 where
    pub as_written : Right (type_uses type) (type_width type) (seen_type reader type) read.tree
    pub seen : read.type ≡ seen_type reader type

  pub type-gives : (at : ℕ) (type : TypeName) → Gives (IsReadRightly type) (read_type reader at type)
  type-gives at type = by (type_tree reader type) refl where
    by : (o : Option IType) → type_tree reader type ≡ o
        → Gives (IsReadRightly type) (type_or_fault reader at o (seen_type reader type))
    by None is = gives-refused (IsReadRightly type) unknown_member at
    by (Some tree) is = gives-fine (IsReadRightly type) (record { tree = tree; type = seen_type reader type })
        (record { as_written = tree-right type tree is; seen = refl })

  -- ---- a class that is written is one of the view

  abbrev SeenStands : TypeName → Type 0
  SeenStands type = (class : C) → seen_type reader type ≡ class_type class → HasClass reader.view.classes class

  seen-from : (x : TypeName-F TypeName)
      → ((class : C) → texts.type_step reader.view.classes reader.header (map-TypeName _ _ (seen_type reader) x) ≡ class_type class
      → HasClass reader.view.classes class) → SeenStands (roll-TypeName x)
  seen-from x stands class is =
      stands class (sym (fold-roll-TypeName (ViewType C) (texts.type_step reader.view.classes reader.header) x) ∙ is)

  named-stands : (text : Name) (r : TypeReading C) → read_as text ≡ r → (class : C) → type_of r ≡ class_type class
      → HasClass reader.view.classes class
  named-stands text (class_read other) is class same =
      let one : other ≡ class = cc in
      subst (HasClass reader.view.classes) one ((types_stand C).types reader.view.classes reader.header (cut text).first
      (cut text).rest other
      right.own (reads-as text (class_read other) is))
  named-stands text (imported import more) is class same = absurd cc
  named-stands text (written other) is class same = absurd cc
  named-stands text no_type is class same = absurd cc

  seen-layer : (y : TypeName-F ((type : TypeName) × SeenStands type)) → SeenStands (roll-TypeName (map-TypeName _ _ (λ p. p.0) y))
  seen-layer (TypeName-F.Prim name) = seen-from (TypeName-F.Prim name) (λ class is. absurd cc)
  seen-layer (TypeName-F.Named text) = seen-from (TypeName-F.Named text) (named-stands text (read_as text) refl)
  seen-layer (TypeName-F.ArrayOf item) = seen-from (TypeName-F.ArrayOf item.0) (λ class is. absurd cc)
  seen-layer TypeName-F.Void = seen-from TypeName-F.Void (λ class is. absurd cc)

  pub seen-stands : (type : TypeName) → SeenStands type
  seen-stands = ind-TypeName SeenStands (λ x y is. subst (λ z. SeenStands (roll-TypeName z)) is (seen-layer y))
