-- Types read back, and so do casts, tests of types and creations of arrays where their parts do.
use Rattle.std.proofs.Common.{◌≡◌, ℕ, suc, Bool, true, List, [], ◌∷◌, map, length, Option, Some, None, refl, sym, ◌∙◌, ap, subst, true≢false}
use Rattle.std.specs.Prelude.{IsTrue, ◌&&◌, codes, ◌+◌, option_map}
use Rattle.jav_tree.specs.declared.expr.Expr.{Expr}
use Rattle.jav_names.specs.DottedNames.{Name, Names, cut, joined}
use Rattle.jav_names.specs.OnValues.{StaticType, primitive_value}
use Rattle.jav_names.specs.StaticTypes.{item, of_type}
use Rattle.mol_base.specs.declared.ident.Id.{Id}
use Rattle.mol_spell_rules.specs.references.References.{outside_target, class_target, Target}
use Rattle.mol_resolve_rules.proofs.ReadEquations.{tree-Prim, tree-Named}
use Rattle.mol_resolve_rules.specs.Locals.{Locals}
use Rattle.mol_resolve_rules.specs.Outcomes.{Outcome, fine, mapped, both}
use Rattle.mol_resolve_rules.specs.Readers.{Reader}
use Rattle.mol_resolve_rules.specs.ReadTrees.{Meant, Mode, Reading, reading, meant, arrays}
use Rattle.mol_resolve_rules.specs.Says.{no_more, OutsideText, in_full, of_import, type_text, type_text_step, SaysType, equal_type, text_of_type, array_of}
use Rattle.mol_values_types.specs.declared.iexpr.Argument.{Argument}
use Rattle.mol_values_types.specs.declared.iexpr.IExpr.{IExpr}
use Rattle.mol_values_types.specs.declared.iexpr.IExpr.TheOpen.{IExpr-F}
use Rattle.mol_spell_rules.proofs.NamesBack.{never-this}
use Rattle.mol_spell_rules.proofs.ValuesBack.{nameless-apart}
use Rattle.mol_spell_rules.specs.Answers.{type_answer, type_read, answer}
use Rattle.mol_spell_rules.specs.ReadBack.{SeesProgram, KeptArgument, AreAnswered, all_kept, is_kept_type, kept_type_step}
use Rattle.mol_spell_rules.specs.SpelledExpressions.{SpelledExpr, made, importable_names, each_alone, expr_step, hides, type_here}
use Rattle.mol_spell_rules.specs.Writers.{Writer, outside_import, program_class, text_of, type_asked}
use Rattle.jav_names.specs.Views.{ViewType, class_type, outside_type, array_type, primitive_type, Classes, ViewClass, void_type}
use Rattle.jav_names.specs.LookUps.{type_named, own_named, own_or_near, import_of, class_named, class_or_imported, class_or_written, simple_by_import}
use Rattle.jav_names.specs.TypeTexts.{type_of, imported_text}
use Rattle.jav_names.specs.Types.{TypeReading, class_read, imported, written, no_type, Header}
use Rattle.mol_resolve_rules.specs.ProgramViews.{seen, seen_step}
use Rattle.mol_resolve_rules.specs.ReadTypes.{ReadType, type_tree, type_step, named_tree, primitive_tree, seen_type, type_or_fault, read_type}
use Rattle.jav_tree.specs.declared.types.TypeName.{TypeName}
use Rattle.jav_tree.specs.declared.types.TypeName.TheFolds.{fold-roll-TypeName}
use Rattle.jav_tree.specs.declared.types.TypeName.TheOpen.{TypeName-F}
use Rattle.mol_values_types.specs.declared.itype.IType.{IType}
use Rattle.mol_values_types.specs.declared.itype.IType.TheFolds.{fold-roll-IType, ind-IType, map-IType}
use Rattle.mol_values_types.specs.declared.itype.IType.TheOpen.{IType-F}
use Rattle.mol_values_types.specs.declared.itype.IType.TheViews.{roll-IType}
use Rattle.mol_spell_rules.proofs.NodeEquations.{read-NewArray, read-ArrayLit, read-Cast, read-InstanceOf}
use Rattle.mol_spell_rules.specs.SpelledTypes.{SpelledType}
use Prim.Native.String.{String}
use Rattle.jav_tree.specs.declared.expr.ExprNode.TheVariants as node
use Rattle.mol_resolve_rules.specs.Says as say
use Rattle.mol_values_types.specs.declared.iexpr.IExpr.TheVariants as exprs
use Rattle.jav_names.specs.TypeTexts as text_types
use Rattle.jav_tree.specs.declared.types.TypeName.TheVariants as types
use Rattle.mol_values_types.specs.declared.itype.IType.TheVariants as itypes
use Rattle.mol_spell_rules.proofs.PartsBack as carried
use Rattle.mol_spell_rules.specs.SpelledTypes as spell_types

module _ (writer : Writer) (sees : SeesProgram writer) (locals : Locals Id) where
  abbrev reader : Reader Id Id
  reader = writer.reader

  abbrev spelled : IExpr → SpelledExpr
  spelled = carried.spelled writer sees locals

  abbrev spelled_argument : Argument → SpelledExpr
  spelled_argument = carried.spelled_argument writer sees locals

  abbrev kept : IExpr → Bool
  kept = carried.kept writer sees locals

  abbrev kept_argument : Argument → KeptArgument
  kept_argument = carried.kept_argument writer sees locals

  abbrev Comes : Expr → Mode → Bool → StaticType Id → IExpr → Type 0
  Comes = carried.Comes writer sees locals

  abbrev BackAs : SpelledExpr → IExpr → Bool → Type 0
  BackAs = carried.BackAs writer sees locals

  abbrev Back : IExpr → Type 0
  Back = carried.Back writer sees locals

  abbrev BackArgument : Argument → Type 0
  BackArgument = carried.BackArgument writer sees locals

  abbrev With : Type 0
  With = carried.With writer sees locals

  abbrev WithArgument : Type 0
  WithArgument = carried.WithArgument writer sees locals

  abbrev exprs_in : List With → List IExpr
  exprs_in = carried.exprs_in writer sees locals

  abbrev arguments_in : List WithArgument → List Argument
  arguments_in = carried.arguments_in writer sees locals

  abbrev trees_of : List SpelledExpr → List Expr
  trees_of = carried.trees_of writer sees locals

  abbrev values : List SpelledExpr → Outcome (List IExpr)
  values = carried.values writer sees locals

  -- ---- a name that is read alone

  none-imported : (near : Option (ViewClass Id)) (text import rest : Name) → class_or_written near text ≡ imported import rest → rest ≡ []
  none-imported None text import rest is = absurd cc
  none-imported (Some class) text import rest is = absurd cc

  by-import : (class : Option (ViewClass Id)) (name import rest : Name) → class_or_imported class name ≡ imported import rest → rest ≡ []
  by-import None name import rest is = cc
  by-import (Some class) name import rest is = absurd cc

  by-own : (classes : Classes Id) (header : Header Id) (name : Name) (own : Option (ViewClass Id)) (import rest : Name)
      → own_or_near classes header name own ≡ imported import rest → rest ≡ []
  by-own classes header name None import rest is =
      none-imported (class_named classes (joined header.«package» (name ∷ []))) name import rest is
  by-own classes header name (Some own) import rest is = absurd cc

  by-first : (classes : Classes Id) (header : Header Id) (name : Name) (of_name : Option Name) (import rest : Name)
      → simple_by_import classes header name of_name ≡ imported import rest → rest ≡ []
  by-first classes header name None import rest is = by-own classes header name (own_named header.own name) import rest is
  by-first classes header name (Some full) import rest is = by-import (class_named classes full) full import rest is

  -- a simple name that is imported has nothing after it
  simple-alone : (first : Name) (more : Names) (import rest : Name) → no_more more ≡ true
      → type_named reader.view.classes reader.header first more ≡ imported import rest → rest ≡ []
  simple-alone first [] import rest one is =
      by-first reader.view.classes reader.header first (import_of reader.header.imports first) import rest is
  simple-alone first (next ∷ more) import rest one is = absurd (true≢false (sym one))

  -- ---- types

  -- A type that is written reads as one that says this, and is seen as it is in the program.
  abbrev pub TypeComes : TypeName → IType → ViewType Id → Type 0
  TypeComes tree type view = (said : IType) × (type_tree reader tree ≡ Some said) × SaysType said type × (seen_type reader tree ≡ view)

  abbrev TypeBackAs : SpelledType → IType → ViewType Id → Bool → Type 0
  TypeBackAs part type view k = IsTrue k → AreAnswered writer part.references → TypeComes part.tree type view

  abbrev spelled_as : IType → SpelledType
  spelled_as = type_here writer locals

  abbrev kept_as : IType → Bool
  kept_as = is_kept_type writer locals

  abbrev TypeBack : IType → Type 0
  TypeBack type = TypeBackAs (spelled_as type) type (seen type) (kept_as type)

  abbrev step : IType-F SpelledType → SpelledType
  step = spell_types.type_step writer (hides writer locals) locals

  type-from : (x : IType-F IType) (type : IType) → roll-IType x ≡ type
      → TypeBackAs (step (map-IType _ _ spelled_as x)) type (seen_step (map-IType _ _ seen x))
      (kept_type_step writer locals (map-IType _ _ kept_as x))
      → TypeBack (roll-IType x)
  type-from x type rolls back =
      subst (λ part. TypeBackAs part (roll-IType x) (seen (roll-IType x)) (kept_as (roll-IType x)))
      (sym (fold-roll-IType SpelledType step x))
      (subst (λ view. TypeBackAs (step (map-IType _ _ spelled_as x)) (roll-IType x) view (kept_as (roll-IType x)))
      (sym (fold-roll-IType (ViewType Id) seen_step x))
      (subst (TypeBackAs (step (map-IType _ _ spelled_as x)) (roll-IType x) (seen_step (map-IType _ _ seen x)))
      (sym (fold-roll-IType Bool (kept_type_step writer locals) x))
      (subst (λ type. TypeBackAs (step (map-IType _ _ spelled_as x)) type (seen_step (map-IType _ _ seen x))
      (kept_type_step writer locals (map-IType _ _ kept_as x))) (sym rolls) back)))

  see-Prim : (text : Name) → seen_type reader (types.Prim text) ≡ primitive_type text
  see-Prim text = ap (seen_type reader) (sym (types.rolls-Prim text))
      ∙ fold-roll-TypeName (ViewType Id) (text_types.type_step reader.view.classes reader.header) (TypeName-F.Prim text)

  see-Named : (text : Name) → seen_type reader (types.Named text) ≡ type_of (type_read reader text)
  see-Named text = ap (seen_type reader) (sym (types.rolls-Named text))
      ∙ fold-roll-TypeName (ViewType Id) (text_types.type_step reader.view.classes reader.header) (TypeName-F.Named text)

  see-ArrayOf : (item : TypeName) → seen_type reader (types.ArrayOf item) ≡ array_type (seen_type reader item)
  see-ArrayOf item = ap (seen_type reader) (sym (types.rolls-ArrayOf item))
      ∙ fold-roll-TypeName (ViewType Id) (text_types.type_step reader.view.classes reader.header) (TypeName-F.ArrayOf item)

  see-Void : seen_type reader types.Void ≡ void_type
  see-Void = ap (seen_type reader) (sym types.rolls-Void)
      ∙ fold-roll-TypeName (ViewType Id) (text_types.type_step reader.view.classes reader.header) TypeName-F.Void

  tree-ArrayOf : (item : TypeName) → type_tree reader (types.ArrayOf item)
      ≡ option_map (λ tree. itypes.Array tree) (type_tree reader item)
  tree-ArrayOf item = ap (type_tree reader) (sym (types.rolls-ArrayOf item))
      ∙ fold-roll-TypeName (Option IType) (type_step reader) (TypeName-F.ArrayOf item)

  tree-Void : type_tree reader types.Void ≡ Some itypes.Void
  tree-Void = ap (type_tree reader) (sym types.rolls-Void) ∙ fold-roll-TypeName (Option IType) (type_step reader) TypeName-F.Void

  primitive-back : (word : String) (type : IType) → primitive_tree (codes word) ≡ Some type
      → TypeBackAs (record { tree = types.Prim (codes word); references = [] }) type (primitive_type (codes word)) true
  primitive-back word type is are all = (type, tree-Prim reader (codes word) ∙ is, equal_type, see-Prim (codes word))

  text-Written : (text : Name) → type_text (itypes.Written text) ≡ in_full text
  text-Written text = ap type_text (sym (itypes.rolls-Written text)) ∙ fold-roll-IType OutsideText type_text_step (IType-F.Written text)

  text-Imported : (import rest : Name) → type_text (itypes.Imported import rest) ≡ of_import import rest
  text-Imported import rest = ap type_text (sym (itypes.rolls-Imported import rest))
      ∙ fold-roll-IType OutsideText type_text_step (IType-F.Imported import rest)

  -- what is read as written says what has its text
  says-written : (text : Name) (type : IType) → (type_text type).text ≡ Some text → SaysType (itypes.Written text) type
  says-written text type is = text_of_type (record {
    text = text;
    first_is = ap (λ (of : OutsideText). of.text) (text-Written text);
    second_is = is;
    full = ap (λ (of : OutsideText). of.is_in_full) (text-Written text);
  })

  named-back : (text : Name) (target : Target) (type : IType) (view : ViewType Id)
      → ((r : TypeReading Id) → type_read reader text ≡ r → type_answer reader r ≡ Some target
      → (said : IType) × (named_tree reader r ≡ Some said) × SaysType said type × (type_of r ≡ view))
      → answer reader locals (type_asked text) ≡ Some target → TypeComes (types.Named text) type view
  named-back text target type view read is =
      let back = read (type_read reader text) refl is in
      (back.0, tree-Named reader text ∙ back.1, back.2, see-Named text ∙ back.3)

  class-read : (text : Name) (class : Id) (r : TypeReading Id) → type_read reader text ≡ r
      → type_answer reader r ≡ Some (class_target class)
      → (said : IType) × (named_tree reader r ≡ Some said) × SaysType said (itypes.Class class) × (type_of r ≡ class_type class)
  class-read text class (class_read here) at is =
      let same : reader.ids.class_id here ≡ class = cc in (
        itypes.Class (reader.ids.class_id here),
        refl,
        subst (λ class. SaysType (itypes.Class (reader.ids.class_id here)) (itypes.Class class)) same equal_type,
        ap (λ c. class_type c) (sym (sees.class_ids here) ∙ same),
      )
  class-read text class (imported import rest) at is = absurd cc
  class-read text class (written name) at is = absurd cc
  class-read text class no_type at is = absurd cc

  written-read : (text : Name) → no_more (cut text).rest ≡ true → (r : TypeReading Id) → type_read reader text ≡ r
      → type_answer reader r ≡ Some (outside_target text)
      → (said : IType) × (named_tree reader r ≡ Some said) × SaysType said (itypes.Written text) × (type_of r ≡ outside_type text)
  written-read text one (class_read here) at is = absurd cc
  written-read text one (imported import rest) at is =
      let same : imported_text import rest ≡ text = cc in
      let none = simple-alone (cut text).first (cut text).rest import rest one at in
      let import_is : import ≡ text = ap (imported_text import) (sym none) ∙ same in (
        itypes.Imported import rest,
        refl,
        text_of_type (record {
          text = text;
          first_is = ap (λ (of : OutsideText). of.text) (text-Imported import rest) ∙ ap (λ t. Some t) same;
          second_is = ap (λ (of : OutsideText). of.text) (text-Written text);
          full = ap (λ (of : OutsideText). of.is_in_full) (text-Imported import rest) ∙ ap (λ t. no_more (cut t).rest) import_is ∙ one;
        }),
        ap (λ t. outside_type t) same,
      )
  written-read text one (written name) at is =
      let same : name ≡ text = cc in (
        itypes.Written name,
        refl,
        subst (λ text. SaysType (itypes.Written name) (itypes.Written text)) same equal_type,
        ap (λ t. outside_type t) same,
      )
  written-read text one no_type at is = absurd cc

  -- an imported type of which nothing but itself is named
  imported-read : (text full : Name) → no_more (cut text).rest ≡ true → (r : TypeReading Id) → type_read reader text ≡ r
      → type_answer reader r ≡ Some (outside_target full)
      → (said : IType) × (named_tree reader r ≡ Some said) × SaysType said (itypes.Imported full []) × (type_of r ≡ outside_type full)
  imported-read text full one (class_read here) at is = absurd cc
  imported-read text full one (imported import rest) at is =
      let same : imported_text import rest ≡ full = cc in
      let none = simple-alone (cut text).first (cut text).rest import rest one at in
      let import_is : import ≡ full = ap (imported_text import) (sym none) ∙ same in (
        itypes.Imported import rest,
        refl,
        subst (λ type. SaysType (itypes.Imported import rest) type) (λ i. itypes.Imported (import_is i) (none i)) equal_type,
        ap (λ t. outside_type t) same,
      )
  imported-read text full one (written name) at is =
      let same : name ≡ full = cc in (
        itypes.Written name,
        refl,
        says-written name (itypes.Imported full [])
            (ap (λ (of : OutsideText). of.text) (text-Imported full []) ∙ ap (λ t. Some t) (sym same)),
        ap (λ t. outside_type t) same,
      )
  imported-read text full one no_type at is = absurd cc

  imported-back : (import rest : Name) → TypeBackAs (step (IType-F.Imported import rest)) (itypes.Imported import rest)
      (seen_step (IType-F.Imported import rest)) (kept_type_step writer locals (IType-F.Imported import rest))
  imported-back import [] are all = named-back (text_of (importable_names writer locals (outside_import import))) (outside_target import)
      (itypes.Imported import []) (outside_type import)
      (imported-read (text_of (importable_names writer locals (outside_import import))) import are) all.0
  imported-back import (byte ∷ rest) are all = absurd (true≢false (sym are))

  array-back : (part : SpelledType) (item : IType) (view : ViewType Id) (k : Bool) → TypeBackAs part item view k
      → TypeBackAs (record { tree = types.ArrayOf part.tree; references = part.references }) (itypes.Array item) (array_type view) k
  array-back part item view k back are all =
      let of_item = back are all in (
        itypes.Array of_item.0,
        tree-ArrayOf part.tree ∙ ap (option_map (λ tree. itypes.Array tree)) of_item.1,
        array_of of_item.2,
        see-ArrayOf part.tree ∙ ap (λ view. array_type view) of_item.3,
      )

  type-layer : (y : IType-F ((type : IType) × TypeBack type)) → TypeBack (roll-IType (map-IType _ _ (λ p. p.0) y))
  type-layer IType-F.Boolean = type-from IType-F.Boolean itypes.Boolean itypes.rolls-Boolean (primitive-back "boolean" itypes.Boolean refl)
  type-layer IType-F.Byte = type-from IType-F.Byte itypes.Byte itypes.rolls-Byte (primitive-back "byte" itypes.Byte refl)
  type-layer IType-F.Short = type-from IType-F.Short itypes.Short itypes.rolls-Short (primitive-back "short" itypes.Short refl)
  type-layer IType-F.Char = type-from IType-F.Char itypes.Char itypes.rolls-Char (primitive-back "char" itypes.Char refl)
  type-layer IType-F.Int = type-from IType-F.Int itypes.Int itypes.rolls-Int (primitive-back "int" itypes.Int refl)
  type-layer IType-F.Long = type-from IType-F.Long itypes.Long itypes.rolls-Long (primitive-back "long" itypes.Long refl)
  type-layer IType-F.Void = type-from IType-F.Void itypes.Void itypes.rolls-Void
      (λ are all. (itypes.Void, tree-Void, equal_type, see-Void))
  type-layer (IType-F.Class class) = type-from (IType-F.Class class) (itypes.Class class) (itypes.rolls-Class class)
      (λ are all. named-back (text_of (importable_names writer locals (program_class class))) (class_target class) (itypes.Class class)
      (class_type class) (class-read (text_of (importable_names writer locals (program_class class))) class) all.0)
  type-layer (IType-F.Imported import rest) = type-from (IType-F.Imported import rest) (itypes.Imported import rest)
      (itypes.rolls-Imported import rest) (imported-back import rest)
  type-layer (IType-F.Written text) = type-from (IType-F.Written text) (itypes.Written text) (itypes.rolls-Written text)
      (λ are all. named-back text (outside_target text) (itypes.Written text) (outside_type text) (written-read text are) all.0)
  type-layer (IType-F.Array item) = type-from (IType-F.Array item.0) (itypes.Array item.0) (itypes.rolls-Array item.0)
      (array-back (spelled_as item.0) item.0 (seen item.0) (kept_as item.0) item.1)

  pub type-back : (type : IType) → IsTrue (is_kept_type writer locals type) → AreAnswered writer (type_here writer locals type).references
      → TypeComes (type_here writer locals type).tree type (seen type)
  type-back = ind-IType TypeBack (λ x y is. subst (λ z. TypeBack (roll-IType z)) is (type-layer y))

  -- a type that reads back, as a part of an expression
  read-type : (tree : TypeName) (said : IType) (view : ViewType Id) → type_tree reader tree ≡ Some said → seen_type reader tree ≡ view
      → read_type reader 0 tree ≡ fine (record { tree = said; type = view })
  read-type tree said view is sees-it = λ i. type_or_fault reader 0 (is i) (sees-it i)

  -- ---- casts and tests

  pub cast-layer : (type : IType) (part : SpelledExpr) (held : IExpr) (k : Bool) → BackAs part held k
      → BackAs (expr_step writer locals (IExpr-F.Cast type part)) (exprs.Cast type held) (is_kept_type writer locals type && k)
  cast-layer type part held k back = (
    λ are. nameless-apart writer sees locals (reading reader (made (node.Cast (type_here writer locals type).tree part.tree)))
        (ap (λ (r : Reading Id). r.names) (read-Cast reader (type_here writer locals type).tree part.tree)),
    never-this,
    λ mode are all.
        let tests = carried.and-split (is_kept_type writer locals type) k are in
        let split = carried.answered-split writer sees locals (type_here writer locals type).references (part.references None) all in
        let t = type-back type tests.0 split.0 in
        let x = back.2 None tests.1 split.1 in (
          exprs.Cast t.0 x.0,
          ap (λ (r : Reading Id). r.means locals mode) (read-Cast reader (type_here writer locals type).tree part.tree)
              ∙ (λ i. mapped (λ (pair : ReadType Id × Meant Id). meant reader (exprs.Cast pair.0.tree pair.1.tree) (of_type pair.0.type))
              (both (read-type (type_here writer locals type).tree t.0 (seen type) t.1 t.3 i) (x.1 i))),
          say.in_cast t.2 x.2,
          never-this,
        ),
  )

  pub instance-layer : (type : IType) (part : SpelledExpr) (held : IExpr) (k : Bool) → BackAs part held k
      → BackAs (expr_step writer locals (IExpr-F.InstanceOf part type)) (exprs.InstanceOf held type) (k && is_kept_type writer locals type)
  instance-layer type part held k back = (
    λ are. nameless-apart writer sees locals (reading reader (made (node.InstanceOf part.tree (type_here writer locals type).tree)))
        (ap (λ (r : Reading Id). r.names) (read-InstanceOf reader part.tree (type_here writer locals type).tree)),
    never-this,
    λ mode are all.
        let tests = carried.and-split k (is_kept_type writer locals type) are in
        let split = carried.answered-split writer sees locals (part.references None) (type_here writer locals type).references all in
        let x = back.2 None tests.0 split.0 in
        let t = type-back type tests.1 split.1 in (
          exprs.InstanceOf x.0 t.0,
          ap (λ (r : Reading Id). r.means locals mode) (read-InstanceOf reader part.tree (type_here writer locals type).tree)
              ∙ (λ i. mapped (λ (pair : Meant Id × ReadType Id). meant reader (exprs.InstanceOf pair.0.tree pair.1.tree) primitive_value)
              (both (x.1 i) (read-type (type_here writer locals type).tree t.0 (seen type) t.1 t.3 i))),
          say.in_instance_of x.2 t.2,
          never-this,
        ),
  )

  -- ---- arrays

  pub array-layer : (type : IType) (items : List With)
      → BackAs (expr_step writer locals (IExpr-F.ArrayLit type (map spelled (exprs_in items)))) (exprs.ArrayLit type (exprs_in items))
      (is_kept_type writer locals type && all_kept (map kept (exprs_in items)))
  array-layer type items = (
    λ are. nameless-apart writer sees locals
        (reading reader (made (node.ArrayLit (type_here writer locals type).tree (trees_of (map spelled (exprs_in items))))))
        (ap (λ (r : Reading Id). r.names)
        (read-ArrayLit reader (type_here writer locals type).tree (trees_of (map spelled (exprs_in items))))),
    never-this,
    λ mode are all.
        let tests = carried.and-split (is_kept_type writer locals type) (all_kept (map kept (exprs_in items))) are in
        let split = carried.answered-split writer sees locals (type_here writer locals type).references
        (each_alone writer locals (map spelled (exprs_in items))) all in
        let t = type-back type tests.0 split.0 in
        let x = carried.exprs-back writer sees locals items tests.1 split.1 in (
          exprs.ArrayLit t.0 x.0,
          ap (λ (r : Reading Id). r.means locals mode)
              (read-ArrayLit reader (type_here writer locals type).tree (trees_of (map spelled (exprs_in items))))
              ∙ (λ i. mapped (λ (pair : ReadType Id × List IExpr). meant reader (exprs.ArrayLit pair.0.tree pair.1) (of_type pair.0.type))
              (both (read-type (type_here writer locals type).tree t.0 (seen type) t.1 t.3 i) (x.1 i))),
          say.in_array t.2 x.2,
          never-this,
        ),
  )

  static-count : (es : List With) → length (map (reading reader) (trees_of (map spelled (exprs_in es))))
      ≡ length (map (λ (part : SpelledExpr). part.static_type) (map spelled (exprs_in es)))
  static-count [] = refl
  static-count (e ∷ es) = ap (λ n. suc n) (static-count es)

  pub new-array-layer : (type : IType) (sizes : List With) (pairs : ℕ)
      → BackAs (expr_step writer locals (IExpr-F.NewArray type (map spelled (exprs_in sizes)) pairs))
      (exprs.NewArray type (exprs_in sizes) pairs) (is_kept_type writer locals type && all_kept (map kept (exprs_in sizes)))
  new-array-layer type sizes pairs = (
    λ are. nameless-apart writer sees locals
        (reading reader (made (node.NewArray (type_here writer locals type).tree (trees_of (map spelled (exprs_in sizes))) pairs)))
        (ap (λ (r : Reading Id). r.names)
        (read-NewArray reader (type_here writer locals type).tree (trees_of (map spelled (exprs_in sizes))) pairs)),
    never-this,
    λ mode are all.
        let tests = carried.and-split (is_kept_type writer locals type) (all_kept (map kept (exprs_in sizes))) are in
        let split = carried.answered-split writer sees locals (type_here writer locals type).references
        (each_alone writer locals (map spelled (exprs_in sizes))) all in
        let t = type-back type tests.0 split.0 in
        let x = carried.exprs-back writer sees locals sizes tests.1 split.1 in (
          exprs.NewArray t.0 x.0 pairs,
          ap (λ (r : Reading Id). r.means locals mode)
              (read-NewArray reader (type_here writer locals type).tree (trees_of (map spelled (exprs_in sizes))) pairs)
              ∙ (λ i. mapped (λ (pair : ReadType Id × List IExpr). meant reader (exprs.NewArray pair.0.tree pair.1 pairs)
              (of_type (arrays (static-count sizes i + pairs) pair.0.type)))
              (both (read-type (type_here writer locals type).tree t.0 (seen type) t.1 t.3 i) (x.1 i))),
          say.in_new_array t.2 x.2,
          never-this,
        ),
  )
