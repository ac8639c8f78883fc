-- Expressions that mention what lives alone are written alike in two such programs, and their names are good.
use Rattle.std.proofs.Common.{Bool, List, None, Some, [], ap, false, length, refl, subst, sym, ◌++◌, ◌∙◌, ◌∷◌, ◌≡◌}
use Rattle.std.specs.Prelude.{map}
use Rattle.jav_names.specs.DottedNames.{Name, Names}
use Rattle.jav_names.specs.OnValues.{StaticType}
use Rattle.jav_names.specs.StaticTypes.{common, outside_call}
use Rattle.jav_names.specs.Views.{View}
use Rattle.jav_tree.specs.declared.expr.ExprNode.TheVariants as node
use Rattle.mol_base.specs.Lexical.Numbers.{number}
use Rattle.mol_base.specs.declared.ident.Id.{Id}
use Rattle.mol_resolve_rules.specs.Locals.{Local, Locals}
use Rattle.mol_resolve_rules.specs.ProgramViews.{program_view, superclass_at}
use Rattle.mol_resolve_rules.specs.ReadTrees.{Mode, before}
use Rattle.mol_resolve_rules.specs.Readers.{Parameter}
use Rattle.mol_spell_rules.specs.SpelledExpressions.{SpelledExpr, expr_step, argument_step, spelled_expr, made, local_text, each_alone, asks_name, after}
use Rattle.mol_spell_rules.specs.Writers.{Importable, Writer, Reference, method_asked, written_use}
use Rattle.mol_spell_rules.specs.references.References.{local_target, outside_target}
use Rattle.mol_table_rules.specs.Mentions as mentioning
use Rattle.mol_table_rules.specs.Mentions.{Mention, a_class, a_constructor, a_static_method, named, joined, type_mentions, expr_mentions}
use Rattle.mol_table_rules.specs.Program.{Program}
use Rattle.mol_values_types.specs.declared.iexpr.Argument.{Argument, fold-Argument}
use Rattle.mol_values_types.specs.declared.iexpr.IExpr.{IExpr}
use Rattle.mol_values_types.specs.declared.iexpr.IExpr.TheFolds.{fold-roll-IExpr, fold-roll-Argument, ind-IExpr, map-IExpr}
use Rattle.mol_values_types.specs.declared.iexpr.IExpr.TheOpen.{IExpr-F}
use Rattle.mol_values_types.specs.declared.iexpr.IExpr.TheViews.{roll-IExpr, roll-Argument}
use Rattle.mol_faults_laws.proofs.sameness_lemmas.ExpressionSteps.{AreGoodLocals, AreSame, fixed, local-good, name-mode, own-step, step-ArrayLit, step-Call, step-CallOn, step-Cast, step-Field, step-InstanceOf, step-New, step-NewArray, step-NewDefault, step-NewOutside, step-OutsideClass, step-Param, step-StaticCall, step-StaticField, step-SuperCall}
use Rattle.mol_faults_laws.proofs.sameness_lemmas.Goodness.{AreGoodReferences, IsGoodImportable, IsGoodReference, all-back, all-both, all-front, binary-good, call-good, common-good, field-good, item-good, literal-good, unary-good}
use Rattle.mol_faults_laws.proofs.sameness_lemmas.LivingViews.{superclass-same, value-stands, view-same}
use Rattle.mol_faults_laws.proofs.sameness_lemmas.SpelledTypes.{writer_of}
use Rattle.mol_faults_laws.proofs.sameness_lemmas.Twins.{AreGood, IsGood, IsGoodClass, IsGoodValue, Twins, good-class}
use Rattle.mol_faults_laws.proofs.sameness_lemmas.Views.{choices-same}

abbrev argument_mentions : Argument → List Mention
argument_mentions = fold-Argument (List Mention) (List Mention) mentioning.expr_step mentioning.argument_step

module _ (P Q : Program) (twins : Twins P Q) (class : Id) (good : IsGoodClass P class) (imports : Names) (params : List (Parameter Id))
    (in_constructor : Bool) (first_simple second_simple : Importable → Bool)
    (simple : (what : Importable) → IsGoodImportable P what → first_simple what ≡ second_simple what)
    (locals : Locals Id) (good_locals : AreGoodLocals P locals) where
  abbrev here : Writer
  here = writer_of P imports class params in_constructor first_simple

  abbrev there : Writer
  there = writer_of Q imports class params in_constructor second_simple

  abbrev Refs : List Reference → Type 0
  Refs = AreGoodReferences P

  abbrev sa : IExpr → SpelledExpr
  sa = spelled_expr here locals

  abbrev sb : IExpr → SpelledExpr
  sb = spelled_expr there locals

  abbrev ga : Argument → SpelledExpr
  ga = fold-Argument SpelledExpr SpelledExpr (expr_step here locals) (argument_step here locals)

  abbrev gb : Argument → SpelledExpr
  gb = fold-Argument SpelledExpr SpelledExpr (expr_step there locals) (argument_step there locals)

  abbrev IsAlike : IExpr → Type 0
  IsAlike e = AreGood P (expr_mentions e) → AreSame P (sa e) (sb e)

  abbrev IsAlikeArgument : Argument → Type 0
  IsAlikeArgument argument = AreGood P (argument_mentions argument) → AreSame P (ga argument) (gb argument)

  abbrev With : Type 0
  With = (e : IExpr) × IsAlike e

  abbrev WithArgument : Type 0
  WithArgument = (argument : Argument) × IsAlikeArgument argument

  abbrev ones : List With → List IExpr
  ones es = map (λ p. p.0) es

  abbrev given : List WithArgument → List Argument
  given args = map (λ p. p.0) args

  -- ---- several parts

  record AllSame (ss ts : List SpelledExpr) : Type 0 where
    same : ss ≡ ts
    references : Refs (each_alone here locals ss)

  each-same : (es : List With) → AreGood P (joined (map expr_mentions (ones es))) → AllSame (map sa (ones es)) (map sb (ones es))
  each-same [] all = record { same = refl; references = tt {0} }
  each-same (e ∷ es) all =
      let rest = joined (map expr_mentions (ones es)) in
      let one = e.1 (all-front (IsGood P) (expr_mentions e.0) rest all) in
      let more = each-same es (all-back (IsGood P) (expr_mentions e.0) rest all) in
      record {
        same = λ i. one.same i ∷ more.same i;
        references = all-both (IsGoodReference P) ((sa e.0).references None) (each_alone here locals (map sa (ones es)))
            (one.references None) more.references;
      }

  arguments-same : (args : List WithArgument) → AreGood P (joined (map argument_mentions (given args)))
      → AllSame (map ga (given args)) (map gb (given args))
  arguments-same [] all = record { same = refl; references = tt {0} }
  arguments-same (e ∷ es) all =
      let rest = joined (map argument_mentions (given es)) in
      let one = e.1 (all-front (IsGood P) (argument_mentions e.0) rest all) in
      let more = arguments-same es (all-back (IsGood P) (argument_mentions e.0) rest all) in
      record {
        same = λ i. one.same i ∷ more.same i;
        references = all-both (IsGoodReference P) ((ga e.0).references None) (each_alone here locals (map ga (given es)))
            (one.references None) more.references;
      }

  -- ---- one layer

  -- the parts may be written in either way
  from : (x : IExpr-F IExpr Argument) → map-IExpr _ _ _ _ sa ga x ≡ map-IExpr _ _ _ _ sb gb x
      → AreSame P (expr_step here locals (map-IExpr _ _ _ _ sa ga x)) (expr_step there locals (map-IExpr _ _ _ _ sa ga x))
      → AreSame P (sa (roll-IExpr x)) (sb (roll-IExpr x))
  from x parts same =
      let one = fold-roll-IExpr SpelledExpr SpelledExpr (expr_step here locals) (argument_step here locals) x in
      let two = fold-roll-IExpr SpelledExpr SpelledExpr (expr_step there locals) (argument_step there locals) x in
      record {
        same = one ∙ same.same ∙ ap (expr_step there locals) parts ∙ sym two;
        type = subst (λ (s : SpelledExpr). IsGoodValue P s.static_type) (sym one) same.type;
        references = λ mode. subst (λ (s : SpelledExpr). Refs (s.references mode)) (sym one) (same.references mode);
      }

  -- what the layer mentions
  mentioned : (x : IExpr-F IExpr Argument) → AreGood P (expr_mentions (roll-IExpr x))
      → AreGood P (mentioning.expr_step (map-IExpr _ _ _ _ expr_mentions argument_mentions x))
  mentioned x all = subst (AreGood P) (fold-roll-IExpr (List Mention) (List Mention) mentioning.expr_step mentioning.argument_step x) all

  -- ---- all of them

  outside-call : (name : Name) (e : StaticType Id) (args : List SpelledExpr) → IsGoodValue P e
      → IsGoodValue P (outside_call e name (length (map (λ (part : SpelledExpr). part.static_type) args)))
  outside-call name e args type = call-good P e name (length (map (λ (part : SpelledExpr). part.static_type) args)) type

  common-same : (a b : StaticType Id) → IsGoodValue P a → IsGoodValue P b → common (program_view P) a b ≡ common (program_view Q) a b
  common-same a b left right =
      choices-same (program_view P) (superclass_at Q) (superclass-same P Q twins) a b (value-stands P Q twins a left)
      (value-stands P Q twins b right)
      ∙ ap (λ (view : View Id Id). common view a b) (sym (view-same P Q twins))

  two : (a b : SpelledExpr) → Refs (a.references None) → Refs (b.references None) → Refs (a.references None ++ b.references None)
  two a b left right = all-both (IsGoodReference P) (a.references None) (b.references None) left right

  layer : (y : IExpr-F With WithArgument) → IsAlike (roll-IExpr (map-IExpr _ _ _ _ (λ p. p.0) (λ p. p.0) y))
  layer (IExpr-F.Lit text) all = from (IExpr-F.Lit text) refl
      (fixed P Q twins class good imports params in_constructor first_simple second_simple simple locals (IExpr-F.Lit text) refl
      (literal-good P text) (λ mode. tt {0}))
  layer IExpr-F.This all = from IExpr-F.This refl (fixed P Q twins class good imports params in_constructor first_simple second_simple
      simple locals IExpr-F.This refl good (λ mode. tt {0}))
  layer (IExpr-F.Local number) all = from (IExpr-F.Local number) refl
      (fixed P Q twins class good imports params in_constructor first_simple second_simple simple locals (IExpr-F.Local number) refl
      (local-good P Q twins class good imports params in_constructor first_simple second_simple simple locals
      (map (λ (local : Local Id). local.type) locals.declared) number good_locals)
      (λ mode. (
        name-mode P Q twins class good imports params in_constructor first_simple second_simple simple locals (local_target number)
            (local_text locals number) mode refl,
        tt {0},
      )))
  layer (IExpr-F.Param id) all = from (IExpr-F.Param id) refl
      (step-Param P Q twins class good imports params in_constructor first_simple second_simple simple locals id
      (mentioned (IExpr-F.Param id) all).0.0)
  layer (IExpr-F.Own field) all = from (IExpr-F.Own field) refl
      (own-step P Q twins class good imports params in_constructor first_simple second_simple simple locals field
      (mentioned (IExpr-F.Own field) all).0.0)
  layer (IExpr-F.StaticField field) all =
      from (IExpr-F.StaticField field) refl (step-StaticField P Q twins class good imports params in_constructor first_simple second_simple
      simple locals field (mentioned (IExpr-F.StaticField field) all).0.0)
  layer (IExpr-F.Field field e) all =
      let these = mentioned (IExpr-F.Field field e.0) all in
      let one = e.1 these.1 in
      from (IExpr-F.Field field e.0) (λ i. IExpr-F.Field field (one.same i))
      (step-Field P Q twins class good imports params in_constructor first_simple second_simple simple locals field
      (sa e.0) these.0.0 one.type one.references)
  layer (IExpr-F.Call method args) all =
      let these = mentioned (IExpr-F.Call method (given args)) all in
      let more = arguments-same args these.1 in
      from (IExpr-F.Call method (given args)) (λ i. IExpr-F.Call method (more.same i))
      (step-Call P Q twins class good imports params in_constructor first_simple second_simple simple locals method
      (map ga (given args)) these.0.0 more.references)
  layer (IExpr-F.StaticCall method args) all =
      let these = mentioned (IExpr-F.StaticCall method (given args)) all in
      let more = arguments-same args these.1 in
      from (IExpr-F.StaticCall method (given args)) (λ i. IExpr-F.StaticCall method (more.same i))
      (step-StaticCall P Q twins class good imports params in_constructor first_simple second_simple simple locals method
      (map ga (given args)) these.0.1 these.0.0 more.references)
  layer (IExpr-F.CallOn method e args) all =
      let these = mentioned (IExpr-F.CallOn method e.0 (given args)) all in
      let rest = joined (map argument_mentions (given args)) in
      let one = e.1 (all-front (IsGood P) (expr_mentions e.0) rest these.1) in
      let more = arguments-same args (all-back (IsGood P) (expr_mentions e.0) rest these.1) in
      from (IExpr-F.CallOn method e.0 (given args)) (λ i. IExpr-F.CallOn method (one.same i) (more.same i))
      (step-CallOn P Q twins class good imports params in_constructor first_simple second_simple simple locals method (sa e.0)
      (map ga (given args)) these.0.0 one.type one.references more.references)
  layer (IExpr-F.SuperCall method args) all =
      let these = mentioned (IExpr-F.SuperCall method (given args)) all in
      let more = arguments-same args these.1 in
      from (IExpr-F.SuperCall method (given args)) (λ i. IExpr-F.SuperCall method (more.same i))
      (step-SuperCall P Q twins class good imports params in_constructor first_simple second_simple simple locals method
      (map ga (given args)) these.0.0 more.references)
  layer (IExpr-F.New constructor args) all =
      let these = mentioned (IExpr-F.New constructor (given args)) all in
      let more = arguments-same args these.1 in
      from (IExpr-F.New constructor (given args)) (λ i. IExpr-F.New constructor (more.same i))
      (step-New P Q twins class good imports params in_constructor first_simple second_simple simple locals constructor
      (map ga (given args)) these.0.1 these.0.0 more.references)
  layer (IExpr-F.NewDefault own) all =
      from (IExpr-F.NewDefault own) refl (step-NewDefault P Q twins class good imports params in_constructor first_simple second_simple
      simple locals own (good-class P own (mentioned (IExpr-F.NewDefault own) all).0))
  layer (IExpr-F.Cond test a b) all =
      let these = mentioned (IExpr-F.Cond test.0 a.0 b.0) all in
      let front = all-front (IsGood P) (expr_mentions test.0 ++ expr_mentions a.0) (expr_mentions b.0) these in
      let one = test.1 (all-front (IsGood P) (expr_mentions test.0) (expr_mentions a.0) front) in
      let left = a.1 (all-back (IsGood P) (expr_mentions test.0) (expr_mentions a.0) front) in
      let right = b.1 (all-back (IsGood P) (expr_mentions test.0 ++ expr_mentions a.0) (expr_mentions b.0) these) in
      let types = common-same (sa a.0).static_type (sa b.0).static_type left.type right.type in
      from (IExpr-F.Cond test.0 a.0 b.0) (λ i. IExpr-F.Cond (one.same i) (left.same i) (right.same i))
      (fixed P Q twins class good imports params in_constructor first_simple second_simple simple locals
      (IExpr-F.Cond (sa test.0) (sa a.0) (sa b.0)) (λ i. record {
        tree = made (node.Cond (sa test.0).tree (sa a.0).tree (sa b.0).tree);
        is_this = false;
        static_type = types i;
        references = λ mode. (sa test.0).references None ++ (sa a.0).references None ++ (sa b.0).references None;
      }) (common-good P (program_view P) (sa a.0).static_type (sa b.0).static_type left.type right.type)
      (λ mode. all-both (IsGoodReference P) ((sa test.0).references None ++ (sa a.0).references None) ((sa b.0).references None)
      (two (sa test.0) (sa a.0) (one.references None) (left.references None)) (right.references None)))
  layer (IExpr-F.OutsideName name) all = from (IExpr-F.OutsideName name) refl
      (fixed P Q twins class good imports params in_constructor first_simple second_simple simple locals (IExpr-F.OutsideName name) refl
      (tt {0}) (λ mode. (by mode, tt {0}))) where
        by : (mode : Mode) → IsGoodReference P
            (record { target = outside_target name; asked = asks_name here locals name mode; uses = Some (written_use name); locals = locals })
        by None = record { target = refl; asked = tt {0}; uses = tt {0} }
        by (Some follow) = record { target = refl; asked = tt {0}; uses = tt {0} }
  layer (IExpr-F.OutsideClass full) all = from (IExpr-F.OutsideClass full) refl
      (step-OutsideClass P Q twins class good imports params in_constructor first_simple second_simple simple locals full)
  layer (IExpr-F.OutsideField name e) all =
      let one = e.1 (mentioned (IExpr-F.OutsideField name e.0) all) in
      from (IExpr-F.OutsideField name e.0) (λ i. IExpr-F.OutsideField name (one.same i))
      (fixed P Q twins class good imports params in_constructor first_simple second_simple simple locals
      (IExpr-F.OutsideField name (sa e.0)) refl (field-good P (sa e.0).static_type name one.type)
      (λ mode. all-both (IsGoodReference P) ((sa e.0).references (before name mode)) _ (one.references (before name mode))
      (record { target = refl; asked = one.type; uses = tt {0} }, tt {0})))
  layer (IExpr-F.OutsideCall name es) all =
      let more = each-same es (mentioned (IExpr-F.OutsideCall name (ones es)) all) in
      from (IExpr-F.OutsideCall name (ones es)) (λ i. IExpr-F.OutsideCall name (more.same i))
      (fixed P Q twins class good imports params in_constructor first_simple second_simple simple locals
      (IExpr-F.OutsideCall name (map sa (ones es))) refl (tt {0})
      (λ mode. (record { target = refl; asked = tt {0}; uses = tt {0} }, more.references)))
  layer (IExpr-F.OutsideCallOn name e es) all =
      let these = mentioned (IExpr-F.OutsideCallOn name e.0 (ones es)) all in
      let rest = joined (map expr_mentions (ones es)) in
      let one = e.1 (all-front (IsGood P) (expr_mentions e.0) rest these) in
      let more = each-same es (all-back (IsGood P) (expr_mentions e.0) rest these) in
      from (IExpr-F.OutsideCallOn name e.0 (ones es)) (λ i. IExpr-F.OutsideCallOn name (one.same i) (more.same i))
      (fixed P Q twins class good imports params in_constructor first_simple second_simple simple locals
      (IExpr-F.OutsideCallOn name (sa e.0) (map sa (ones es))) refl (outside-call name (sa e.0).static_type (map sa (ones es)) one.type)
      (λ mode. all-both (IsGoodReference P)
      (after here locals ((sa e.0).references (Some [])) (outside_target name)
      (method_asked (sa e.0).static_type name (length (map sa (ones es)))))
      (each_alone here locals (map sa (ones es)))
      (all-both (IsGoodReference P) ((sa e.0).references (Some [])) _ (one.references (Some []))
      (record { target = refl; asked = one.type; uses = tt {0} }, tt {0}))
      more.references))
  layer (IExpr-F.OutsideSuperCall name es) all =
      let more = each-same es (mentioned (IExpr-F.OutsideSuperCall name (ones es)) all) in
      from (IExpr-F.OutsideSuperCall name (ones es)) (λ i. IExpr-F.OutsideSuperCall name (more.same i))
      (fixed P Q twins class good imports params in_constructor first_simple second_simple simple locals
      (IExpr-F.OutsideSuperCall name (map sa (ones es))) refl (tt {0})
      (λ mode. (record { target = refl; asked = tt {0}; uses = tt {0} }, more.references)))
  layer (IExpr-F.NewOutside type es) all =
      let these = mentioned (IExpr-F.NewOutside type (ones es)) all in
      let rest = joined (map expr_mentions (ones es)) in
      let more = each-same es (all-back (IsGood P) (type_mentions type) rest these) in
      from (IExpr-F.NewOutside type (ones es)) (λ i. IExpr-F.NewOutside type (more.same i))
      (step-NewOutside P Q twins class good imports params in_constructor first_simple second_simple simple locals type
      (all-front (IsGood P) (type_mentions type) rest these) (map sa (ones es)) more.references)
  layer (IExpr-F.NewArray type es pairs) all =
      let these = mentioned (IExpr-F.NewArray type (ones es) pairs) all in
      let rest = joined (map expr_mentions (ones es)) in
      let more = each-same es (all-back (IsGood P) (type_mentions type) rest these) in
      from (IExpr-F.NewArray type (ones es) pairs) (λ i. IExpr-F.NewArray type (more.same i) pairs)
      (step-NewArray P Q twins class good imports params in_constructor first_simple second_simple simple locals type
      (all-front (IsGood P) (type_mentions type) rest these) (map sa (ones es)) pairs more.references)
  layer (IExpr-F.ArrayLit type es) all =
      let these = mentioned (IExpr-F.ArrayLit type (ones es)) all in
      let rest = joined (map expr_mentions (ones es)) in
      let more = each-same es (all-back (IsGood P) (type_mentions type) rest these) in
      from (IExpr-F.ArrayLit type (ones es)) (λ i. IExpr-F.ArrayLit type (more.same i))
      (step-ArrayLit P Q twins class good imports params in_constructor first_simple second_simple simple locals type
      (all-front (IsGood P) (type_mentions type) rest these) (map sa (ones es)) more.references)
  layer (IExpr-F.Braces es) all =
      let more = each-same es (mentioned (IExpr-F.Braces (ones es)) all) in
      from (IExpr-F.Braces (ones es)) (λ i. IExpr-F.Braces (more.same i))
      (fixed P Q twins class good imports params in_constructor first_simple second_simple simple locals
      (IExpr-F.Braces (map sa (ones es))) refl (tt {0}) (λ mode. more.references))
  layer (IExpr-F.Index a b) all =
      let these = mentioned (IExpr-F.Index a.0 b.0) all in
      let left = a.1 (all-front (IsGood P) (expr_mentions a.0) (expr_mentions b.0) these) in
      let right = b.1 (all-back (IsGood P) (expr_mentions a.0) (expr_mentions b.0) these) in
      from (IExpr-F.Index a.0 b.0) (λ i. IExpr-F.Index (left.same i) (right.same i))
      (fixed P Q twins class good imports params in_constructor first_simple second_simple simple locals
      (IExpr-F.Index (sa a.0) (sa b.0)) refl (item-good P (sa a.0).static_type left.type)
      (λ mode. all-both (IsGoodReference P) ((sa a.0).references None) _ (left.references None)
      (record { target = refl; asked = tt {0}; uses = tt {0} }, right.references None)))
  layer (IExpr-F.Unary op e) all =
      let one = e.1 (mentioned (IExpr-F.Unary op e.0) all) in
      from (IExpr-F.Unary op e.0) (λ i. IExpr-F.Unary op (one.same i))
      (fixed P Q twins class good imports params in_constructor first_simple second_simple simple locals (IExpr-F.Unary op (sa e.0)) refl
      (unary-good P op (sa e.0).static_type one.type) (λ mode. one.references None))
  layer (IExpr-F.Post op e) all =
      let one = e.1 (mentioned (IExpr-F.Post op e.0) all) in
      from (IExpr-F.Post op e.0) (λ i. IExpr-F.Post op (one.same i))
      (fixed P Q twins class good imports params in_constructor first_simple second_simple simple locals
      (IExpr-F.Post op (sa e.0)) refl one.type (λ mode. one.references None))
  layer (IExpr-F.Binary op a b) all =
      let these = mentioned (IExpr-F.Binary op a.0 b.0) all in
      let left = a.1 (all-front (IsGood P) (expr_mentions a.0) (expr_mentions b.0) these) in
      let right = b.1 (all-back (IsGood P) (expr_mentions a.0) (expr_mentions b.0) these) in
      from (IExpr-F.Binary op a.0 b.0) (λ i. IExpr-F.Binary op (left.same i) (right.same i))
      (fixed P Q twins class good imports params in_constructor first_simple second_simple simple locals
      (IExpr-F.Binary op (sa a.0) (sa b.0)) refl (binary-good P op)
      (λ mode. two (sa a.0) (sa b.0) (left.references None) (right.references None)))
  layer (IExpr-F.Assign op a b) all =
      let these = mentioned (IExpr-F.Assign op a.0 b.0) all in
      let left = a.1 (all-front (IsGood P) (expr_mentions a.0) (expr_mentions b.0) these) in
      let right = b.1 (all-back (IsGood P) (expr_mentions a.0) (expr_mentions b.0) these) in
      from (IExpr-F.Assign op a.0 b.0) (λ i. IExpr-F.Assign op (left.same i) (right.same i))
      (fixed P Q twins class good imports params in_constructor first_simple second_simple simple locals
      (IExpr-F.Assign op (sa a.0) (sa b.0)) refl left.type
      (λ mode. two (sa a.0) (sa b.0) (left.references None) (right.references None)))
  layer (IExpr-F.Cast type e) all =
      let these = mentioned (IExpr-F.Cast type e.0) all in
      let one = e.1 (all-back (IsGood P) (type_mentions type) (expr_mentions e.0) these) in
      from (IExpr-F.Cast type e.0) (λ i. IExpr-F.Cast type (one.same i))
      (step-Cast P Q twins class good imports params in_constructor first_simple second_simple simple locals type
      (all-front (IsGood P) (type_mentions type) (expr_mentions e.0) these) (sa e.0) (one.references None))
  layer (IExpr-F.InstanceOf e type) all =
      let these = mentioned (IExpr-F.InstanceOf e.0 type) all in
      let one = e.1 (all-front (IsGood P) (expr_mentions e.0) (type_mentions type) these) in
      from (IExpr-F.InstanceOf e.0 type) (λ i. IExpr-F.InstanceOf (one.same i) type)
      (step-InstanceOf P Q twins class good imports params in_constructor first_simple second_simple simple locals type
      (all-back (IsGood P) (expr_mentions e.0) (type_mentions type) these) (sa e.0) (one.references None))

  argument-alike : (value : With) (param : Id) → IsAlikeArgument (roll-Argument (record { param = param; value = value.0 }))
  argument-alike value param all =
      let one = fold-roll-Argument SpelledExpr SpelledExpr (expr_step here locals) (argument_step here locals)
      (record { param = param; value = value.0 }) in
      let other = fold-roll-Argument SpelledExpr SpelledExpr (expr_step there locals) (argument_step there locals)
      (record { param = param; value = value.0 }) in
      let mentions = fold-roll-Argument (List Mention) (List Mention) mentioning.expr_step mentioning.argument_step
      (record { param = param; value = value.0 }) in
      let same = value.1 (subst (AreGood P) mentions all) in
      record {
        same = one ∙ same.same ∙ sym other;
        type = subst (λ (s : SpelledExpr). IsGoodValue P s.static_type) (sym one) same.type;
        references = λ mode. subst (λ (s : SpelledExpr). Refs (s.references mode)) (sym one) (same.references mode);
      }

  -- an expression is written alike
  pub expr-alike : (e : IExpr) → IsAlike e
  expr-alike = ind-IExpr IsAlike IsAlikeArgument (λ x y is. subst (λ z. IsAlike (roll-IExpr z)) is (layer y))
      (λ x y is. subst (λ z. IsAlikeArgument (roll-Argument z)) is (argument-alike y.value y.param))
