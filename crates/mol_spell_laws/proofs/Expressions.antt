-- Expressions of a program that have their forms, and mention what is known, are written as trees that are printable, and what they
-- name may be imported.
use Rattle.std.proofs.Common.{◌≡◌, ◌+◌, ◌≤◌, Bool, true, false, List, [], ◌∷◌, ◌++◌, map, length, Some, None, refl, sym, ◌∙◌, ap, subst, arith}
use Rattle.std.specs.Prelude.{◌&&◌, ◌||◌, not, nat_le, if◌then◌else◌}
use Rattle.std.specs.FinMap.{get}
use Rattle.std.specs.List.{list_all}
use Rattle.std.proofs.lemmas.Bool.{and_parts, or_right}
use Rattle.mol_base.specs.Operators.{is_step, is_prefix, is_assignment}
use Rattle.mol_base.specs.declared.ident.Id.{Id}
use Rattle.mol_spell_rules.specs.references.References.{field_target, method_target, outside_target, index_target}
use Rattle.jav_tree.specs.PrintableExpressions.{ExprUses, TypeUses, type_uses, effect_where, target_where}
use Rattle.jav_tree.specs.TokenTexts.{is_name, is_dotted_name}
use Rattle.jav_tree.specs.Widths.{type_width}
use Rattle.jav_tree.specs.declared.expr.ExprNode.TheVariants as node
use Rattle.jav_tree.specs.declared.types.TypeName.TheVariants as types
use Rattle.jav_names.specs.DottedNames.{Name}
use Rattle.mol_resolve_rules.specs.Locals.{Locals}
use Rattle.mol_resolve_rules.specs.ReadTrees.{Mode, before}
use Rattle.mol_spell_rules.specs.SpelledExpressions.{SpelledExpr, made, dot_tree, trees, local_text, hides, importable_names, name_of, type_here, reads_field, reads_method, own_form, static_form, call_form, static_call_form, class_text, constructor_text, param_name, field_tree, call_tree, tree_step, field_reference, call_reference, plain, each_alone, after, references_step, expr_step, argument_step, spelled_expr}
use Rattle.mol_spell_rules.specs.Writers.{Writer, outside_import, field_asked, method_asked, index_asked, Reference}
use Rattle.mol_table_rules.specs.ExpressionForms as forms
use Rattle.mol_table_rules.specs.ExpressionForms.{Shape, is_value, is_first_value, are_values, are_arguments, is_binary, shape_of}
use Rattle.mol_table_rules.specs.Mentions as mention
use Rattle.mol_table_rules.specs.Mentions.{Mention, a_class, a_field, a_called_method, a_static_method, a_constructor, named, joined, type_mentions, expr_mentions}
use Rattle.mol_table_rules.specs.Program.{Program}
use Rattle.mol_table_rules.specs.Rules.{IsProgram, fills}
use Rattle.mol_table_rules.specs.TypeForms.{is_type, is_array, is_outside_class, outside_step, class_step, dimensions}
use Rattle.mol_values_types.specs.declared.iexpr.Argument.{Argument, fold-Argument}
use Rattle.mol_values_types.specs.declared.iexpr.IExpr.{IExpr}
use Rattle.mol_values_types.specs.declared.iexpr.IExpr.TheFolds.{fold-roll-IExpr, fold-roll-Argument, ind-IExpr, map-IExpr}
use Rattle.mol_values_types.specs.declared.iexpr.IExpr.TheOpen.{IExpr-F}
use Rattle.mol_values_types.specs.declared.iexpr.IExpr.TheViews.{roll-IExpr, roll-Argument}
use Rattle.mol_values_types.specs.declared.itype.IType.{IType, fold-IType}
use Rattle.mol_values_types.specs.declared.known.Known.TheVariants as knowns
use Rattle.jav_print_laws.proofs.printable_lemmas.Expressions.{both}
use Rattle.mol_spell_laws.proofs.ExpressionTrees.{Fits, ValuesFit, no-values, before-none, before-some, fits-Lit, fits-This, fits-name, fits-dot, fits-names, fits-Call, fits-SuperCall, fits-New, fits-NewArray, fits-ArrayLit, fits-Braces, fits-Index, fits-Unary, fits-Post, fits-Binary, fits-Assign, fits-Cond, fits-Cast, fits-InstanceOf}
use Rattle.mol_spell_laws.proofs.KnownNames.{IsCalled, static, field-fills, static-fills, called-fills, field-named, method-named}
use Rattle.mol_spell_laws.proofs.TypeTrees.{uses-Named, are_uses, both-use, are_known, both-known, TypeFits, is_named, is_class_type, names-spelled, type-fits, narrow-type}
use Rattle.mol_spell_laws.proofs.ExpressionParts as piece
use Rattle.mol_spell_laws.proofs.ExpressionParts.{are_named, local-named, uses_of, value-parts, prefixed-uses, PartFits}

module _ (writer : Writer) (rules : IsProgram writer.program) (owner : Id) (locals : Locals Id) (are-named : are_named locals ≡ true) where
  abbrev program : Program
  program = writer.program

  abbrev all : List Mention → Bool
  all = are_known program owner

  abbrev uses : List Reference → Bool
  uses = are_uses program

  abbrev here : Name → Bool
  here = hides writer locals

  -- ---- the folds

  abbrev spelled : IExpr → SpelledExpr
  spelled = spelled_expr writer locals

  abbrev spelled_argument : Argument → SpelledExpr
  spelled_argument = fold-Argument SpelledExpr SpelledExpr (expr_step writer locals) (argument_step writer locals)

  abbrev argument_shape : Argument → Shape
  argument_shape = fold-Argument Shape Shape forms.shape_step forms.argument_step

  abbrev argument_mentions : Argument → List Mention
  argument_mentions = fold-Argument (List Mention) (List Mention) mention.expr_step mention.argument_step

  abbrev Right : IExpr → Type 0
  Right e = piece.Claim writer rules owner locals (shape_of e) (expr_mentions e) (spelled e)

  abbrev RightArgument : Argument → Type 0
  RightArgument argument = piece.Claim writer rules owner locals (argument_shape argument) (argument_mentions argument)
      (spelled_argument argument)

  abbrev With : Type 0
  With = (e : IExpr) × Right e

  abbrev WithArgument : Type 0
  WithArgument = (argument : Argument) × RightArgument argument

  abbrev exprs_in : List With → List IExpr
  exprs_in es = map (λ p. p.0) es

  abbrev arguments_in : List WithArgument → List Argument
  arguments_in args = map (λ p. p.0) args

  each-right : (es : List With) → piece.Each writer rules owner locals shape_of expr_mentions spelled (exprs_in es)
  each-right [] = tt
  each-right (e ∷ es) = (e.1, each-right es)

  each-argument : (args : List WithArgument) → piece.Each writer rules owner locals argument_shape argument_mentions spelled_argument
      (arguments_in args)
  each-argument [] = tt
  each-argument (a ∷ args) = (a.1, each-argument args)

  from : (x : IExpr-F IExpr Argument)
      → piece.Claim writer rules owner locals (forms.shape_step (map-IExpr _ _ _ _ shape_of argument_shape x))
      (mention.expr_step (map-IExpr _ _ _ _ expr_mentions argument_mentions x))
      (expr_step writer locals (map-IExpr _ _ _ _ spelled spelled_argument x))
      → Right (roll-IExpr x)
  from x claim = rw (
    fold-roll-IExpr Shape Shape forms.shape_step forms.argument_step x,
    fold-roll-IExpr (List Mention) (List Mention) mention.expr_step mention.argument_step x,
    fold-roll-IExpr SpelledExpr SpelledExpr (expr_step writer locals) (argument_step writer locals) x,
  ) claim

  -- ---- members, as values mention them

  field-is : (field : Id) → all (named a_field field) ≡ true → is_name (name_of writer locals field) ≡ true
  field-is field are = field-named program rules field
      (field-fills owner (get program.known field) (and_parts (fills owner a_field (get program.known field)) true are).0)

  called-is : (method : Id) → all (named a_called_method method) ≡ true → is_name (name_of writer locals method) ≡ true
  called-is method are = method-named program rules method
      (called-fills owner (get program.known method) (and_parts (fills owner a_called_method (get program.known method)) true are).0)

  static-is : (method : Id) → all (named a_static_method method) ≡ true → is_name (name_of writer locals method) ≡ true
  static-is method are = method-named program rules method
      (subst IsCalled (sym (static-fills owner (get program.known method)
      (and_parts (fills owner a_static_method (get program.known method)) true are).0)) static)

  class-is : (class : Id) → all (named a_class class) ≡ true → get program.known class ≡ Some knowns.Class
  class-is class are = piece.class-of writer rules owner locals class (and_parts (fills owner a_class (get program.known class)) true are).0

  -- ---- members of values

  abbrev Made : ExprUses → IExpr-F SpelledExpr SpelledExpr → Type 0
  Made may node = Fits may (tree_step writer locals node) × ((mode : Mode) → uses (references_step writer locals node mode) ≡ true)

  field-on : (field : Id) (shape : Shape) (part : SpelledExpr) → PartFits program shape part → (uses_of shape).is_value ≡ true
      → is_name (name_of writer locals field) ≡ true → Made (target_where true) (IExpr-F.Field field part)
  field-on field shape part fits value named = (tree part.is_this, λ mode. names part.is_this mode) where
    owned : piece.IsOwned writer rules owner locals (own_form writer locals field)
    owned = piece.on-this writer rules owner locals (reads_field writer locals field)

    tree : (b : Bool) → Fits (target_where true)
        (if b then field_tree writer locals (own_form writer locals field) field else dot_tree part.tree (name_of writer locals field))
    tree true = piece.field-fits writer rules owner locals (own_form writer locals field) owned field named
    tree false = fits-dot (uses_of shape) part.tree (name_of writer locals field) fits.tree value named

    names : (b : Bool) (mode : Mode)
        → uses (if b then field_reference writer locals (own_form writer locals field) field mode ∷ []
        else after writer locals (part.references (before (name_of writer locals field) mode)) (field_target field)
        (field_asked part.static_type (name_of writer locals field))) ≡ true
    names true mode = piece.field-uses writer rules owner locals (own_form writer locals field) owned field mode
    names false mode = piece.after-uses writer rules owner locals (part.references (before (name_of writer locals field) mode)) _ _
        (fits.names (before (name_of writer locals field) mode))

  call-on : (method : Id) (shape : Shape) (part : SpelledExpr) (args : List SpelledExpr) → PartFits program shape part
      → (uses_of shape).is_value ≡ true → is_name (name_of writer locals method) ≡ true → ValuesFit (trees args)
      → length (trees args) ≤ 255 → uses (each_alone writer locals args) ≡ true → Made (effect_where true) (IExpr-F.CallOn method part args)
  call-on method shape part args fits value named values few are = (tree part.is_this, λ mode. names part.is_this) where
    owned : piece.IsOwned writer rules owner locals (call_form writer locals method (length args))
    owned = piece.on-this writer rules owner locals (reads_method writer locals method (length args))

    tree : (b : Bool) → Fits (effect_where true)
        (if b then call_tree writer locals (call_form writer locals method (length args)) method args
        else made (node.Call (Some part.tree) (name_of writer locals method) (trees args)))
    tree true = piece.call-fits writer rules owner locals (call_form writer locals method (length args)) owned method args named values few
    tree false = fits-Call (Some part.tree) (name_of writer locals method) (trees args)
        (before-some (uses_of shape) part.tree fits.tree value)
        named values few

    names : (b : Bool)
        → uses ((if b then call_reference writer locals (call_form writer locals method (length args)) method (length args) ∷ []
        else after writer locals (part.references (Some [])) (method_target method)
        (method_asked part.static_type (name_of writer locals method) (length args))) ++ each_alone writer locals args) ≡ true
    names true = piece.call-uses writer rules owner locals (call_form writer locals method (length args)) owned method (length args)
        (each_alone writer locals args) are
    names false = both-use program (after writer locals (part.references (Some [])) (method_target method)
        (method_asked part.static_type (name_of writer locals method) (length args))) (each_alone writer locals args)
        (piece.after-uses writer rules owner locals (part.references (Some [])) _ _ (fits.names (Some []))) are

  -- ---- types

  type-here : (type : IType) → is_type type ≡ true → all (type_mentions type) ≡ true
      → TypeFits program (is_array type) (is_class_type type) (dimensions type) (type_here writer locals type)
  type-here type formed are = type-fits writer rules owner here locals type formed are

  narrow-here : (type : IType) → is_type type ≡ true → (fits : TypeFits program (is_array type) (is_class_type type) (dimensions type)
      (type_here writer locals type))
      → type_width (type_here writer locals type).tree ≤ 255
  narrow-here type formed fits = narrow-type writer rules owner here locals (is_array type) (is_class_type type) (dimensions type)
      (type_here writer locals type) fits
      (and_parts (is_named type) (nat_le (dimensions type) 255) formed).1

  typed-here : (type : IType) → TypeFits program (is_array type) (is_class_type type) (dimensions type) (type_here writer locals type)
      → (type_uses (type_here writer locals type).tree).is_type ≡ true
  typed-here type fits = ap (λ (u : TypeUses). u.is_type) fits.uses

  class-text : (text : Name) → is_dotted_name text ≡ true → (type_uses (types.Named text)).is_class ≡ true
  class-text text dotted = ap (λ (u : TypeUses). u.is_class) (uses-Named text) ∙ dotted

  -- ---- each expression

  layer : (y : IExpr-F With WithArgument) → Right (roll-IExpr (map-IExpr _ _ _ _ (λ p. p.0) (λ p. p.0) y))
  layer (IExpr-F.Lit text) = from (IExpr-F.Lit text) (λ formed are. record { tree = fits-Lit text formed; names = λ mode. refl })
  layer IExpr-F.This = from IExpr-F.This (λ formed are. record { tree = fits-This; names = λ mode. refl })
  layer (IExpr-F.Local number) = from (IExpr-F.Local number) (λ formed are. record {
    tree = fits-name (local_text locals number) (local-named locals.declared number are-named);
    names = λ mode. refl;
  })
  layer (IExpr-F.Param id) = from (IExpr-F.Param id) (λ formed are. record {
    tree = fits-name (param_name writer locals id) (piece.param-name-is writer rules owner locals id);
    names = λ mode. refl;
  })
  layer (IExpr-F.Own field) = from (IExpr-F.Own field) (λ formed are. record {
    tree = piece.field-fits writer rules owner locals (own_form writer locals field)
        (piece.on-this writer rules owner locals (reads_field writer locals field)) field (field-is field are);
    names = λ mode. piece.field-uses writer rules owner locals (own_form writer locals field)
        (piece.on-this writer rules owner locals (reads_field writer locals field)) field mode;
  })
  layer (IExpr-F.StaticField field) = from (IExpr-F.StaticField field) (λ formed are. record {
    tree = piece.field-fits writer rules owner locals (static_form writer locals field)
        (piece.static-owned writer rules owner locals field) field (field-is field are);
    names = λ mode. piece.field-uses writer rules owner locals (static_form writer locals field)
        (piece.static-owned writer rules owner locals field) field mode;
  })
  layer (IExpr-F.Field field e) = from (IExpr-F.Field field e.0) (λ formed are.
      let value = value-parts (shape_of e.0) formed in
      let mentioned = both-known program owner (named a_field field) (expr_mentions e.0) are in
      let fits = field-on field (shape_of e.0) (spelled e.0) (e.1 value.0 mentioned.1) value.1 (field-is field mentioned.0) in
      record { tree = fits.0; names = fits.1 })
  layer (IExpr-F.Call method args) = from (IExpr-F.Call method (arguments_in args)) (λ formed are.
      let parts = map spelled_argument (arguments_in args) in
      let mentioned = both-known program owner (named a_called_method method) (joined (map argument_mentions (arguments_in args))) are in
      let fits = piece.arguments-fit writer rules owner locals argument_shape argument_mentions spelled_argument (arguments_in args)
      (each-argument args) formed mentioned.1 in
      let form = call_form writer locals method (length parts) in
      let owned = piece.on-this writer rules owner locals (reads_method writer locals method (length parts)) in
      record {
        tree = piece.call-fits writer rules owner locals form owned method parts (called-is method mentioned.0) fits.fit fits.few;
        names = λ mode. piece.call-uses writer rules owner locals form owned method (length parts)
            (each_alone writer locals parts) fits.names;
      })
  layer (IExpr-F.StaticCall method args) = from (IExpr-F.StaticCall method (arguments_in args)) (λ formed are.
      let parts = map spelled_argument (arguments_in args) in
      let mentioned = both-known program owner (named a_static_method method) (joined (map argument_mentions (arguments_in args))) are in
      let fits = piece.arguments-fit writer rules owner locals argument_shape argument_mentions spelled_argument (arguments_in args)
      (each-argument args) formed mentioned.1 in
      let form = static_call_form writer locals method (length parts) in
      let owned = piece.static-call-owned writer rules owner locals method (length parts) in
      record {
        tree = piece.call-fits writer rules owner locals form owned method parts (static-is method mentioned.0) fits.fit fits.few;
        names = λ mode. piece.call-uses writer rules owner locals form owned method (length parts)
            (each_alone writer locals parts) fits.names;
      })
  layer (IExpr-F.CallOn method e args) = from (IExpr-F.CallOn method e.0 (arguments_in args)) (λ formed are.
      let two = and_parts (is_value (shape_of e.0)) (are_arguments (map argument_shape (arguments_in args))) formed in
      let value = value-parts (shape_of e.0) two.0 in
      let mentioned = both-known program owner (named a_called_method method ++ expr_mentions e.0)
      (joined (map argument_mentions (arguments_in args))) are in
      let front = both-known program owner (named a_called_method method) (expr_mentions e.0) mentioned.0 in
      let fits = piece.arguments-fit writer rules owner locals argument_shape argument_mentions spelled_argument (arguments_in args)
      (each-argument args) two.1 mentioned.1 in
      let all = call-on method (shape_of e.0) (spelled e.0) (map spelled_argument (arguments_in args)) (e.1 value.0 front.1) value.1
      (called-is method front.0) fits.fit fits.few fits.names in
      record { tree = all.0; names = all.1 })
  layer (IExpr-F.SuperCall method args) = from (IExpr-F.SuperCall method (arguments_in args)) (λ formed are.
      let mentioned = both-known program owner (named a_called_method method) (joined (map argument_mentions (arguments_in args))) are in
      let fits = piece.arguments-fit writer rules owner locals argument_shape argument_mentions spelled_argument (arguments_in args)
      (each-argument args) formed mentioned.1 in
      record {
        tree = fits-SuperCall (name_of writer locals method) _ (called-is method mentioned.0) fits.fit fits.few;
        names = λ mode. fits.names;
      })
  layer (IExpr-F.New constructor args) = from (IExpr-F.New constructor (arguments_in args)) (λ formed are.
      let parts = map spelled_argument (arguments_in args) in
      let mentioned = both-known program owner (named a_constructor constructor) (joined (map argument_mentions (arguments_in args))) are in
      let fits = piece.arguments-fit writer rules owner locals argument_shape argument_mentions spelled_argument (arguments_in args)
      (each-argument args) formed mentioned.1 in
      let text = constructor_text writer locals constructor in
      record {
        tree = fits-New (types.Named text) _ (class-text text
            (piece.constructor-text-is writer rules owner locals constructor)) fits.fit fits.few;
        names = λ mode. piece.constructor-uses writer rules owner locals constructor (length parts)
            (each_alone writer locals parts) fits.names;
      })
  layer (IExpr-F.NewDefault class) = from (IExpr-F.NewDefault class) (λ formed are.
      let known = class-is class are in
      let text = class_text writer locals class in
      record {
        tree = fits-New (types.Named text) [] (class-text text
            (piece.class-names writer rules owner locals class known).joined) no-values (omega arith);
        names = λ mode. both (piece.using-class writer rules owner locals class known) refl;
      })
  layer (IExpr-F.Cond test a b) = from (IExpr-F.Cond test.0 a.0 b.0) (λ formed are.
      let three = and_parts (is_value (shape_of test.0) && is_value (shape_of a.0)) (is_value (shape_of b.0)) formed in
      let two = and_parts (is_value (shape_of test.0)) (is_value (shape_of a.0)) three.0 in
      let last = both-known program owner (expr_mentions test.0 ++ expr_mentions a.0) (expr_mentions b.0) are in
      let front = both-known program owner (expr_mentions test.0) (expr_mentions a.0) last.0 in
      let v = value-parts (shape_of test.0) two.0 in
      let w = value-parts (shape_of a.0) two.1 in
      let x = value-parts (shape_of b.0) three.1 in
      let f = test.1 v.0 front.0 in
      let g = a.1 w.0 front.1 in
      let h = b.1 x.0 last.1 in
      record {
        tree = fits-Cond (uses_of (shape_of test.0)) (uses_of (shape_of a.0)) (uses_of (shape_of b.0)) (spelled test.0).tree
            (spelled a.0).tree (spelled b.0).tree f.tree v.1 g.tree w.1 h.tree x.1;
        names = λ mode. both-use program (((spelled test.0).references None) ++ ((spelled a.0).references None))
            ((spelled b.0).references None)
            (both-use program ((spelled test.0).references None) ((spelled a.0).references None) (f.names None) (g.names None))
            (h.names None);
      })
  layer (IExpr-F.OutsideName name) = from (IExpr-F.OutsideName name)
      (λ formed are. record { tree = fits-name name formed; names = λ mode. refl })
  layer (IExpr-F.OutsideClass full) = from (IExpr-F.OutsideClass full) (λ formed are. record {
    tree = fits-names (importable_names writer locals (outside_import full))
        (names-spelled writer rules here (outside_import full) formed).each;
    names = λ mode. both formed refl;
  })
  layer (IExpr-F.OutsideField name e) = from (IExpr-F.OutsideField name e.0) (λ formed are.
      let parts = and_parts (is_name name) (is_value (shape_of e.0)) formed in
      let value = value-parts (shape_of e.0) parts.1 in
      let fits = e.1 value.0 are in
      record {
        tree = fits-dot (uses_of (shape_of e.0)) (spelled e.0).tree name fits.tree value.1 parts.0;
        names = λ mode. piece.after-uses writer rules owner locals ((spelled e.0).references (before name mode)) _ _
            (fits.names (before name mode));
      })
  layer (IExpr-F.OutsideCall name args) = from (IExpr-F.OutsideCall name (exprs_in args)) (λ formed are.
      let parts = and_parts (is_name name) (are_arguments (map shape_of (exprs_in args))) formed in
      let fits = piece.arguments-fit writer rules owner locals shape_of expr_mentions spelled (exprs_in args)
      (each-right args) parts.1 are in
      record { tree = fits-Call None name _ before-none parts.0 fits.fit fits.few; names = λ mode. fits.names })
  layer (IExpr-F.OutsideCallOn name e args) = from (IExpr-F.OutsideCallOn name e.0 (exprs_in args)) (λ formed are.
      let parts = and_parts (is_name name && is_value (shape_of e.0)) (are_arguments (map shape_of (exprs_in args))) formed in
      let front = and_parts (is_name name) (is_value (shape_of e.0)) parts.0 in
      let value = value-parts (shape_of e.0) front.1 in
      let mentioned = both-known program owner (expr_mentions e.0) (joined (map expr_mentions (exprs_in args))) are in
      let fits = piece.arguments-fit writer rules owner locals shape_of expr_mentions spelled (exprs_in args)
      (each-right args) parts.1 mentioned.1 in
      let on = e.1 value.0 mentioned.0 in
      record {
        tree = fits-Call (Some (spelled e.0).tree) name _ (before-some (uses_of (shape_of e.0)) (spelled e.0).tree on.tree value.1) front.0
            fits.fit fits.few;
        names = λ mode. both-use program (after writer locals ((spelled e.0).references (Some [])) (outside_target name)
            (method_asked (spelled e.0).static_type name (length (map spelled (exprs_in args)))))
            (each_alone writer locals (map spelled (exprs_in args))) (piece.after-uses writer rules owner locals
            ((spelled e.0).references (Some [])) _ _ (on.names (Some []))) fits.names;
      })
  layer (IExpr-F.OutsideSuperCall name args) = from (IExpr-F.OutsideSuperCall name (exprs_in args)) (λ formed are.
      let parts = and_parts (is_name name) (are_arguments (map shape_of (exprs_in args))) formed in
      let fits = piece.arguments-fit writer rules owner locals shape_of expr_mentions spelled (exprs_in args)
      (each-right args) parts.1 are in
      record { tree = fits-SuperCall name _ parts.0 fits.fit fits.few; names = λ mode. fits.names })
  layer (IExpr-F.NewOutside type args) = from (IExpr-F.NewOutside type (exprs_in args)) (λ formed are.
      let parts = and_parts (is_outside_class type) (are_arguments (map shape_of (exprs_in args))) formed in
      let class = and_parts (fold-IType Bool outside_step type) (is_type type) parts.0 in
      let mentioned = both-known program owner (type_mentions type) (joined (map expr_mentions (exprs_in args))) are in
      let fits = piece.arguments-fit writer rules owner locals shape_of expr_mentions spelled (exprs_in args)
      (each-right args) parts.1 mentioned.1 in
      let typed = type-here type class.1 mentioned.0 in
      record {
        tree = fits-New _ _ (ap (λ (u : TypeUses). u.is_class) typed.uses ∙ or_right
            (fold-IType Bool class_step type) _ class.0) fits.fit fits.few;
        names = λ mode. both-use program (type_here writer locals type).references
            (each_alone writer locals (map spelled (exprs_in args))) typed.names fits.names;
      })
  layer (IExpr-F.NewArray type sizes pairs) = from (IExpr-F.NewArray type (exprs_in sizes) pairs) (λ formed are.
      let shapes = map shape_of (exprs_in sizes) in
      let last = and_parts (is_type type && not (is_array type) && are_values shapes && nat_le 1 (length shapes))
      (nat_le (length shapes + pairs) 255) formed in
      let some = and_parts (is_type type && not (is_array type) && are_values shapes) (nat_le 1 (length shapes)) last.0 in
      let values = and_parts (is_type type && not (is_array type)) (are_values shapes) some.0 in
      let typed = and_parts (is_type type) (not (is_array type)) values.0 in
      let mentioned = both-known program owner (type_mentions type) (joined (map expr_mentions (exprs_in sizes))) are in
      let fits = piece.list-fits writer rules owner locals shape_of expr_mentions spelled (exprs_in sizes)
      (each-right sizes) values.1 mentioned.1 in
      let base = type-here type typed.0 mentioned.0 in
      record {
        tree = fits-NewArray (type_here writer locals type).tree _ pairs (ap (λ (u : TypeUses). u.is_base) base.uses ∙ typed.1)
            (piece.some-sizes writer rules owner locals shape_of expr_mentions spelled (exprs_in sizes) some.1) fits.fit
            (piece.few-sizes writer rules owner locals shape_of expr_mentions spelled (exprs_in sizes) pairs last.1);
        names = λ mode. both-use program (type_here writer locals type).references
            (each_alone writer locals (map spelled (exprs_in sizes))) base.names fits.names;
      })
  layer (IExpr-F.ArrayLit type items) = from (IExpr-F.ArrayLit type (exprs_in items)) (λ formed are.
      let shapes = map shape_of (exprs_in items) in
      let last = and_parts (is_type type && is_array type) (list_all is_first_value shapes) formed in
      let typed = and_parts (is_type type) (is_array type) last.0 in
      let mentioned = both-known program owner (type_mentions type) (joined (map expr_mentions (exprs_in items))) are in
      let fits = piece.braces-fit writer rules owner locals shape_of expr_mentions spelled (exprs_in items)
      (each-right items) last.1 mentioned.1 in
      let array = type-here type typed.0 mentioned.0 in
      record {
        tree = fits-ArrayLit (type_here writer locals type).tree _ (ap (λ (u : TypeUses). u.is_array) array.uses ∙ typed.1)
            (narrow-here type typed.0 array) fits.fit;
        names = λ mode. both-use program (type_here writer locals type).references
            (each_alone writer locals (map spelled (exprs_in items))) array.names fits.names;
      })
  layer (IExpr-F.Braces items) = from (IExpr-F.Braces (exprs_in items)) (λ formed are.
      let fits = piece.braces-fit writer rules owner locals shape_of expr_mentions spelled (exprs_in items) (each-right items) formed are in
      record { tree = fits-Braces _ fits.fit; names = λ mode. fits.names })
  layer (IExpr-F.Index e index) = from (IExpr-F.Index e.0 index.0) (λ formed are.
      let parts = and_parts (is_value (shape_of e.0)) (is_value (shape_of index.0)) formed in
      let v = value-parts (shape_of e.0) parts.0 in
      let w = value-parts (shape_of index.0) parts.1 in
      let mentioned = both-known program owner (expr_mentions e.0) (expr_mentions index.0) are in
      let f = e.1 v.0 mentioned.0 in
      let g = index.1 w.0 mentioned.1 in
      record {
        tree = fits-Index (uses_of (shape_of e.0)) (uses_of (shape_of index.0)) (spelled e.0).tree
            (spelled index.0).tree f.tree v.1 g.tree w.1;
        names = λ mode. both-use program ((spelled e.0).references None)
            (plain writer locals index_target (index_asked (spelled e.0).static_type) ∷ (spelled index.0).references None) (f.names None)
            (g.names None);
      })
  layer (IExpr-F.Unary op e) = from (IExpr-F.Unary op e.0) (λ formed are.
      let parts = and_parts (is_value (shape_of e.0)) (is_prefix op || (is_step op && (shape_of e.0).target)) formed in
      let fits = e.1 (value-parts (shape_of e.0) parts.0).0 are in
      record {
        tree = subst (λ (may : ExprUses). Fits may (made (node.Unary op (spelled e.0).tree))) (prefixed-uses op (shape_of e.0) formed)
            (fits-Unary (uses_of (shape_of e.0)) op (spelled e.0).tree fits.tree);
        names = λ mode. fits.names None;
      })
  layer (IExpr-F.Post op e) = from (IExpr-F.Post op e.0) (λ formed are.
      let last = and_parts (is_value (shape_of e.0) && is_step op) (shape_of e.0).target formed in
      let parts = and_parts (is_value (shape_of e.0)) (is_step op) last.0 in
      let value = value-parts (shape_of e.0) parts.0 in
      let fits = e.1 value.0 are in
      record {
        tree = fits-Post (uses_of (shape_of e.0)) op (spelled e.0).tree fits.tree value.1 last.1 parts.1;
        names = λ mode. fits.names None;
      })
  layer (IExpr-F.Binary op a b) = from (IExpr-F.Binary op a.0 b.0) (λ formed are.
      let last = and_parts (is_binary op && is_value (shape_of a.0)) (is_value (shape_of b.0)) formed in
      let parts = and_parts (is_binary op) (is_value (shape_of a.0)) last.0 in
      let v = value-parts (shape_of a.0) parts.1 in
      let w = value-parts (shape_of b.0) last.1 in
      let mentioned = both-known program owner (expr_mentions a.0) (expr_mentions b.0) are in
      let f = a.1 v.0 mentioned.0 in
      let g = b.1 w.0 mentioned.1 in
      record {
        tree = fits-Binary (uses_of (shape_of a.0)) (uses_of (shape_of b.0)) op (spelled a.0).tree
            (spelled b.0).tree parts.0 f.tree v.1 g.tree w.1;
        names = λ mode. both-use program ((spelled a.0).references None) ((spelled b.0).references None) (f.names None) (g.names None);
      })
  layer (IExpr-F.Assign op a b) = from (IExpr-F.Assign op a.0 b.0) (λ formed are.
      let last = and_parts (is_assignment op && is_value (shape_of a.0) && (shape_of a.0).target) (is_value (shape_of b.0)) formed in
      let target = and_parts (is_assignment op && is_value (shape_of a.0)) (shape_of a.0).target last.0 in
      let parts = and_parts (is_assignment op) (is_value (shape_of a.0)) target.0 in
      let v = value-parts (shape_of a.0) parts.1 in
      let w = value-parts (shape_of b.0) last.1 in
      let mentioned = both-known program owner (expr_mentions a.0) (expr_mentions b.0) are in
      let f = a.1 v.0 mentioned.0 in
      let g = b.1 w.0 mentioned.1 in
      record {
        tree = fits-Assign (uses_of (shape_of a.0)) (uses_of (shape_of b.0)) op (spelled a.0).tree (spelled b.0).tree parts.0 f.tree v.1
            target.1 g.tree w.1;
        names = λ mode. both-use program ((spelled a.0).references None) ((spelled b.0).references None) (f.names None) (g.names None);
      })
  layer (IExpr-F.Cast type e) = from (IExpr-F.Cast type e.0) (λ formed are.
      let parts = and_parts (is_type type) (is_value (shape_of e.0)) formed in
      let value = value-parts (shape_of e.0) parts.1 in
      let mentioned = both-known program owner (type_mentions type) (expr_mentions e.0) are in
      let typed = type-here type parts.0 mentioned.0 in
      let fits = e.1 value.0 mentioned.1 in
      record {
        tree = fits-Cast (uses_of (shape_of e.0)) (type_here writer locals type).tree (spelled e.0).tree (typed-here type typed)
            (narrow-here type parts.0 typed) fits.tree value.1;
        names = λ mode. both-use program (type_here writer locals type).references ((spelled e.0).references None) typed.names
            (fits.names None);
      })
  layer (IExpr-F.InstanceOf e type) = from (IExpr-F.InstanceOf e.0 type) (λ formed are.
      let parts = and_parts (is_value (shape_of e.0)) (is_type type) formed in
      let value = value-parts (shape_of e.0) parts.0 in
      let mentioned = both-known program owner (expr_mentions e.0) (type_mentions type) are in
      let typed = type-here type parts.1 mentioned.1 in
      let fits = e.1 value.0 mentioned.0 in
      record {
        tree = fits-InstanceOf (uses_of (shape_of e.0)) (spelled e.0).tree (type_here writer locals type).tree fits.tree value.1
            (typed-here type typed) (narrow-here type parts.1 typed);
        names = λ mode. both-use program ((spelled e.0).references None) (type_here writer locals type).references
            (fits.names None) typed.names;
      })

  -- of an argument its value
  argument-layer : (param : Id) (e : With) → RightArgument (roll-Argument (record { param = param; value = e.0 }))
  argument-layer param e = rw (
    fold-roll-Argument Shape Shape forms.shape_step forms.argument_step (record { param = param; value = e.0 }),
    fold-roll-Argument (List Mention) (List Mention) mention.expr_step mention.argument_step (record { param = param; value = e.0 }),
    fold-roll-Argument SpelledExpr SpelledExpr (expr_step writer locals) (argument_step writer locals)
        (record { param = param; value = e.0 }),
  ) e.1

  pub expr-fits : (e : IExpr) → (shape_of e).formed ≡ true → all (expr_mentions e) ≡ true → PartFits program (shape_of e) (spelled e)
  expr-fits = ind-IExpr Right RightArgument (λ x y is. subst (λ z. Right (roll-IExpr z)) is (layer y))
      (λ x y is. subst (λ z. RightArgument (roll-Argument z)) is (argument-layer y.param y.value))
