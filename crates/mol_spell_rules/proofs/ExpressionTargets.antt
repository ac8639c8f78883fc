-- The references of an expression, wherever it is written, have the targets of its names, and its static type is that in the program.
use Rattle.std.proofs.Common.{◌≡◌, ℕ, ◌+◌, Bool, true, false, List, [], ◌∷◌, ◌++◌, map, length, Option, Some, None, refl, sym, ap, subst, ◌∙◌, arith, if◌then◌else◌}
use Rattle.std.specs.Prelude.{T}
use Rattle.std.proofs.lemmas.List.{append_assoc}
use Rattle.mol_base.specs.declared.ident.Id.{Id}
use Rattle.mol_spell_rules.specs.references.References as reference
use Rattle.mol_spell_rules.specs.references.References.{field_target, method_target, References, type_references, expr_references, argument_references}
use Rattle.mol_values_types.specs.declared.iexpr.Argument.{Argument, fold-Argument}
use Rattle.mol_values_types.specs.declared.iexpr.IExpr.{IExpr}
use Rattle.mol_values_types.specs.declared.iexpr.IExpr.TheOpen.{IExpr-F, Argument-F}
use Rattle.mol_values_types.specs.declared.iexpr.IExpr.TheFolds.{fold-roll-IExpr, fold-roll-Argument, ind-IExpr, map-IExpr}
use Rattle.mol_values_types.specs.declared.iexpr.IExpr.TheViews.{roll-IExpr, roll-Argument}
use Rattle.mol_values_types.specs.declared.itype.IType.{IType}
use Rattle.jav_names.specs.OnValues.{StaticType}
use Rattle.jav_names.specs.StaticTypes.{of_type, common, item, outside_field, outside_call}
use Rattle.jav_names.specs.Views.{ViewType}
use Rattle.mol_resolve_rules.specs.Locals.{Local, Locals}
use Rattle.mol_resolve_rules.specs.ProgramViews.{seen, program_view}
use Rattle.mol_resolve_rules.specs.ReadTrees.{Mode, before, arrays, unary_type}
use Rattle.mol_resolve_rules.specs.StaticTypes as static
use Rattle.mol_resolve_rules.specs.StaticTypes.{static_type_of, class_of_only_declaration}
use Rattle.mol_spell_rules.proofs.TypeTargets.{targets, both, type-targets}
use Rattle.mol_spell_rules.specs.SpelledExpressions.{SpelledExpr, MemberForm, by_name, on_this, on_class, hides, type_here, own_form, static_form, call_form, static_call_form, field_reference, call_reference, constructor_reference, after, each_alone, name_of, references_step, expr_step, argument_step, spelled_expr}
use Rattle.mol_spell_rules.specs.Writers.{Writer, field_asked, method_asked, Reference}

module _ (writer : Writer) (locals : Locals Id) where
  -- ---- single references

  field-target : (form : MemberForm) (field : Id) (mode : Mode)
      → (field_reference writer locals form field mode).target ≡ field_target field
  field-target by_name field mode = refl
  field-target on_this field mode = refl
  field-target (on_class class) field mode = refl

  call-target : (form : MemberForm) (method : Id) (arity : ℕ)
      → (call_reference writer locals form method arity).target ≡ method_target method
  call-target by_name method arity = refl
  call-target on_this method arity = refl
  call-target (on_class class) method arity = refl

  constructor-target : (class : Option Id) (constructor : Id) (arity : ℕ)
      → (constructor_reference writer locals class constructor arity).target ≡ method_target constructor
  constructor-target None constructor arity = refl
  constructor-target (Some class) constructor arity = refl

  type-here : (type : IType) → targets (type_here writer locals type).references ≡ type_references type
  type-here type = type-targets writer (hides writer locals) locals type

  -- ---- what is alike

  abbrev types : List (ViewType Id)
  types = map (λ (local : Local Id). local.type) locals.declared

  abbrev static_of : IExpr → StaticType Id
  static_of = static_type_of writer.program writer.reader.class types

  abbrev static_step : IExpr-F (StaticType Id) (StaticType Id) → StaticType Id
  static_step = static.expr_step writer.program writer.reader.class types

  abbrev static_argument_step : Argument-F (StaticType Id) (StaticType Id) → StaticType Id
  static_argument_step = static.argument_step writer.program writer.reader.class types

  abbrev static_argument : Argument → StaticType Id
  static_argument = fold-Argument (StaticType Id) (StaticType Id) static_step static_argument_step

  abbrev spelled : IExpr → SpelledExpr
  spelled = spelled_expr writer locals

  abbrev spelled_argument : Argument → SpelledExpr
  spelled_argument = fold-Argument SpelledExpr SpelledExpr (expr_step writer locals) (argument_step writer locals)

  -- Its static type is this one, its references have these targets however it stands, and `this` has none.
  abbrev AreAlike : SpelledExpr → StaticType Id → References → Type 0
  AreAlike part type refs =
      (part.static_type ≡ type) × ((mode : Mode) → targets (part.references mode) ≡ refs) × (T part.is_this → refs ≡ [])

  abbrev Alike : IExpr → Type 0
  Alike e = AreAlike (spelled e) (static_of e) (expr_references e)

  abbrev AlikeArgument : Argument → Type 0
  AlikeArgument argument = AreAlike (spelled_argument argument) (static_argument argument) (argument_references argument)

  abbrev With : Type 0
  With = (e : IExpr) × Alike e

  abbrev WithArgument : Type 0
  WithArgument = (argument : Argument) × AlikeArgument argument

  abbrev exprs_in : List With → List IExpr
  exprs_in es = map (λ p. p.0) es

  abbrev arguments_in : List WithArgument → List Argument
  arguments_in args = map (λ p. p.0) args

  from : (x : IExpr-F IExpr Argument)
      → AreAlike (expr_step writer locals (map-IExpr _ _ _ _ spelled spelled_argument x))
      (static_step (map-IExpr _ _ _ _ static_of static_argument x))
      (reference.expr_step (map-IExpr _ _ _ _ expr_references argument_references x))
      → Alike (roll-IExpr x)
  from x alike =
      subst (λ part. AreAlike part (static_of (roll-IExpr x)) (expr_references (roll-IExpr x)))
      (sym (fold-roll-IExpr SpelledExpr SpelledExpr (expr_step writer locals) (argument_step writer locals) x))
      (subst (λ type. AreAlike (expr_step writer locals (map-IExpr _ _ _ _ spelled spelled_argument x)) type
      (expr_references (roll-IExpr x)))
      (sym (fold-roll-IExpr (StaticType Id) (StaticType Id) static_step static_argument_step x))
      (subst (AreAlike (expr_step writer locals (map-IExpr _ _ _ _ spelled spelled_argument x))
      (static_step (map-IExpr _ _ _ _ static_of static_argument x)))
      (sym (fold-roll-IExpr References References reference.expr_step reference.argument_step x)) alike))

  -- ---- lists of parts

  each : (es : List With)
      → targets (each_alone writer locals (map spelled (exprs_in es))) ≡ reference.joined (map expr_references (exprs_in es))
  each [] = refl
  each (e ∷ es) = both ((spelled e.0).references None) (each_alone writer locals (map spelled (exprs_in es))) (expr_references e.0) _
      (e.1.1 None) (each es)

  each_argument : (args : List WithArgument)
      → targets (each_alone writer locals (map spelled_argument (arguments_in args)))
      ≡ reference.joined (map argument_references (arguments_in args))
  each_argument [] = refl
  each_argument (a ∷ args) =
      both ((spelled_argument a.0).references None) (each_alone writer locals (map spelled_argument (arguments_in args)))
      (argument_references a.0) _ (a.1.1 None) (each_argument args)

  abbrev argument_count : List WithArgument → ℕ
  argument_count args = length (map spelled_argument (arguments_in args))

  -- there are as many static types as parts
  as_many : (es : List With) → length (map (λ (part : SpelledExpr). part.static_type) (map spelled (exprs_in es)))
      ≡ length (map static_of (exprs_in es))
  as_many [] = refl
  as_many (e ∷ es) = omega (arith, as_many es)

  -- ---- members of values

  -- what stands behind a value, and arguments after it
  behind : (rs ss : List Reference) (named : Reference) (r s : References) → targets rs ≡ r → targets ss ≡ s
      → targets (rs ++ named ∷ [] ++ ss) ≡ r ++ named.target ∷ s
  behind rs ss named r s first second = ap targets (append_assoc rs (named ∷ []) ss)
      ∙ both rs (named ∷ ss) r (named.target ∷ s) first (ap (λ rest. named.target ∷ rest) second)

  field-of : (field : Id) (part : SpelledExpr) (type : StaticType Id) (refs : References) → AreAlike part type refs → (mode : Mode)
      → targets (references_step writer locals (IExpr-F.Field field part) mode) ≡ refs ++ field_target field ∷ []
  field-of field part type refs alike mode = by part.is_this alike.2 where
    by : (b : Bool) → (T b → refs ≡ [])
        → targets (if b then field_reference writer locals (own_form writer locals field) field mode ∷ []
        else after writer locals (part.references (before (name_of writer locals field) mode)) (field_target field)
        (field_asked part.static_type (name_of writer locals field)))
        ≡ refs ++ field_target field ∷ []
    by true none = ap (λ t. t ∷ []) (field-target (own_form writer locals field) field mode)
        ∙ sym (ap (λ r. r ++ field_target field ∷ []) (none tt))
    by false none = both _ _ _ _ (alike.1 (before (name_of writer locals field) mode)) refl

  call-on : (method : Id) (part : SpelledExpr) (type : StaticType Id) (refs : References) → AreAlike part type refs
      → (args : List SpelledExpr) (s : References) → targets (each_alone writer locals args) ≡ s → (mode : Mode)
      → targets (references_step writer locals (IExpr-F.CallOn method part args) mode) ≡ refs ++ method_target method ∷ s
  call-on method part type refs alike args s are mode = by part.is_this alike.2 where
    by : (b : Bool) → (T b → refs ≡ [])
        → targets ((if b then call_reference writer locals (call_form writer locals method (length args)) method (length args) ∷ []
        else after writer locals (part.references (Some [])) (method_target method)
        (method_asked part.static_type (name_of writer locals method) (length args))) ++ each_alone writer locals args)
        ≡ refs ++ method_target method ∷ s
    by true none = (λ i. call-target (call_form writer locals method (length args)) method (length args) i ∷ are i)
        ∙ sym (ap (λ r. r ++ method_target method ∷ s) (none tt))
    by false none = behind _ _ _ _ _ (alike.1 (Some [])) are

  -- ---- each expression

  layer : (y : IExpr-F With WithArgument) → Alike (roll-IExpr (map-IExpr _ _ _ _ (λ p. p.0) (λ p. p.0) y))
  layer (IExpr-F.Lit text) = from (IExpr-F.Lit text) (refl, λ mode. refl, λ h. refl)
  layer IExpr-F.This = from IExpr-F.This (refl, λ mode. refl, λ h. refl)
  layer (IExpr-F.Local number) = from (IExpr-F.Local number) (refl, λ mode. refl, λ h. absurd h)
  layer (IExpr-F.Param id) = from (IExpr-F.Param id) (refl, λ mode. refl, λ h. absurd h)
  layer (IExpr-F.Own field) = from (IExpr-F.Own field)
      (refl, λ mode. ap (λ t. t ∷ []) (field-target (own_form writer locals field) field mode), λ h. absurd h)
  layer (IExpr-F.StaticField field) = from (IExpr-F.StaticField field)
      (refl, λ mode. ap (λ t. t ∷ []) (field-target (static_form writer locals field) field mode), λ h. absurd h)
  layer (IExpr-F.Field field e) = from (IExpr-F.Field field e.0)
      (refl, λ mode. field-of field (spelled e.0) (static_of e.0) (expr_references e.0) e.1 mode, λ h. absurd h)
  layer (IExpr-F.Call method args) = from (IExpr-F.Call method (arguments_in args)) (
    refl,
    λ mode i. call-target (call_form writer locals method (argument_count args)) method (argument_count args) i
        ∷ each_argument args i,
    λ h. absurd h,
  )
  layer (IExpr-F.StaticCall method args) = from (IExpr-F.StaticCall method (arguments_in args)) (
    refl,
    λ mode i. call-target (static_call_form writer locals method (argument_count args)) method (argument_count args) i
        ∷ each_argument args i,
    λ h. absurd h,
  )
  layer (IExpr-F.CallOn method e args) = from (IExpr-F.CallOn method e.0 (arguments_in args)) (
    refl,
    λ mode. call-on method (spelled e.0) (static_of e.0) (expr_references e.0) e.1 (map spelled_argument (arguments_in args)) _
        (each_argument args) mode,
    λ h. absurd h,
  )
  layer (IExpr-F.SuperCall method args) = from (IExpr-F.SuperCall method (arguments_in args))
      (refl, λ mode. ap (λ rest. method_target method ∷ rest) (each_argument args), λ h. absurd h)
  layer (IExpr-F.New constructor args) = from (IExpr-F.New constructor (arguments_in args)) (
    refl,
    λ mode i. constructor-target (class_of_only_declaration writer.program constructor) constructor (argument_count args) i
        ∷ each_argument args i,
    λ h. absurd h,
  )
  layer (IExpr-F.NewDefault class) = from (IExpr-F.NewDefault class) (refl, λ mode. refl, λ h. absurd h)
  layer (IExpr-F.Cond test a b) = from (IExpr-F.Cond test.0 a.0 b.0) (
    λ i. common (program_view writer.program) (a.1.0 i) (b.1.0 i),
    λ mode. both _ _ _ _ (both _ _ _ _ (test.1.1 None) (a.1.1 None)) (b.1.1 None),
    λ h. absurd h,
  )
  layer (IExpr-F.OutsideName name) = from (IExpr-F.OutsideName name) (refl, λ mode. refl, λ h. absurd h)
  layer (IExpr-F.OutsideClass full) = from (IExpr-F.OutsideClass full) (refl, λ mode. refl, λ h. absurd h)
  layer (IExpr-F.OutsideField name e) = from (IExpr-F.OutsideField name e.0)
      (λ i. outside_field (e.1.0 i) name, λ mode. both _ _ _ _ (e.1.1 (before name mode)) refl, λ h. absurd h)
  layer (IExpr-F.OutsideCall name args) = from (IExpr-F.OutsideCall name (exprs_in args))
      (refl, λ mode. ap (λ rest. reference.outside_target name ∷ rest) (each args), λ h. absurd h)
  layer (IExpr-F.OutsideCallOn name e args) = from (IExpr-F.OutsideCallOn name e.0 (exprs_in args))
      (λ i. outside_call (e.1.0 i) name (as_many args i), λ mode. behind _ _ _ _ _ (e.1.1 (Some [])) (each args), λ h. absurd h)
  layer (IExpr-F.OutsideSuperCall name args) = from (IExpr-F.OutsideSuperCall name (exprs_in args))
      (refl, λ mode. ap (λ rest. reference.outside_target name ∷ rest) (each args), λ h. absurd h)
  layer (IExpr-F.NewOutside type args) = from (IExpr-F.NewOutside type (exprs_in args))
      (refl, λ mode. both _ _ _ _ (type-here type) (each args), λ h. absurd h)
  layer (IExpr-F.NewArray type sizes pairs) = from (IExpr-F.NewArray type (exprs_in sizes) pairs) (
    ap (λ n. of_type (arrays (n + pairs) (seen type))) (as_many sizes),
    λ mode. both _ _ _ _ (type-here type) (each sizes),
    λ h. absurd h,
  )
  layer (IExpr-F.ArrayLit type items) = from (IExpr-F.ArrayLit type (exprs_in items))
      (refl, λ mode. both _ _ _ _ (type-here type) (each items), λ h. absurd h)
  layer (IExpr-F.Braces items) = from (IExpr-F.Braces (exprs_in items)) (refl, λ mode. each items, λ h. absurd h)
  layer (IExpr-F.Index e index) = from (IExpr-F.Index e.0 index.0)
      (λ i. item (e.1.0 i), λ mode. both _ _ _ _ (e.1.1 None) (ap (λ rest. reference.index_target ∷ rest) (index.1.1 None)), λ h. absurd h)
  layer (IExpr-F.Unary op e) = from (IExpr-F.Unary op e.0) (λ i. unary_type op (e.1.0 i), λ mode. e.1.1 None, λ h. absurd h)
  layer (IExpr-F.Post op e) = from (IExpr-F.Post op e.0) (e.1.0, λ mode. e.1.1 None, λ h. absurd h)
  layer (IExpr-F.Binary op a b) = from (IExpr-F.Binary op a.0 b.0)
      (refl, λ mode. both _ _ _ _ (a.1.1 None) (b.1.1 None), λ h. absurd h)
  layer (IExpr-F.Assign op a b) = from (IExpr-F.Assign op a.0 b.0)
      (a.1.0, λ mode. both _ _ _ _ (a.1.1 None) (b.1.1 None), λ h. absurd h)
  layer (IExpr-F.Cast type e) = from (IExpr-F.Cast type e.0)
      (refl, λ mode. both _ _ _ _ (type-here type) (e.1.1 None), λ h. absurd h)
  layer (IExpr-F.InstanceOf e type) = from (IExpr-F.InstanceOf e.0 type)
      (refl, λ mode. both _ _ _ _ (e.1.1 None) (type-here type), λ h. absurd h)

  argument-layer : (param : Id) (e : With) → AlikeArgument (roll-Argument (record { param = param; value = e.0 }))
  argument-layer param e =
      subst (λ part. AreAlike part (static_argument argument) (argument_references argument))
      (sym (fold-roll-Argument SpelledExpr SpelledExpr (expr_step writer locals) (argument_step writer locals) parts))
      (subst (λ type. AreAlike (spelled e.0) type (argument_references argument))
      (sym (fold-roll-Argument (StaticType Id) (StaticType Id) static_step static_argument_step parts))
      (subst (AreAlike (spelled e.0) (static_of e.0))
      (sym (fold-roll-Argument References References reference.expr_step reference.argument_step parts)) e.1)) where
        parts : Argument-F IExpr Argument
        parts = record { param = param; value = e.0 }

        argument : Argument
        argument = roll-Argument parts

  alike : (e : IExpr) → Alike e
  alike = ind-IExpr Alike AlikeArgument (λ x y is. subst (λ z. Alike (roll-IExpr z)) is (layer y))
      (λ x y is. subst (λ z. AlikeArgument (roll-Argument z)) is (argument-layer y.param y.value))

  pub expr-type : (e : IExpr) → (spelled_expr writer locals e).static_type ≡ static_of e
  expr-type e = (alike e).0

  pub expr-targets : (e : IExpr) (mode : Mode) → targets ((spelled_expr writer locals e).references mode) ≡ expr_references e
  expr-targets e = (alike e).1
