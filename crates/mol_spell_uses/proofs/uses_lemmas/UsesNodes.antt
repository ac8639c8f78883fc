-- What the names of an expression use, by what it is and what its parts use.
use Rattle.std.proofs.Common.{◌≡◌, ℕ, Bool, true, false, List, [], ◌∷◌, ◌++◌, map, length, Option, None, Some, refl, sym, ap, ◌∙◌, if◌then◌else◌}
use Rattle.std.proofs.lemmas.Bool.{false≢true}
use Rattle.std.proofs.lemmas.List.{append-nil, length-map}
use Rattle.mol_base.specs.declared.ident.Id.{Id}
use Rattle.jav_names.specs.DottedNames.{Name}
use Rattle.mol_spell_rules.specs.references.References.{field_target, index_target, method_target, outside_target}
use Rattle.mol_resolve_rules.specs.Locals.{Locals}
use Rattle.mol_resolve_rules.specs.ReadTrees.{before}
use Rattle.mol_resolve_rules.specs.StaticTypes.{class_of_only_declaration}
use Rattle.mol_spell_rules.proofs.SpelledEquations.{rolled, spelled_argument}
use Rattle.mol_spell_rules.specs.SpelledExpressions.{SpelledExpr, MemberForm, by_name, on_this, on_class, after, argument_step, call_form, call_reference, constructor_reference, each_alone, expr_step, field_reference, is_this_step, name_of, own_form, plain, reads_field, reads_method, references_step, spelled_expr, static_call_form, static_form, type_here}
use Rattle.mol_spell_rules.specs.Writers.{Reference, Use, Writer, field_asked, index_asked, method_asked, outside_import, program_class, written_use}
use Rattle.mol_spell_uses.proofs.uses_lemmas.ModeFree.{field-uses, mode-free, uses-after, uses-append}
use Rattle.mol_spell_uses.specs.uses.Uses.{all_uses, argument_uses, created_uses, expr_uses, form_uses, named_use, type_uses, uses_of}
use Rattle.mol_values_types.specs.declared.iexpr.Argument.{Argument}
use Rattle.mol_values_types.specs.declared.iexpr.IExpr.{IExpr}
use Rattle.mol_values_types.specs.declared.iexpr.IExpr.TheFolds.{fold-roll-Argument, ind-IExpr, map-IExpr}
use Rattle.mol_values_types.specs.declared.iexpr.IExpr.TheOpen.{IExpr-F}
use Rattle.mol_values_types.specs.declared.iexpr.IExpr.TheVariants as exprs
use Rattle.mol_values_types.specs.declared.iexpr.IExpr.TheViews.{roll-IExpr}
use Rattle.mol_values_types.specs.declared.itype.IType.{IType}

module _ (writer : Writer) (locals : Locals Id) where
  abbrev spelled : IExpr → SpelledExpr
  spelled = spelled_expr writer locals

  abbrev spelled_arg : Argument → SpelledExpr
  spelled_arg = spelled_argument writer locals

  -- ---- several

  pub uses-all : (es : List IExpr) → uses_of (each_alone writer locals (map spelled es)) ≡ all_uses writer locals es
  uses-all [] = refl
  uses-all (e ∷ es) = uses-append ((spelled e).references None) (each_alone writer locals (map spelled es))
      ∙ ap (λ rest. expr_uses writer locals e ++ rest) (uses-all es)

  argument-is : (argument : Argument) → spelled_arg argument ≡ spelled argument.value
  argument-is argument = fold-roll-Argument SpelledExpr SpelledExpr (expr_step writer locals) (argument_step writer locals)
      (record { param = argument.param; value = argument.value })

  pub uses-arguments : (args : List Argument) → uses_of (each_alone writer locals (map spelled_arg args)) ≡ argument_uses writer locals args
  uses-arguments [] = refl
  uses-arguments (a ∷ args) = uses-append ((spelled_arg a).references None) (each_alone writer locals (map spelled_arg args))
      ∙ (λ i. uses_of ((argument-is a i).references None) ++ uses-arguments args i)

  call-uses : (form : MemberForm) (method : Id) (arity : ℕ) (rest : List Reference)
      → uses_of (call_reference writer locals form method arity ∷ rest) ≡ form_uses writer locals form ++ uses_of rest
  call-uses by_name method arity rest = refl
  call-uses on_this method arity rest = refl
  call-uses (on_class class) method arity rest = refl

  -- a member of `this` uses nothing
  own-nothing : (reads : Bool) → form_uses writer locals (if reads then by_name else on_this) ≡ []
  own-nothing true = refl
  own-nothing false = refl

  -- what a value uses, before a dot
  value-uses : (e : IExpr) (name : Name) → uses_of ((spelled e).references (before name None)) ≡ expr_uses writer locals e
  value-uses e name = mode-free writer locals e (before name None)

module _ (writer : Writer) (locals : Locals Id) (e : IExpr) where
  abbrev Uses : List Use → Type 0
  Uses uses = expr_uses writer locals e ≡ uses

  abbrev of : IExpr → List Use
  of = expr_uses writer locals

  by_node : (x : IExpr-F IExpr Argument) (uses : List Use) → e ≡ roll-IExpr x
      → uses_of (references_step writer locals (map-IExpr _ _ _ _ (spelled_expr writer locals) (spelled_argument writer locals) x) None)
      ≡ uses
      → Uses uses
  by_node x uses is made = ap of is ∙ ap (λ (part : SpelledExpr). uses_of (part.references None)) (rolled writer locals x) ∙ made

  pub uses-Own : (field : Id) → e ≡ exprs.Own field → Uses []
  uses-Own field is = by_node (IExpr-F.Own field) _ (is ∙ sym (exprs.rolls-Own field))
      (field-uses writer locals (own_form writer locals field) field None ∙ own-nothing writer locals (reads_field writer locals field))

  pub uses-StaticField : (field : Id) → e ≡ exprs.StaticField field → Uses (form_uses writer locals (static_form writer locals field))
  uses-StaticField field is = by_node (IExpr-F.StaticField field) _ (is ∙ sym (exprs.rolls-StaticField field))
      (field-uses writer locals (static_form writer locals field) field None)

  pub uses-NewDefault : (class : Id) → e ≡ exprs.NewDefault class → Uses (named_use writer locals (program_class class))
  uses-NewDefault class is = by_node (IExpr-F.NewDefault class) _ (is ∙ sym (exprs.rolls-NewDefault class)) refl

  pub uses-OutsideName : (name : Name) → e ≡ exprs.OutsideName name → Uses (written_use name ∷ [])
  uses-OutsideName name is = by_node (IExpr-F.OutsideName name) _ (is ∙ sym (exprs.rolls-OutsideName name)) refl

  pub uses-OutsideClass : (full : Name) → e ≡ exprs.OutsideClass full → Uses (named_use writer locals (outside_import full))
  uses-OutsideClass full is = by_node (IExpr-F.OutsideClass full) _ (is ∙ sym (exprs.rolls-OutsideClass full)) refl

  pub uses-OutsideField : (name : Name) (on : IExpr) → e ≡ exprs.OutsideField name on → Uses (of on)
  uses-OutsideField name on is = by_node (IExpr-F.OutsideField name on) _ (is ∙ sym (exprs.rolls-OutsideField name on))
      (uses-after writer locals ((spelled_expr writer locals on).references (before name None)) _ _ ∙ value-uses writer locals on name)

  pub uses-Binary : (op : Name) (a b : IExpr) → e ≡ exprs.Binary op a b → Uses (of a ++ of b)
  uses-Binary op a b is = by_node (IExpr-F.Binary op a b) _ (is ∙ sym (exprs.rolls-Binary op a b))
      (uses-append ((spelled_expr writer locals a).references None) ((spelled_expr writer locals b).references None))

  pub uses-Call : (method : Id) (args : List Argument) → e ≡ exprs.Call method args
      → Uses (argument_uses writer locals args)
  uses-Call method args is = by_node (IExpr-F.Call method args) _ (is ∙ sym (exprs.rolls-Call method args))
      (call-uses writer locals (call_form writer locals method (length (map (spelled_argument writer locals) args))) method
      (length (map (spelled_argument writer locals) args)) (each_alone writer locals (map (spelled_argument writer locals) args))
      ∙ (λ i. own-nothing writer locals (reads_method writer locals method (length (map (spelled_argument writer locals) args))) i
      ++ uses-arguments writer locals args i))

  pub uses-NewOutside : (type : IType) (args : List IExpr) → e ≡ exprs.NewOutside type args
      → Uses (type_uses writer locals type ++ all_uses writer locals args)
  uses-NewOutside type args is = by_node (IExpr-F.NewOutside type args) _ (is ∙ sym (exprs.rolls-NewOutside type args))
      (uses-append (type_here writer locals type).references (each_alone writer locals (map (spelled_expr writer locals) args))
      ∙ ap (λ us. type_uses writer locals type ++ us) (uses-all writer locals args))

  -- ---- what uses nothing

  pub uses-Lit : (text : Name) → e ≡ exprs.Lit text → Uses []
  uses-Lit text is = by_node (IExpr-F.Lit text) _ (is ∙ sym (exprs.rolls-Lit text)) refl

  pub uses-This : e ≡ exprs.This → Uses []
  uses-This is = by_node IExpr-F.This _ (is ∙ sym exprs.rolls-This) refl

  pub uses-Local : (number : ℕ) → e ≡ exprs.Local number → Uses []
  uses-Local number is = by_node (IExpr-F.Local number) _ (is ∙ sym (exprs.rolls-Local number)) refl

  pub uses-Param : (id : Id) → e ≡ exprs.Param id → Uses []
  uses-Param id is = by_node (IExpr-F.Param id) _ (is ∙ sym (exprs.rolls-Param id)) refl

  -- ---- over operands

  pub uses-Unary : (op : Name) (a : IExpr) → e ≡ exprs.Unary op a → Uses (of a)
  uses-Unary op a is = by_node (IExpr-F.Unary op a) _ (is ∙ sym (exprs.rolls-Unary op a)) refl

  pub uses-Post : (op : Name) (a : IExpr) → e ≡ exprs.Post op a → Uses (of a)
  uses-Post op a is = by_node (IExpr-F.Post op a) _ (is ∙ sym (exprs.rolls-Post op a)) refl

  pub uses-Cast : (type : IType) (a : IExpr) → e ≡ exprs.Cast type a → Uses (type_uses writer locals type ++ of a)
  uses-Cast type a is = by_node (IExpr-F.Cast type a) _ (is ∙ sym (exprs.rolls-Cast type a))
      (uses-append (type_here writer locals type).references ((spelled_expr writer locals a).references None))

  pub uses-InstanceOf : (a : IExpr) (type : IType) → e ≡ exprs.InstanceOf a type → Uses (of a ++ type_uses writer locals type)
  uses-InstanceOf a type is = by_node (IExpr-F.InstanceOf a type) _ (is ∙ sym (exprs.rolls-InstanceOf a type))
      (uses-append ((spelled_expr writer locals a).references None) (type_here writer locals type).references)

  pub uses-Index : (a b : IExpr) → e ≡ exprs.Index a b → Uses (of a ++ of b)
  uses-Index a b is = by_node (IExpr-F.Index a b) _ (is ∙ sym (exprs.rolls-Index a b))
      (uses-append ((spelled_expr writer locals a).references None)
      (plain writer locals index_target (index_asked (spelled_expr writer locals a).static_type)
      ∷ (spelled_expr writer locals b).references None))

  pub uses-Assign : (op : Name) (a b : IExpr) → e ≡ exprs.Assign op a b → Uses (of a ++ of b)
  uses-Assign op a b is = by_node (IExpr-F.Assign op a b) _ (is ∙ sym (exprs.rolls-Assign op a b))
      (uses-append ((spelled_expr writer locals a).references None) ((spelled_expr writer locals b).references None))

  pub uses-Cond : (test a b : IExpr) → e ≡ exprs.Cond test a b → Uses ((of test ++ of a) ++ of b)
  uses-Cond test a b is = by_node (IExpr-F.Cond test a b) _ (is ∙ sym (exprs.rolls-Cond test a b))
      (uses-append ((spelled_expr writer locals test).references None ++ (spelled_expr writer locals a).references None)
      ((spelled_expr writer locals b).references None)
      ∙ ap (λ us. us ++ of b)
      (uses-append ((spelled_expr writer locals test).references None) ((spelled_expr writer locals a).references None)))

-- ---- `this`

module _ (writer : Writer) (locals : Locals Id) where
  this-step : (x : IExpr-F IExpr Argument)
      → is_this_step writer locals (map-IExpr _ _ _ _ (spelled_expr writer locals) (spelled_argument writer locals) x) ≡ true
      → expr_uses writer locals (roll-IExpr x) ≡ []
  this-step IExpr-F.This holds = uses-This writer locals (roll-IExpr IExpr-F.This) exprs.rolls-This
  this-step x holds = absurd (false≢true holds)

  pub this-uses : (e : IExpr) → (spelled_expr writer locals e).is_this ≡ true → expr_uses writer locals e ≡ []
  this-uses = ind-IExpr (λ e. (spelled_expr writer locals e).is_this ≡ true → expr_uses writer locals e ≡ []) (λ argument. Id)
      (λ x y is holds. this-step x (sym (ap (λ (part : SpelledExpr). part.is_this) (rolled writer locals x)) ∙ holds)) (λ x y is. x.param)

module _ (writer : Writer) (locals : Locals Id) (e : IExpr) where
  pub uses-Field : (field : Id) (on : IExpr) → e ≡ exprs.Field field on → expr_uses writer locals e ≡ expr_uses writer locals on
  uses-Field field on is = by_node writer locals e (IExpr-F.Field field on) _ (is ∙ sym (exprs.rolls-Field field on))
      (by part.is_this refl) where
        part : SpelledExpr
        part = spelled_expr writer locals on

        by : (b : Bool) → part.is_this ≡ b
            → uses_of (if b then field_reference writer locals (own_form writer locals field) field None ∷ []
            else after writer locals (part.references (before (name_of writer locals field) None)) (field_target field)
            (field_asked part.static_type (name_of writer locals field)))
            ≡ expr_uses writer locals on
        by true holds = field-uses writer locals (own_form writer locals field) field None
            ∙ own-nothing writer locals (reads_field writer locals field) ∙ sym (this-uses writer locals on holds)
        by false fails = uses-after writer locals (part.references (before (name_of writer locals field) None)) _ _
            ∙ value-uses writer locals on (name_of writer locals field)

  pub uses-CallOn : (method : Id) (on : IExpr) (args : List Argument) → e ≡ exprs.CallOn method on args
      → expr_uses writer locals e ≡ expr_uses writer locals on ++ argument_uses writer locals args
  uses-CallOn method on args is = by_node writer locals e (IExpr-F.CallOn method on args) _ (is ∙ sym (exprs.rolls-CallOn method on args))
      (uses-append (before_args part.is_this) (each_alone writer locals (map (spelled_argument writer locals) args))
      ∙ (λ i. by part.is_this refl i ++ uses-arguments writer locals args i)) where
        part : SpelledExpr
        part = spelled_expr writer locals on

        arity : ℕ
        arity = length (map (spelled_argument writer locals) args)

        before_args : Bool → List Reference
        before_args b =
            if b then call_reference writer locals (call_form writer locals method arity) method arity ∷ []
            else after writer locals (part.references (Some [])) (method_target method)
            (method_asked part.static_type (name_of writer locals method) arity)

        by : (b : Bool) → part.is_this ≡ b → uses_of (before_args b) ≡ expr_uses writer locals on
        by true holds = call-uses writer locals (call_form writer locals method arity) method arity []
            ∙ append-nil (form_uses writer locals (call_form writer locals method arity))
            ∙ own-nothing writer locals (reads_method writer locals method arity) ∙ sym (this-uses writer locals on holds)
        by false fails = uses-after writer locals (part.references (Some [])) _ _ ∙ mode-free writer locals on (Some [])

-- ---- over several

module _ (writer : Writer) (locals : Locals Id) (e : IExpr) where
  -- ---- over arguments

  many : (args : List Argument) → length (map (spelled_argument writer locals) args) ≡ length args
  many args = length-map args (spelled_argument writer locals)

  pub uses-StaticCall : (method : Id) (args : List Argument) → e ≡ exprs.StaticCall method args
      → Uses writer locals e (form_uses writer locals (static_call_form writer locals method (length args)) ++ argument_uses writer locals
      args)
  uses-StaticCall method args is = by_node writer locals e (IExpr-F.StaticCall method args) _ (is
      ∙ sym (exprs.rolls-StaticCall method args))
      (call-uses writer locals (static_call_form writer locals method (length (map (spelled_argument writer locals) args))) method
      (length (map (spelled_argument writer locals) args)) (each_alone writer locals (map (spelled_argument writer locals) args))
      ∙ (λ i. form_uses writer locals (static_call_form writer locals method (many args i)) ++ uses-arguments writer locals args i))

  pub uses-SuperCall : (method : Id) (args : List Argument) → e ≡ exprs.SuperCall method args
      → Uses writer locals e (argument_uses writer locals args)
  uses-SuperCall method args is = by_node writer locals e (IExpr-F.SuperCall method args) _ (is ∙ sym (exprs.rolls-SuperCall method args))
      (uses-arguments writer locals args)

  pub uses-New : (constructor : Id) (args : List Argument) → e ≡ exprs.New constructor args
      → Uses writer locals e (created_uses writer locals (class_of_only_declaration writer.program constructor) ++ argument_uses writer
      locals args)
  uses-New constructor args is = by_node writer locals e (IExpr-F.New constructor args) _ (is ∙ sym (exprs.rolls-New constructor args))
      (by (class_of_only_declaration writer.program constructor)) where
        by : (class : Option Id)
            → uses_of (constructor_reference writer locals class constructor (length (map (spelled_argument writer locals) args))
            ∷ each_alone writer locals (map (spelled_argument writer locals) args))
            ≡ created_uses writer locals class ++ argument_uses writer locals args
        by None = uses-arguments writer locals args
        by (Some class) = ap (λ us. named_use writer locals (program_class class) ++ us) (uses-arguments writer locals args)

  -- ---- over any number of expressions

  pub uses-OutsideCall : (name : Name) (args : List IExpr) → e ≡ exprs.OutsideCall name args
      → Uses writer locals e (all_uses writer locals args)
  uses-OutsideCall name args is = by_node writer locals e (IExpr-F.OutsideCall name args) _ (is ∙ sym (exprs.rolls-OutsideCall name args))
      (uses-all writer locals args)

  pub uses-OutsideCallOn : (name : Name) (on : IExpr) (args : List IExpr) → e ≡ exprs.OutsideCallOn name on args
      → Uses writer locals e (expr_uses writer locals on ++ all_uses writer locals args)
  uses-OutsideCallOn name on args is = by_node writer locals e (IExpr-F.OutsideCallOn name on args) _ (is
      ∙ sym (exprs.rolls-OutsideCallOn name on args))
      (uses-append (after writer locals ((spelled_expr writer locals on).references (Some [])) (outside_target name)
      (method_asked (spelled_expr writer locals on).static_type name (length (map (spelled_expr writer locals) args))))
      (each_alone writer locals (map (spelled_expr writer locals) args))
      ∙ (λ i. (uses-after writer locals ((spelled_expr writer locals on).references (Some [])) (outside_target name)
      (method_asked (spelled_expr writer locals on).static_type name (length (map (spelled_expr writer locals) args)))
      ∙ mode-free writer locals on (Some [])) i ++ uses-all writer locals args i))

  pub uses-OutsideSuperCall : (name : Name) (args : List IExpr) → e ≡ exprs.OutsideSuperCall name args
      → Uses writer locals e (all_uses writer locals args)
  uses-OutsideSuperCall name args is = by_node writer locals e (IExpr-F.OutsideSuperCall name args) _ (is
      ∙ sym (exprs.rolls-OutsideSuperCall name args))
      (uses-all writer locals args)

  pub uses-NewArray : (type : IType) (sizes : List IExpr) (pairs : ℕ) → e ≡ exprs.NewArray type sizes pairs
      → Uses writer locals e (type_uses writer locals type ++ all_uses writer locals sizes)
  uses-NewArray type sizes pairs is = by_node writer locals e (IExpr-F.NewArray type sizes pairs) _ (is
      ∙ sym (exprs.rolls-NewArray type sizes pairs))
      (uses-append (type_here writer locals type).references (each_alone writer locals (map (spelled_expr writer locals) sizes))
      ∙ ap (λ us. type_uses writer locals type ++ us) (uses-all writer locals sizes))

  pub uses-ArrayLit : (type : IType) (items : List IExpr) → e ≡ exprs.ArrayLit type items
      → Uses writer locals e (type_uses writer locals type ++ all_uses writer locals items)
  uses-ArrayLit type items is = by_node writer locals e (IExpr-F.ArrayLit type items) _ (is ∙ sym (exprs.rolls-ArrayLit type items))
      (uses-append (type_here writer locals type).references (each_alone writer locals (map (spelled_expr writer locals) items))
      ∙ ap (λ us. type_uses writer locals type ++ us) (uses-all writer locals items))

  pub uses-Braces : (items : List IExpr) → e ≡ exprs.Braces items → Uses writer locals e (all_uses writer locals items)
  uses-Braces items is = by_node writer locals e (IExpr-F.Braces items) _ (is ∙ sym (exprs.rolls-Braces items))
      (uses-all writer locals items)
