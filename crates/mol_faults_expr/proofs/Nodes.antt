-- What the names of each kind of expression are, and its static type, from those of its parts.
use Rattle.std.proofs.Common.{◌≡◌, ◌≢◌, ℕ, ◌+◌, true, false, List, [], ◌∷◌, ◌++◌, map, length, None, Some, refl, sym, ap, ◌∙◌, if◌then◌else◌}
use Rattle.std.proofs.lemmas.List.{length-map}
use Rattle.mol_base.specs.declared.ident.Id.{Id}
use Rattle.jav_names.specs.DottedNames.{Name}
use Rattle.jav_names.specs.OnValues as value
use Rattle.jav_names.specs.OnValues.{class_value, mixed_value, outside_value, primitive_value}
use Rattle.jav_names.specs.StaticTypes.{common, item, of_literal, of_type, outside_call, outside_field}
use Rattle.mol_faults_expr.specs.Names.{class_reference, created_class_reference, created_value, index_reference, local_reference, local_value, method_on_reference, name_reference, outside_call_reference, outside_super_reference, param_reference, super_reference}
use Rattle.mol_faults_expr.specs.Noted.{IsRead, Noted, noted_after}
use Rattle.mol_faults_expr.specs.References.{all_references, argument_references, call_on_references, creation_references, expr_references, field_references, outside_call_on_references, outside_call_references, outside_field_references, outside_received, outside_super_references, own_call_references, received_references, references_as, static_call_references, static_type, super_call_references, type_references, typed_references, value_field_references}
use Rattle.mol_spell_rules.specs.references.References.{default_target}
use Rattle.mol_resolve_rules.specs.Locals.{Locals}
use Rattle.mol_resolve_rules.specs.ProgramViews.{program_view, seen}
use Rattle.mol_resolve_rules.specs.ReadTrees.{Mode, arrays, before, binary_type, unary_type}
use Rattle.mol_resolve_rules.specs.StaticTypes.{class_of_only_declaration, field_value, param_value, result_value}
use Rattle.mol_spell_rules.proofs.SpelledEquations.{rolled, spelled_argument}
use Rattle.mol_spell_rules.specs.SpelledExpressions.{SpelledExpr, argument_step, call_form, call_reference, constructor_reference, each_alone, expr_step, field_reference, is_this_step, own_form, references_step, spelled_expr, static_call_form, static_form, static_step}
use Rattle.mol_spell_rules.specs.Writers.{Reference, Writer}
use Rattle.mol_scope.specs.declared.types.static_type.StaticType.{StaticType}
use Rattle.mol_values_types.specs.declared.iexpr.Argument.{Argument}
use Rattle.mol_values_types.specs.declared.iexpr.IExpr.{IExpr}
use Rattle.mol_values_types.specs.declared.iexpr.IExpr.TheFolds.{fold-roll-Argument, ind-IExpr, map-IExpr}
use Rattle.mol_values_types.specs.declared.iexpr.IExpr.TheOpen.{IExpr-F}
use Rattle.mol_values_types.specs.declared.iexpr.IExpr.TheVariants as exprs
use Rattle.mol_values_types.specs.declared.iexpr.IExpr.TheViews.{roll-IExpr}
use Rattle.mol_values_types.specs.declared.itype.IType.{IType}
use Rattle.mol_spell_expr.specs.declared.type_place.TypePlace.TheVariants as places

module _ (writer : Writer) (locals : Locals Id) where
  abbrev spelled : IExpr → SpelledExpr
  spelled = spelled_expr writer locals

  abbrev spelled_arg : Argument → SpelledExpr
  spelled_arg = spelled_argument writer locals

  -- ---- several

  pub all-alone : (es : List IExpr) → each_alone writer locals (map spelled es) ≡ all_references writer locals es
  all-alone [] = refl
  all-alone (e ∷ es) = ap (λ rest. expr_references writer locals e ++ rest) (all-alone es)

  argument-is : (argument : Argument) → spelled_arg argument ≡ spelled argument.value
  argument-is argument = fold-roll-Argument SpelledExpr SpelledExpr (expr_step writer locals) (argument_step writer locals)
      (record { param = argument.param; value = argument.value })

  arguments-alone : (args : List Argument) → each_alone writer locals (map spelled_arg args) ≡ argument_references writer locals args
  arguments-alone [] = refl
  arguments-alone (a ∷ args) = λ i. (argument-is a i).references None ++ arguments-alone args i

  types-many : (es : List IExpr) → length (map (λ (part : SpelledExpr). part.static_type) (map spelled es)) ≡ length es
  types-many es = length-map (map spelled es) _ ∙ length-map es spelled

  -- ---- `this`

  this-is : (e : IExpr) → e ≡ exprs.This → (spelled e).is_this ≡ true
  this-is e is = ap (λ e. (spelled e).is_this) (is ∙ sym exprs.rolls-This)
      ∙ ap (λ (part : SpelledExpr). part.is_this) (rolled writer locals IExpr-F.This)

  other-step : (x : IExpr-F IExpr Argument) → roll-IExpr x ≢ exprs.This
      → is_this_step writer locals (map-IExpr _ _ _ _ spelled spelled_arg x) ≡ false
  other-step IExpr-F.This apart = absurd (apart exprs.rolls-This)
  other-step x apart = refl

  other-is : (e : IExpr) → e ≢ exprs.This → (spelled e).is_this ≡ false
  other-is = ind-IExpr (λ e. e ≢ exprs.This → (spelled e).is_this ≡ false) (λ argument. Id)
      (λ x y is apart. ap (λ (part : SpelledExpr). part.is_this) (rolled writer locals x) ∙ other-step x apart) (λ x y is. x.param)

  pub field-on-this : (field : Id) (on : IExpr) (mode : Mode) → on ≡ exprs.This → field_references writer locals field on mode
      ≡ field_reference writer locals (own_form writer locals field) field mode ∷ []
  field-on-this field on mode is =
      ap (λ b. if b then field_reference writer locals (own_form writer locals field) field mode ∷ []
      else value_field_references writer locals field on mode) (this-is on is)

  pub field-on-other : (field : Id) (on : IExpr) (mode : Mode) → on ≢ exprs.This
      → field_references writer locals field on mode ≡ value_field_references writer locals field on mode
  field-on-other field on mode apart =
      ap (λ b. if b then field_reference writer locals (own_form writer locals field) field mode ∷ []
      else value_field_references writer locals field on mode) (other-is on apart)

  pub received-this : (method : Id) (on : IExpr) (arity : ℕ) → on ≡ exprs.This → received_references writer locals method on arity
      ≡ call_reference writer locals (call_form writer locals method arity) method arity ∷ []
  received-this method on arity is =
      ap (λ b. if b then call_reference writer locals (call_form writer locals method arity) method arity ∷ []
      else references_as writer locals on (Some []) ++ method_on_reference writer locals (static_type writer locals on) method arity ∷ [])
      (this-is on is)

  pub received-other : (method : Id) (on : IExpr) (arity : ℕ) → on ≢ exprs.This → received_references writer locals method on arity
      ≡ references_as writer locals on (Some []) ++ method_on_reference writer locals (static_type writer locals on) method arity ∷ []
  received-other method on arity apart =
      ap (λ b. if b then call_reference writer locals (call_form writer locals method arity) method arity ∷ []
      else references_as writer locals on (Some []) ++ method_on_reference writer locals (static_type writer locals on) method arity ∷ [])
      (other-is on apart)

module _ (writer : Writer) (locals : Locals Id) (e : IExpr) where
  abbrev of : IExpr → List Reference
  of = expr_references writer locals

  abbrev type_of : IExpr → value.StaticType Id
  type_of = static_type writer locals

  abbrev parts : IExpr-F IExpr Argument → IExpr-F SpelledExpr SpelledExpr
  parts x = map-IExpr _ _ _ _ (spelled_expr writer locals) (spelled_argument writer locals) x

  -- the references as it stands, and the static type
  abbrev Says : Mode → List Reference → value.StaticType Id → Type 0
  Says mode references type = (references_as writer locals e mode ≡ references) × (type_of e ≡ type)

  by_node : (x : IExpr-F IExpr Argument) (mode : Mode) (references : List Reference) (type : value.StaticType Id) → e ≡ roll-IExpr x
      → references_step writer locals (parts x) mode ≡ references → static_step writer locals (parts x) ≡ type
      → Says mode references type
  by_node x mode references type is named typed = (
    ap (λ e. references_as writer locals e mode) is
        ∙ ap (λ (part : SpelledExpr). part.references mode) (rolled writer locals x) ∙ named,
    ap type_of is ∙ ap (λ (part : SpelledExpr). part.static_type) (rolled writer locals x) ∙ typed,
  )

  -- What is read of it is so by what it says.
  pub read-so : (mode : Mode) (references : List Reference) (type : value.StaticType Id) → Says mode references type
      → (before after : Noted) (kept : StaticType) → IsRead writer before after references type kept
      → IsRead writer before after (references_as writer locals e mode) (type_of e) kept
  read-so mode references type says before after kept read = record {
    noted = read.noted ∙ ap (λ rs. noted_after writer before rs) (sym says.0);
    typed = read.typed ∙ sym says.1;
  }

  -- ---- words without parts

  pub says-Lit : (text : Name) → e ≡ exprs.Lit text
      → Says None [] (of_literal text)
  says-Lit text is = by_node (IExpr-F.Lit text) None _ _ (is ∙ sym (exprs.rolls-Lit text)) refl refl

  pub says-This : e ≡ exprs.This → Says None [] (class_value writer.reader.class)
  says-This is = by_node IExpr-F.This None _ _ (is ∙ sym exprs.rolls-This) refl refl

  pub says-Local : (number : ℕ) (mode : Mode) → e ≡ exprs.Local number
      → Says mode (local_reference writer locals number mode ∷ []) (local_value writer locals number)
  says-Local number mode is = by_node (IExpr-F.Local number) mode _ _ (is ∙ sym (exprs.rolls-Local number)) refl refl

  pub says-Param : (id : Id) (mode : Mode) → e ≡ exprs.Param id
      → Says mode (param_reference writer locals id mode ∷ []) (param_value writer.program id)
  says-Param id mode is = by_node (IExpr-F.Param id) mode _ _ (is ∙ sym (exprs.rolls-Param id)) refl refl

  pub says-Own : (field : Id) (mode : Mode) → e ≡ exprs.Own field
      → Says mode (field_reference writer locals (own_form writer locals field) field mode ∷ []) (field_value writer.program field)
  says-Own field mode is = by_node (IExpr-F.Own field) mode _ _ (is ∙ sym (exprs.rolls-Own field)) refl refl

  pub says-StaticField : (field : Id) (mode : Mode) → e ≡ exprs.StaticField field
      → Says mode (field_reference writer locals (static_form writer locals field) field mode ∷ []) (field_value writer.program field)
  says-StaticField field mode is = by_node (IExpr-F.StaticField field) mode _ _ (is ∙ sym (exprs.rolls-StaticField field)) refl refl

  pub says-NewDefault : (class : Id) → e ≡ exprs.NewDefault class
      → Says None (created_class_reference writer locals (default_target class) class 0 ∷ []) (class_value class)
  says-NewDefault class is = by_node (IExpr-F.NewDefault class) None _ _ (is ∙ sym (exprs.rolls-NewDefault class)) refl refl

  -- ---- what may be outside, as it stands

  pub says-OutsideName : (name : Name) (mode : Mode) → e ≡ exprs.OutsideName name
      → Says mode (name_reference writer locals name mode ∷ []) outside_value
  says-OutsideName name mode is = by_node (IExpr-F.OutsideName name) mode _ _ (is ∙ sym (exprs.rolls-OutsideName name)) refl refl

  pub says-OutsideClass : (full : Name) (mode : Mode) → e ≡ exprs.OutsideClass full
      → Says mode (class_reference writer locals full mode ∷ []) outside_value
  says-OutsideClass full mode is = by_node (IExpr-F.OutsideClass full) mode _ _ (is ∙ sym (exprs.rolls-OutsideClass full)) refl refl

  pub says-Field : (field : Id) (on : IExpr) (mode : Mode) → e ≡ exprs.Field field on
      → Says mode (field_references writer locals field on mode) (field_value writer.program field)
  says-Field field on mode is = by_node (IExpr-F.Field field on) mode _ _ (is ∙ sym (exprs.rolls-Field field on)) refl refl

  pub says-OutsideField : (name : Name) (on : IExpr) (mode : Mode) → e ≡ exprs.OutsideField name on
      → Says mode (outside_field_references writer locals name on mode) (outside_field (type_of on) name)
  says-OutsideField name on mode is =
      by_node (IExpr-F.OutsideField name on) mode _ _ (is ∙ sym (exprs.rolls-OutsideField name on)) refl refl

  -- ---- calls

  pub says-Call : (method : Id) (args : List Argument) → e ≡ exprs.Call method args
      → Says None (own_call_references writer locals method args) (result_value writer.program method)
  says-Call method args is =
      by_node (IExpr-F.Call method args) None _ _ (is ∙ sym (exprs.rolls-Call method args))
      (λ i. call_reference writer locals (call_form writer locals method (length-map args (spelled_argument writer locals) i)) method
      (length-map args (spelled_argument writer locals) i) ∷ arguments-alone writer locals args i) refl

  pub says-StaticCall : (method : Id) (args : List Argument) → e ≡ exprs.StaticCall method args
      → Says None (static_call_references writer locals method args) (result_value writer.program method)
  says-StaticCall method args is =
      by_node (IExpr-F.StaticCall method args) None _ _ (is ∙ sym (exprs.rolls-StaticCall method args))
      (λ i. call_reference writer locals (static_call_form writer locals method (length-map args
      (spelled_argument writer locals) i)) method
      (length-map args (spelled_argument writer locals) i) ∷ arguments-alone writer locals args i) refl

  pub says-CallOn : (method : Id) (on : IExpr) (args : List Argument) → e ≡ exprs.CallOn method on args
      → Says None (call_on_references writer locals method on args) (result_value writer.program method)
  says-CallOn method on args is =
      by_node (IExpr-F.CallOn method on args) None _ _ (is ∙ sym (exprs.rolls-CallOn method on args))
      (λ i. received_references writer locals method on (length-map args
      (spelled_argument writer locals) i) ++ arguments-alone writer locals args i) refl

  pub says-SuperCall : (method : Id) (args : List Argument) → e ≡ exprs.SuperCall method args
      → Says None (super_call_references writer locals method args) (result_value writer.program method)
  says-SuperCall method args is =
      by_node (IExpr-F.SuperCall method args) None _ _ (is ∙ sym (exprs.rolls-SuperCall method args))
      (λ i. super_reference writer locals method (length-map args (spelled_argument writer locals) i) ∷ arguments-alone writer locals
      args i) refl

  pub says-OutsideCall : (name : Name) (args : List IExpr) → e ≡ exprs.OutsideCall name args
      → Says None (outside_call_references writer locals name args) outside_value
  says-OutsideCall name args is =
      by_node (IExpr-F.OutsideCall name args) None _ _ (is ∙ sym (exprs.rolls-OutsideCall name args))
      (λ i. outside_call_reference writer locals name (length-map args
      (spelled_expr writer locals) i) ∷ all-alone writer locals args i) refl

  pub says-OutsideCallOn : (name : Name) (on : IExpr) (args : List IExpr) → e ≡ exprs.OutsideCallOn name on args
      → Says None (outside_call_on_references writer locals name on args) (outside_call (type_of on) name (length args))
  says-OutsideCallOn name on args is =
      by_node (IExpr-F.OutsideCallOn name on args) None _ _ (is ∙ sym (exprs.rolls-OutsideCallOn name on args))
      (λ i. outside_received writer locals name on (length-map args (spelled_expr writer locals) i) ++ all-alone writer locals args i)
      (ap (outside_call (type_of on) name) (types-many writer locals args))

  pub says-OutsideSuperCall : (name : Name) (args : List IExpr) → e ≡ exprs.OutsideSuperCall name args
      → Says None (outside_super_references writer locals name args) outside_value
  says-OutsideSuperCall name args is =
      by_node (IExpr-F.OutsideSuperCall name args) None _ _ (is ∙ sym (exprs.rolls-OutsideSuperCall name args))
      (λ i. outside_super_reference writer locals name (length-map args
      (spelled_expr writer locals) i) ∷ all-alone writer locals args i) refl

  -- ---- creations

  pub says-New : (constructor : Id) (args : List Argument) → e ≡ exprs.New constructor args
      → Says None (creation_references writer locals constructor args) (created_value
      (class_of_only_declaration writer.program constructor))
  says-New constructor args is =
      by_node (IExpr-F.New constructor args) None _ _ (is ∙ sym (exprs.rolls-New constructor args))
      (λ i. constructor_reference writer locals (class_of_only_declaration writer.program constructor) constructor
      (length-map args (spelled_argument writer locals) i) ∷ arguments-alone writer locals args i) refl

  pub says-NewOutside : (type : IType) (args : List IExpr) → e ≡ exprs.NewOutside type args
      → Says None (typed_references writer locals type args) outside_value
  says-NewOutside type args is =
      by_node (IExpr-F.NewOutside type args) None _ _ (is ∙ sym (exprs.rolls-NewOutside type args))
      (ap (λ rest. type_references writer locals places.Expression type ++ rest) (all-alone writer locals args)) refl

  pub says-NewArray : (type : IType) (args : List IExpr) (pairs : ℕ) → e ≡ exprs.NewArray type args pairs
      → Says None (typed_references writer locals type args) (of_type (arrays (length args + pairs) (seen type)))
  says-NewArray type args pairs is =
      by_node (IExpr-F.NewArray type args pairs) None _ _ (is ∙ sym (exprs.rolls-NewArray type args pairs))
      (ap (λ rest. type_references writer locals places.Expression type ++ rest) (all-alone writer locals args))
      (ap (λ n. of_type (arrays (n + pairs) (seen type))) (types-many writer locals args))

  pub says-ArrayLit : (type : IType) (args : List IExpr) → e ≡ exprs.ArrayLit type args
      → Says None (typed_references writer locals type args) (of_type (seen type))
  says-ArrayLit type args is =
      by_node (IExpr-F.ArrayLit type args) None _ _ (is ∙ sym (exprs.rolls-ArrayLit type args))
      (ap (λ rest. type_references writer locals places.Expression type ++ rest) (all-alone writer locals args)) refl

  pub says-Braces : (args : List IExpr) → e ≡ exprs.Braces args
      → Says None (all_references writer locals args) mixed_value
  says-Braces args is = by_node (IExpr-F.Braces args) None _ _ (is ∙ sym (exprs.rolls-Braces args)) (all-alone writer locals args) refl

  -- ---- operands

  pub says-Cond : (test : IExpr) (a : IExpr) (b : IExpr) → e ≡ exprs.Cond test a b
      → Says None (of test ++ of a ++ of b) (common (program_view writer.program) (type_of a) (type_of b))
  says-Cond test a b is = by_node (IExpr-F.Cond test a b) None _ _ (is ∙ sym (exprs.rolls-Cond test a b)) refl refl

  pub says-Index : (a : IExpr) (b : IExpr) → e ≡ exprs.Index a b
      → Says None (of a ++ index_reference writer locals (type_of a) ∷ of b) (item (type_of a))
  says-Index a b is = by_node (IExpr-F.Index a b) None _ _ (is ∙ sym (exprs.rolls-Index a b)) refl refl

  pub says-Unary : (op : Name) (a : IExpr) → e ≡ exprs.Unary op a
      → Says None (of a) (unary_type op (type_of a))
  says-Unary op a is = by_node (IExpr-F.Unary op a) None _ _ (is ∙ sym (exprs.rolls-Unary op a)) refl refl

  pub says-Post : (op : Name) (a : IExpr) → e ≡ exprs.Post op a
      → Says None (of a) (type_of a)
  says-Post op a is = by_node (IExpr-F.Post op a) None _ _ (is ∙ sym (exprs.rolls-Post op a)) refl refl

  pub says-Binary : (op : Name) (a : IExpr) (b : IExpr) → e ≡ exprs.Binary op a b
      → Says None (of a ++ of b) (binary_type op)
  says-Binary op a b is = by_node (IExpr-F.Binary op a b) None _ _ (is ∙ sym (exprs.rolls-Binary op a b)) refl refl

  pub says-Assign : (op : Name) (a : IExpr) (b : IExpr) → e ≡ exprs.Assign op a b
      → Says None (of a ++ of b) (type_of a)
  says-Assign op a b is = by_node (IExpr-F.Assign op a b) None _ _ (is ∙ sym (exprs.rolls-Assign op a b)) refl refl

  pub says-Cast : (type : IType) (a : IExpr) → e ≡ exprs.Cast type a
      → Says None (type_references writer locals places.Expression type ++ of a) (of_type (seen type))
  says-Cast type a is = by_node (IExpr-F.Cast type a) None _ _ (is ∙ sym (exprs.rolls-Cast type a)) refl refl

  pub says-InstanceOf : (a : IExpr) (type : IType) → e ≡ exprs.InstanceOf a type
      → Says None (of a ++ type_references writer locals places.Expression type) primitive_value
  says-InstanceOf a type is = by_node (IExpr-F.InstanceOf a type) None _ _ (is ∙ sym (exprs.rolls-InstanceOf a type)) refl refl
