-- What is written of an expression reads back where each of its names reads as its target: by induction over expressions.
use Rattle.std.proofs.Common.{◌≡◌, Bool, true, List, map, length, refl, sym, ap, subst}
use Rattle.std.specs.Prelude.{IsTrue}
use Rattle.jav_tree.specs.declared.expr.Expr.{Expr}
use Rattle.jav_names.specs.DottedNames.{Name}
use Rattle.jav_names.specs.OnValues.{StaticType, outside_value}
use Rattle.mol_base.specs.declared.ident.Id.{Id}
use Rattle.mol_spell_rules.specs.references.References.{local_target, param_target, outside_target}
use Rattle.mol_resolve_rules.proofs.ReadEquations.{reads-Lit, reads-This}
use Rattle.mol_resolve_rules.specs.Locals.{Locals}
use Rattle.mol_resolve_rules.specs.Outcomes.{Outcome}
use Rattle.mol_resolve_rules.specs.Readers.{Reader}
use Rattle.mol_resolve_rules.specs.ReadTrees.{Mode, Reading, reading}
use Rattle.mol_resolve_rules.specs.Says.{as_own, as_static, as_own_call, as_static_call, equal_expr}
use Rattle.mol_values_types.specs.declared.iexpr.Argument.{Argument}
use Rattle.mol_values_types.specs.declared.iexpr.IExpr.{IExpr}
use Rattle.mol_values_types.specs.declared.iexpr.IExpr.TheFolds.{fold-roll-Argument, ind-IExpr, map-IExpr}
use Rattle.mol_values_types.specs.declared.iexpr.IExpr.TheOpen.{IExpr-F, Argument-F}
use Rattle.mol_values_types.specs.declared.iexpr.IExpr.TheViews.{roll-IExpr, roll-Argument}
use Rattle.mol_spell_rules.proofs.OwnView.{seen-itself}
use Rattle.mol_spell_rules.proofs.NamesBack.{never-this, text-of-name, name-back}
use Rattle.mol_spell_rules.proofs.ValuesBack.{nameless-apart, name-apart}
use Rattle.mol_spell_rules.specs.ReadBack.{SeesProgram, KeptArgument, kept_step, kept_argument_step, is_kept, AreAnswered, IsReadBack, ReadsBack}
use Rattle.mol_spell_rules.specs.SpelledExpressions.{SpelledExpr, made, own_form, static_form, call_form, static_call_form, param_name, local_text, importable_names, expr_step, argument_step, spelled_expr}
use Rattle.mol_spell_rules.specs.Writers.{Writer, outside_import}
use Rattle.mol_spell_rules.proofs.FormsBack.{field-layer, outside-field-layer, call-layer, call-on-layer, outside-call-layer, outside-call-on-layer, one-name, one-apart, field-apart}
use Rattle.mol_spell_rules.proofs.OperatorsBack.{unary-layer, post-layer, binary-layer, assign-layer, cond-layer, braces-layer, index-layer, super-layer, outside-super-layer}
use Rattle.mol_spell_rules.proofs.TypesBack.{cast-layer, instance-layer, array-layer, new-array-layer}
use Rattle.jav_tree.specs.declared.expr.ExprNode.TheVariants as node
use Rattle.mol_values_types.specs.declared.iexpr.IExpr.TheVariants as exprs
use Rattle.mol_spell_rules.proofs.PartsBack as carried
use Rattle.mol_spell_rules.proofs.FormsBack as forms

module _ (writer : Writer) (sees : SeesProgram writer) (locals : Locals Id) where
  abbrev reader : Reader Id Id
  reader = writer.reader

  abbrev spelled : IExpr → SpelledExpr
  spelled = carried.spelled writer sees locals

  abbrev spelled_argument : Argument → SpelledExpr
  spelled_argument = carried.spelled_argument writer sees locals

  abbrev kept : IExpr → Bool
  kept = carried.kept writer sees locals

  abbrev kept_argument : Argument → KeptArgument
  kept_argument = carried.kept_argument writer sees locals

  abbrev Comes : Expr → Mode → Bool → StaticType Id → IExpr → Type 0
  Comes = carried.Comes writer sees locals

  abbrev BackAs : SpelledExpr → IExpr → Bool → Type 0
  BackAs = carried.BackAs writer sees locals

  abbrev Back : IExpr → Type 0
  Back = carried.Back writer sees locals

  abbrev BackArgument : Argument → Type 0
  BackArgument = carried.BackArgument writer sees locals

  abbrev With : Type 0
  With = carried.With writer sees locals

  abbrev WithArgument : Type 0
  WithArgument = carried.WithArgument writer sees locals

  abbrev exprs_in : List With → List IExpr
  exprs_in = carried.exprs_in writer sees locals

  abbrev arguments_in : List WithArgument → List Argument
  arguments_in = carried.arguments_in writer sees locals

  abbrev trees_of : List SpelledExpr → List Expr
  trees_of = carried.trees_of writer sees locals

  abbrev values : List SpelledExpr → Outcome (List IExpr)
  values = carried.values writer sees locals

  -- ---- all words

  lit-layer : (text : Name) → BackAs (expr_step writer locals (IExpr-F.Lit text)) (exprs.Lit text) true
  lit-layer text = (
    λ are. nameless-apart writer sees locals (reading reader (made (node.Lit text)))
        (ap (λ (r : Reading Id). r.names) (reads-Lit reader 0 text)),
    never-this,
    λ mode are all. (
      exprs.Lit text,
      ap (λ (r : Reading Id). r.means locals mode) (reads-Lit reader 0 text),
      equal_expr,
      never-this,
    ),
  )

  this-layer : BackAs (expr_step writer locals IExpr-F.This) exprs.This true
  this-layer = (
    λ are. nameless-apart writer sees locals (reading reader (made node.This)) (ap (λ (r : Reading Id). r.names) (reads-This reader 0)),
    λ is. refl,
    λ mode are all. (
      exprs.This,
      ap (λ (r : Reading Id). r.means locals mode) (reads-This reader 0),
      equal_expr,
      λ is. (refl, refl),
    ),
  )

  -- the induction's step for an expression
  from : (x : IExpr-F IExpr Argument) (e : IExpr) → roll-IExpr x ≡ e
      → BackAs (expr_step writer locals (map-IExpr _ _ _ _ spelled spelled_argument x)) e
      (kept_step writer locals (map-IExpr _ _ _ _ kept kept_argument x))
      → Back (roll-IExpr x)
  from = carried.from writer sees locals

  layer : (y : IExpr-F With WithArgument) → Back (roll-IExpr (map-IExpr _ _ _ _ (λ p. p.0) (λ p. p.0) y))
  layer (IExpr-F.Lit text) = from (IExpr-F.Lit text) (exprs.Lit text) (exprs.rolls-Lit text) (lit-layer text)
  layer IExpr-F.This = from IExpr-F.This exprs.This exprs.rolls-This this-layer
  layer (IExpr-F.Local number) = from (IExpr-F.Local number) (exprs.Local number) (exprs.rolls-Local number) (
    λ are. name-apart writer sees locals (local_text locals number),
    never-this,
    λ mode are all. name-back writer sees locals (local_text locals number) mode (local_target number) (exprs.Local number) _ all.0
        (refl, refl) tt,
  )
  layer (IExpr-F.Param id) = from (IExpr-F.Param id) (exprs.Param id) (exprs.rolls-Param id) (
    λ are. name-apart writer sees locals (param_name writer locals id),
    never-this,
    λ mode are all. name-back writer sees locals (param_name writer locals id) mode (param_target id) (exprs.Param id) _ all.0
        (refl, refl) tt,
  )
  layer (IExpr-F.Own field) = from (IExpr-F.Own field) (exprs.Own field) (exprs.rolls-Own field) (
    λ are. field-apart writer sees locals (own_form writer locals field) field,
    never-this,
    λ mode are all. forms.field-back writer sees locals (own_form writer locals field) field mode (exprs.Own field) as_own all.0,
  )
  layer (IExpr-F.StaticField field) = from (IExpr-F.StaticField field) (exprs.StaticField field) (exprs.rolls-StaticField field) (
    λ are. field-apart writer sees locals (static_form writer locals field) field,
    never-this,
    λ mode are all.
        forms.field-back writer sees locals (static_form writer locals field) field mode (exprs.StaticField field) as_static all.0,
  )
  layer (IExpr-F.Field field e) = from (IExpr-F.Field field e.0) (exprs.Field field e.0) (exprs.rolls-Field field e.0)
      (field-layer writer sees locals field (spelled e.0) e.0 (kept e.0) e.1)
  layer (IExpr-F.Call method args) =
      from (IExpr-F.Call method (arguments_in args)) (exprs.Call method (arguments_in args))
      (exprs.rolls-Call method (arguments_in args))
      (call-layer writer sees locals (call_form writer locals method (length (map spelled_argument (arguments_in args)))) method args
      (exprs.Call method (arguments_in args)) as_own_call)
  layer (IExpr-F.StaticCall method args) =
      from (IExpr-F.StaticCall method (arguments_in args)) (exprs.StaticCall method (arguments_in args))
      (exprs.rolls-StaticCall method (arguments_in args))
      (call-layer writer sees locals (static_call_form writer locals method (length (map spelled_argument (arguments_in args)))) method args
      (exprs.StaticCall method (arguments_in args)) as_static_call)
  layer (IExpr-F.CallOn method e args) =
      from (IExpr-F.CallOn method e.0 (arguments_in args)) (exprs.CallOn method e.0 (arguments_in args))
      (exprs.rolls-CallOn method e.0 (arguments_in args)) (call-on-layer writer sees locals method (spelled e.0) e.0 (kept e.0) args e.1)
  layer (IExpr-F.OutsideName name) = from (IExpr-F.OutsideName name) (exprs.OutsideName name) (exprs.rolls-OutsideName name) (
    λ are. name-apart writer sees locals name,
    never-this,
    λ mode are all. name-back writer sees locals name mode (outside_target name) (exprs.OutsideName name) outside_value all.0
        (text-of-name name, refl) are,
  )
  layer (IExpr-F.OutsideClass full) = from (IExpr-F.OutsideClass full) (exprs.OutsideClass full) (exprs.rolls-OutsideClass full) (
    λ are. one-apart writer sees locals (importable_names writer locals (outside_import full)).first
        (importable_names writer locals (outside_import full)).rest,
    never-this,
    λ mode are all. one-name writer sees locals full (importable_names writer locals (outside_import full)).first
        (importable_names writer locals (outside_import full)).rest mode are all.0,
  )
  layer (IExpr-F.OutsideField name e) = from (IExpr-F.OutsideField name e.0) (exprs.OutsideField name e.0)
      (exprs.rolls-OutsideField name e.0) (outside-field-layer writer sees locals name (spelled e.0) e.0 (kept e.0) e.1)
  layer (IExpr-F.OutsideCall name args) =
      from (IExpr-F.OutsideCall name (exprs_in args)) (exprs.OutsideCall name (exprs_in args))
      (exprs.rolls-OutsideCall name (exprs_in args)) (outside-call-layer writer sees locals name args)
  layer (IExpr-F.OutsideCallOn name e args) =
      from (IExpr-F.OutsideCallOn name e.0 (exprs_in args)) (exprs.OutsideCallOn name e.0 (exprs_in args))
      (exprs.rolls-OutsideCallOn name e.0 (exprs_in args))
      (outside-call-on-layer writer sees locals name (spelled e.0) e.0 (kept e.0) args e.1)
  layer (IExpr-F.SuperCall method args) =
      from (IExpr-F.SuperCall method (arguments_in args)) (exprs.SuperCall method (arguments_in args))
      (exprs.rolls-SuperCall method (arguments_in args)) (super-layer writer sees locals method args)
  layer (IExpr-F.OutsideSuperCall name args) =
      from (IExpr-F.OutsideSuperCall name (exprs_in args)) (exprs.OutsideSuperCall name (exprs_in args))
      (exprs.rolls-OutsideSuperCall name (exprs_in args)) (outside-super-layer writer sees locals name args)
  layer (IExpr-F.Cond test a b) = from (IExpr-F.Cond test.0 a.0 b.0) (exprs.Cond test.0 a.0 b.0)
      (exprs.rolls-Cond test.0 a.0 b.0) (cond-layer writer sees locals (spelled test.0) (spelled a.0) (spelled b.0) test.0 a.0 b.0
      (kept test.0) (kept a.0) (kept b.0) test.1 a.1 b.1)
  layer (IExpr-F.Braces items) = from (IExpr-F.Braces (exprs_in items)) (exprs.Braces (exprs_in items))
      (exprs.rolls-Braces (exprs_in items)) (braces-layer writer sees locals items)
  layer (IExpr-F.Index e index) = from (IExpr-F.Index e.0 index.0) (exprs.Index e.0 index.0)
      (exprs.rolls-Index e.0 index.0) (index-layer writer sees locals (spelled e.0) (spelled index.0) e.0 index.0 (kept e.0) (kept index.0)
      e.1 index.1)
  layer (IExpr-F.Unary op e) = from (IExpr-F.Unary op e.0) (exprs.Unary op e.0) (exprs.rolls-Unary op e.0)
      (unary-layer writer sees locals op (spelled e.0) e.0 (kept e.0) e.1)
  layer (IExpr-F.Post op e) = from (IExpr-F.Post op e.0) (exprs.Post op e.0) (exprs.rolls-Post op e.0)
      (post-layer writer sees locals op (spelled e.0) e.0 (kept e.0) e.1)
  layer (IExpr-F.Binary op a b) = from (IExpr-F.Binary op a.0 b.0) (exprs.Binary op a.0 b.0)
      (exprs.rolls-Binary op a.0 b.0) (binary-layer writer sees locals op (spelled a.0) (spelled b.0) a.0 b.0 (kept a.0) (kept b.0) a.1 b.1)
  layer (IExpr-F.Assign op a b) = from (IExpr-F.Assign op a.0 b.0) (exprs.Assign op a.0 b.0)
      (exprs.rolls-Assign op a.0 b.0) (assign-layer writer sees locals op (spelled a.0) (spelled b.0) a.0 b.0 (kept a.0) (kept b.0) a.1 b.1)
  layer (IExpr-F.Cast type e) = from (IExpr-F.Cast type e.0) (exprs.Cast type e.0) (exprs.rolls-Cast type e.0)
      (cast-layer writer sees locals type (spelled e.0) e.0 (kept e.0) e.1)
  layer (IExpr-F.InstanceOf e type) = from (IExpr-F.InstanceOf e.0 type) (exprs.InstanceOf e.0 type)
      (exprs.rolls-InstanceOf e.0 type) (instance-layer writer sees locals type (spelled e.0) e.0 (kept e.0) e.1)
  layer (IExpr-F.ArrayLit type items) = from (IExpr-F.ArrayLit type (exprs_in items))
      (exprs.ArrayLit type (exprs_in items)) (exprs.rolls-ArrayLit type (exprs_in items)) (array-layer writer sees locals type items)
  layer (IExpr-F.NewArray type sizes pairs) = from (IExpr-F.NewArray type (exprs_in sizes) pairs)
      (exprs.NewArray type (exprs_in sizes) pairs) (exprs.rolls-NewArray type (exprs_in sizes) pairs)
      (new-array-layer writer sees locals type sizes pairs)
  -- creations are left out
  layer y = from (map-IExpr _ _ _ _ (λ p. p.0) (λ p. p.0) y) (roll-IExpr (map-IExpr _ _ _ _ (λ p. p.0) (λ p. p.0) y))
      refl (never-this, never-this, λ mode are all. never-this are)

  argument-layer : (param : Id) (e : With) → BackArgument (roll-Argument (record { param = param; value = e.0 }))
  argument-layer param e = (
    subst (λ z. BackAs z e.0 (kept_argument argument).kept) (sym written)
        (subst (BackAs (spelled e.0) e.0) (sym (ap (λ (k : KeptArgument). k.kept) keeps)) e.1),
    ap (λ (k : KeptArgument). k.param) keeps,
  ) where
    parts : Argument-F IExpr Argument
    parts = record { param = param; value = e.0 }

    argument : Argument
    argument = roll-Argument parts

    written : spelled_argument argument ≡ spelled e.0
    written = fold-roll-Argument SpelledExpr SpelledExpr (expr_step writer locals) (argument_step writer locals) parts

    keeps : kept_argument argument ≡ record { param = param; kept = kept e.0 }
    keeps = fold-roll-Argument Bool KeptArgument (kept_step writer locals) (kept_argument_step writer locals) parts

  all-back : (e : IExpr) → Back e
  all-back = ind-IExpr Back BackArgument (λ x y is. subst (λ z. Back (roll-IExpr z)) is (layer y))
      (λ x y is. subst (λ z. BackArgument (roll-Argument z)) is (argument-layer y.param y.value))

  pub is-back : (e : IExpr) (mode : Mode) → IsTrue (is_kept writer locals e)
      → AreAnswered writer ((spelled_expr writer locals e).references mode) → IsReadBack writer locals e mode
  is-back e mode are all =
      let back = (all-back e).2 mode are all in
      record { said = back.0; reads = back.1; says = back.2 }

pub reads_back : ReadsBack
reads_back = record { in_files = seen-itself; expressions = is-back }
