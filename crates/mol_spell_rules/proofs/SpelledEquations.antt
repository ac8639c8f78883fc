-- How expressions, statements and types are written, each from how its parts are.
use Rattle.std.proofs.Common.{◌≡◌, ℕ, List, map, ap, sym, ◌∙◌}
use Rattle.mol_base.specs.declared.ident.Id.{Id}
use Rattle.jav_names.specs.DottedNames.{Name}
use Rattle.mol_resolve_rules.specs.Locals.{Locals}
use Rattle.mol_values_types.specs.declared.iexpr.Argument.{Argument, fold-Argument}
use Rattle.mol_values_types.specs.declared.iexpr.IExpr.{IExpr}
use Rattle.mol_values_types.specs.declared.iexpr.IExpr.TheFolds.{fold-roll-IExpr, fold-roll-Argument, map-IExpr}
use Rattle.mol_values_types.specs.declared.iexpr.IExpr.TheOpen.{IExpr-F}
use Rattle.mol_values_types.specs.declared.iexpr.IExpr.TheVariants as exprs
use Rattle.mol_values_types.specs.declared.iexpr.IExpr.TheViews.{roll-IExpr}
use Rattle.mol_values_types.specs.declared.itype.IType.{IType}
use Rattle.mol_values_types.specs.declared.itype.IType.TheFolds.{fold-roll-IType}
use Rattle.mol_values_types.specs.declared.itype.IType.TheOpen.{IType-F}
use Rattle.mol_values_types.specs.declared.itype.IType.TheVariants as types
use Rattle.std.specs.Prelude.{Bool}
use Rattle.mol_spell_rules.specs.SpelledExpressions.{SpelledExpr, expr_step, argument_step, spelled_expr}
use Rattle.mol_spell_rules.specs.SpelledTypes.{SpelledType, type_step, spelled_type}
use Rattle.mol_spell_rules.specs.Writers.{Writer}

module _ (writer : Writer) (locals : Locals Id) where
  abbrev spelled : IExpr → SpelledExpr
  spelled = spelled_expr writer locals

  abbrev pub spelled_argument : Argument → SpelledExpr
  spelled_argument = fold-Argument SpelledExpr SpelledExpr (expr_step writer locals) (argument_step writer locals)

  abbrev pub of_parts : IExpr-F SpelledExpr SpelledExpr → SpelledExpr
  of_parts = expr_step writer locals

  pub rolled : (x : IExpr-F IExpr Argument) → spelled (roll-IExpr x) ≡ of_parts (map-IExpr _ _ _ _ spelled spelled_argument x)
  rolled x = fold-roll-IExpr SpelledExpr SpelledExpr (expr_step writer locals) (argument_step writer locals) x

  -- of an argument its value
  pub argument-is : (param : Id) (e : IExpr) (part : SpelledExpr) → spelled e ≡ part
      → spelled_argument (record { param = param; value = e }) ≡ part
  argument-is param e part is =
      fold-roll-Argument SpelledExpr SpelledExpr (expr_step writer locals) (argument_step writer locals)
      (record { param = param; value = e }) ∙ is

  -- ---- words without parts

  pub spelled-Lit : (text : Name) → spelled (exprs.Lit text) ≡ of_parts (IExpr-F.Lit text)
  spelled-Lit text = ap spelled (sym (exprs.rolls-Lit text)) ∙ rolled (IExpr-F.Lit text)

  pub spelled-This : spelled (exprs.This) ≡ of_parts (IExpr-F.This)
  spelled-This = ap spelled (sym exprs.rolls-This) ∙ rolled IExpr-F.This

  pub spelled-Local : (number : ℕ) → spelled (exprs.Local number) ≡ of_parts (IExpr-F.Local number)
  spelled-Local number = ap spelled (sym (exprs.rolls-Local number)) ∙ rolled (IExpr-F.Local number)

  pub spelled-Param : (id : Id) → spelled (exprs.Param id) ≡ of_parts (IExpr-F.Param id)
  spelled-Param id = ap spelled (sym (exprs.rolls-Param id)) ∙ rolled (IExpr-F.Param id)

  pub spelled-Own : (field : Id) → spelled (exprs.Own field) ≡ of_parts (IExpr-F.Own field)
  spelled-Own field = ap spelled (sym (exprs.rolls-Own field)) ∙ rolled (IExpr-F.Own field)

  pub spelled-StaticField : (field : Id) → spelled (exprs.StaticField field) ≡ of_parts (IExpr-F.StaticField field)
  spelled-StaticField field = ap spelled (sym (exprs.rolls-StaticField field)) ∙ rolled (IExpr-F.StaticField field)

  pub spelled-NewDefault : (class : Id) → spelled (exprs.NewDefault class) ≡ of_parts (IExpr-F.NewDefault class)
  spelled-NewDefault class = ap spelled (sym (exprs.rolls-NewDefault class)) ∙ rolled (IExpr-F.NewDefault class)

  pub spelled-OutsideName : (name : Name) → spelled (exprs.OutsideName name) ≡ of_parts (IExpr-F.OutsideName name)
  spelled-OutsideName name = ap spelled (sym (exprs.rolls-OutsideName name)) ∙ rolled (IExpr-F.OutsideName name)

  pub spelled-OutsideClass : (full : Name) → spelled (exprs.OutsideClass full) ≡ of_parts (IExpr-F.OutsideClass full)
  spelled-OutsideClass full = ap spelled (sym (exprs.rolls-OutsideClass full)) ∙ rolled (IExpr-F.OutsideClass full)

  -- ---- words with parts

  pub spelled-Field : (field : Id) (e : IExpr) (part : SpelledExpr) → spelled e ≡ part
      → spelled (exprs.Field field e) ≡ of_parts (IExpr-F.Field field part)
  spelled-Field field e part is = ap spelled (sym (exprs.rolls-Field field e)) ∙ rolled (IExpr-F.Field field e)
      ∙ ap (λ part. of_parts (IExpr-F.Field field part)) is

  pub spelled-OutsideField : (name : Name) (e : IExpr) (part : SpelledExpr) → spelled e ≡ part
      → spelled (exprs.OutsideField name e) ≡ of_parts (IExpr-F.OutsideField name part)
  spelled-OutsideField name e part is = ap spelled (sym (exprs.rolls-OutsideField name e)) ∙ rolled (IExpr-F.OutsideField name e)
      ∙ ap (λ part. of_parts (IExpr-F.OutsideField name part)) is

  pub spelled-Call : (method : Id) (args : List Argument) (parts : List SpelledExpr) → map spelled_argument args ≡ parts
      → spelled (exprs.Call method args) ≡ of_parts (IExpr-F.Call method parts)
  spelled-Call method args parts are = ap spelled (sym (exprs.rolls-Call method args)) ∙ rolled (IExpr-F.Call method args)
      ∙ ap (λ parts. of_parts (IExpr-F.Call method parts)) are

  pub spelled-StaticCall : (method : Id) (args : List Argument) (parts : List SpelledExpr) → map spelled_argument args ≡ parts
      → spelled (exprs.StaticCall method args) ≡ of_parts (IExpr-F.StaticCall method parts)
  spelled-StaticCall method args parts are =
      ap spelled (sym (exprs.rolls-StaticCall method args)) ∙ rolled (IExpr-F.StaticCall method args)
      ∙ ap (λ parts. of_parts (IExpr-F.StaticCall method parts)) are

  pub spelled-CallOn : (method : Id) (e : IExpr) (args : List Argument) (part : SpelledExpr) (parts : List SpelledExpr)
      → spelled e ≡ part → map spelled_argument args ≡ parts
      → spelled (exprs.CallOn method e args) ≡ of_parts (IExpr-F.CallOn method part parts)
  spelled-CallOn method e args part parts is are =
      ap spelled (sym (exprs.rolls-CallOn method e args)) ∙ rolled (IExpr-F.CallOn method e args)
      ∙ (λ i. of_parts (IExpr-F.CallOn method (is i) (are i)))

  pub spelled-OutsideCallOn : (name : Name) (e : IExpr) (args : List IExpr) (part : SpelledExpr) (parts : List SpelledExpr)
      → spelled e ≡ part → map spelled args ≡ parts
      → spelled (exprs.OutsideCallOn name e args) ≡ of_parts (IExpr-F.OutsideCallOn name part parts)
  spelled-OutsideCallOn name e args part parts is are =
      ap spelled (sym (exprs.rolls-OutsideCallOn name e args)) ∙ rolled (IExpr-F.OutsideCallOn name e args)
      ∙ (λ i. of_parts (IExpr-F.OutsideCallOn name (is i) (are i)))

  pub spelled-New : (constructor : Id) (args : List Argument) (parts : List SpelledExpr) → map spelled_argument args ≡ parts
      → spelled (exprs.New constructor args) ≡ of_parts (IExpr-F.New constructor parts)
  spelled-New constructor args parts are = ap spelled (sym (exprs.rolls-New constructor args)) ∙ rolled (IExpr-F.New constructor args)
      ∙ ap (λ parts. of_parts (IExpr-F.New constructor parts)) are

  pub spelled-Index : (e k : IExpr) (part index : SpelledExpr) → spelled e ≡ part → spelled k ≡ index
      → spelled (exprs.Index e k) ≡ of_parts (IExpr-F.Index part index)
  spelled-Index e k part index is index-is = ap spelled (sym (exprs.rolls-Index e k)) ∙ rolled (IExpr-F.Index e k)
      ∙ (λ i. of_parts (IExpr-F.Index (is i) (index-is i)))

  pub spelled-Cast : (type : IType) (e : IExpr) (part : SpelledExpr) → spelled e ≡ part
      → spelled (exprs.Cast type e) ≡ of_parts (IExpr-F.Cast type part)
  spelled-Cast type e part is = ap spelled (sym (exprs.rolls-Cast type e)) ∙ rolled (IExpr-F.Cast type e)
      ∙ ap (λ part. of_parts (IExpr-F.Cast type part)) is

module _ (writer : Writer) (hides : Name → Bool) (locals : Locals Id) where
  abbrev spelled_as : IType → SpelledType
  spelled_as = spelled_type writer hides locals

  abbrev pub type_of_parts : IType-F SpelledType → SpelledType
  type_of_parts = type_step writer hides locals

  pub type-Int : spelled_as types.Int ≡ type_of_parts IType-F.Int
  type-Int = ap spelled_as (sym types.rolls-Int) ∙ fold-roll-IType SpelledType type_of_parts IType-F.Int

  pub type-Class : (class : Id) → spelled_as (types.Class class) ≡ type_of_parts (IType-F.Class class)
  type-Class class = ap spelled_as (sym (types.rolls-Class class)) ∙ fold-roll-IType SpelledType type_of_parts (IType-F.Class class)

  pub type-Imported : (import rest : Name) → spelled_as (types.Imported import rest) ≡ type_of_parts (IType-F.Imported import rest)
  type-Imported import rest = ap spelled_as (sym (types.rolls-Imported import rest))
      ∙ fold-roll-IType SpelledType type_of_parts (IType-F.Imported import rest)

  pub type-Written : (text : Name) → spelled_as (types.Written text) ≡ type_of_parts (IType-F.Written text)
  type-Written text = ap spelled_as (sym (types.rolls-Written text)) ∙ fold-roll-IType SpelledType type_of_parts (IType-F.Written text)
