-- The names of an expression are the same however it stands, unless its first one is a variable or outside.
use Rattle.std.proofs.Common.{◌≡◌, ◌≢◌, ℕ, None, refl, sym, ◌∙◌, ap}
use Rattle.jav_names.specs.DottedNames.{Name}
use Rattle.mol_base.specs.declared.ident.Id.{Id}
use Rattle.mol_faults_expr.specs.References.{expr_references, references_as}
use Rattle.mol_resolve_rules.specs.Locals.{Locals}
use Rattle.mol_resolve_rules.specs.ReadTrees.{Mode}
use Rattle.mol_spell_rules.proofs.SpelledEquations.{rolled, spelled_argument}
use Rattle.mol_spell_rules.specs.SpelledExpressions.{SpelledExpr, references_step, spelled_expr}
use Rattle.mol_spell_rules.specs.Writers.{Writer}
use Rattle.mol_values_types.specs.declared.iexpr.Argument.{Argument}
use Rattle.mol_values_types.specs.declared.iexpr.IExpr.{IExpr}
use Rattle.mol_values_types.specs.declared.iexpr.IExpr.TheFolds.{ind-IExpr, map-IExpr}
use Rattle.mol_values_types.specs.declared.iexpr.IExpr.TheOpen.{IExpr-F}
use Rattle.mol_values_types.specs.declared.iexpr.IExpr.TheVariants as exprs
use Rattle.mol_values_types.specs.declared.iexpr.IExpr.TheViews.{roll-IExpr}

-- It does not hand on to its parts the names that follow it, and is no name of a variable or of something outside.
pub record StandsAlone (e : IExpr) : Type 0 where
  pub no_field : (field : Id) (on : IExpr) → e ≢ exprs.Field field on
  pub no_outside_field : (name : Name) (on : IExpr) → e ≢ exprs.OutsideField name on
  pub no_local : (number : ℕ) → e ≢ exprs.Local number
  pub no_param : (id : Id) → e ≢ exprs.Param id
  pub no_own : (field : Id) → e ≢ exprs.Own field
  pub no_static_field : (field : Id) → e ≢ exprs.StaticField field
  pub no_outside_name : (name : Name) → e ≢ exprs.OutsideName name
  pub no_outside_class : (full : Name) → e ≢ exprs.OutsideClass full

module _ (writer : Writer) (locals : Locals Id) where
  abbrev parts : IExpr-F IExpr Argument → IExpr-F SpelledExpr SpelledExpr
  parts x = map-IExpr _ _ _ _ (spelled_expr writer locals) (spelled_argument writer locals) x

  step-free : (x : IExpr-F IExpr Argument) → StandsAlone (roll-IExpr x) → (mode : Mode)
      → references_step writer locals (parts x) mode ≡ references_step writer locals (parts x) None
  step-free (IExpr-F.Local number) alone mode = absurd (alone.no_local number (exprs.rolls-Local number))
  step-free (IExpr-F.Param id) alone mode = absurd (alone.no_param id (exprs.rolls-Param id))
  step-free (IExpr-F.Own field) alone mode = absurd (alone.no_own field (exprs.rolls-Own field))
  step-free (IExpr-F.StaticField field) alone mode = absurd (alone.no_static_field field (exprs.rolls-StaticField field))
  step-free (IExpr-F.Field field on) alone mode = absurd (alone.no_field field on (exprs.rolls-Field field on))
  step-free (IExpr-F.OutsideField name on) alone mode = absurd (alone.no_outside_field name on (exprs.rolls-OutsideField name on))
  step-free (IExpr-F.OutsideName name) alone mode = absurd (alone.no_outside_name name (exprs.rolls-OutsideName name))
  step-free (IExpr-F.OutsideClass full) alone mode = absurd (alone.no_outside_class full (exprs.rolls-OutsideClass full))
  step-free x alone mode = refl

  abbrev Free : IExpr → Type 0
  Free e = StandsAlone e → (mode : Mode) → references_as writer locals e mode ≡ expr_references writer locals e

  pub mode-free : (e : IExpr) → Free e
  mode-free = ind-IExpr Free (λ argument. Id) (λ x y is alone mode.
      ap (λ (part : SpelledExpr). part.references mode) (rolled writer locals x)
      ∙ step-free x alone mode
      ∙ sym (ap (λ (part : SpelledExpr). part.references None) (rolled writer locals x))) (λ x y is. x.param)
