-- What the names of an expression use is the same however it stands.
use Rattle.std.proofs.Common.{◌≡◌, Bool, true, false, List, [], ◌∷◌, ◌++◌, Option, None, Some, refl, sym, ap, ◌∙◌, subst, if◌then◌else◌}
use Rattle.std.proofs.lemmas.List.{append-nil}
use Rattle.mol_base.specs.declared.ident.Id.{Id}
use Rattle.mol_spell_rules.specs.references.References.{Target, field_target}
use Rattle.mol_resolve_rules.specs.Locals.{Locals}
use Rattle.mol_resolve_rules.specs.ReadTrees.{Mode, before}
use Rattle.mol_spell_rules.proofs.SpelledEquations.{rolled, spelled_argument}
use Rattle.mol_spell_rules.specs.SpelledExpressions.{MemberForm, by_name, on_this, on_class, SpelledExpr, after, field_reference, own_form, name_of, plain, references_step, spelled_expr, static_form}
use Rattle.mol_spell_rules.specs.Writers.{Asked, Reference, Use, Writer, field_asked}
use Rattle.mol_spell_uses.specs.uses.Uses.{uses_of, form_uses}
use Rattle.mol_values_types.specs.declared.iexpr.Argument.{Argument}
use Rattle.mol_values_types.specs.declared.iexpr.IExpr.{IExpr}
use Rattle.mol_values_types.specs.declared.iexpr.IExpr.TheFolds.{ind-IExpr, map-IExpr}
use Rattle.mol_values_types.specs.declared.iexpr.IExpr.TheOpen.{IExpr-F}
use Rattle.mol_values_types.specs.declared.iexpr.IExpr.TheViews.{roll-IExpr}

-- ---- lists

abbrev put : Option Use → List Use → List Use
put None uses = uses
put (Some used) uses = used ∷ uses

uses-first : (r : Reference) (rs : List Reference) → uses_of (r ∷ rs) ≡ put r.uses (uses_of rs)
uses-first r rs = by r.uses where
  by : (used : Option Use) → uses_of (record r { uses = used } ∷ rs) ≡ put used (uses_of rs)
  by None = refl
  by (Some used) = refl

put-append : (used : Option Use) (us vs : List Use) → put used (us ++ vs) ≡ put used us ++ vs
put-append None us vs = refl
put-append (Some used) us vs = refl

pub uses-append : (rs ss : List Reference) → uses_of (rs ++ ss) ≡ uses_of rs ++ uses_of ss
uses-append [] ss = refl
uses-append (r ∷ rs) ss = uses-first r (rs ++ ss) ∙ ap (put r.uses) (uses-append rs ss) ∙ put-append r.uses (uses_of rs) (uses_of ss)
    ∙ ap (λ us. us ++ uses_of ss) (sym (uses-first r rs))

module _ (writer : Writer) (locals : Locals Id) where
  -- a member of a value uses nothing beside what the value does
  pub uses-after : (rs : List Reference) (target : Target) (asked : Asked) → uses_of (after writer locals rs target asked) ≡ uses_of rs
  uses-after rs target asked = uses-append rs (plain writer locals target asked ∷ []) ∙ append-nil (uses_of rs)

  pub field-uses : (form : MemberForm) (field : Id) (mode : Mode)
      → uses_of (field_reference writer locals form field mode ∷ []) ≡ form_uses writer locals form
  field-uses by_name field mode = refl
  field-uses on_this field mode = refl
  field-uses (on_class class) field mode = refl

  -- ---- however it stands

  abbrev spelled : IExpr → SpelledExpr
  spelled = spelled_expr writer locals

  abbrev spelled_arg : Argument → SpelledExpr
  spelled_arg = spelled_argument writer locals

  abbrev IsFree : SpelledExpr → Type 0
  IsFree part = (mode : Mode) → uses_of (part.references mode) ≡ uses_of (part.references None)

  abbrev Free : IExpr → Type 0
  Free e = IsFree (spelled e)

  abbrev With : Type 0
  With = (e : IExpr) × Free e

  abbrev WithArgument : Type 0
  WithArgument = (argument : Argument) × Id

  abbrev node_of : IExpr-F With WithArgument → IExpr-F IExpr Argument
  node_of x = map-IExpr _ _ _ _ (λ p. p.0) (λ p. p.0) x

  abbrev parts : IExpr-F With WithArgument → IExpr-F SpelledExpr SpelledExpr
  parts x = map-IExpr _ _ _ _ spelled spelled_arg (node_of x)

  step-free : (x : IExpr-F With WithArgument) (mode : Mode)
      → uses_of (references_step writer locals (parts x) mode) ≡ uses_of (references_step writer locals (parts x) None)
  step-free (IExpr-F.Own field) mode =
      field-uses (own_form writer locals field) field mode ∙ sym (field-uses (own_form writer locals field) field None)
  step-free (IExpr-F.StaticField field) mode =
      field-uses (static_form writer locals field) field mode ∙ sym (field-uses (static_form writer locals field) field None)
  step-free (IExpr-F.Field field e) mode = by (spelled e.0).is_this where
    by : (b : Bool)
        → uses_of (if b then field_reference writer locals (own_form writer locals field) field mode ∷ []
        else after writer locals ((spelled e.0).references (before (name_of writer locals field) mode)) (field_target field)
        (field_asked (spelled e.0).static_type (name_of writer locals field)))
        ≡ uses_of (if b then field_reference writer locals (own_form writer locals field) field None ∷ []
        else after writer locals ((spelled e.0).references (before (name_of writer locals field) None)) (field_target field)
        (field_asked (spelled e.0).static_type (name_of writer locals field)))
    by true = field-uses (own_form writer locals field) field mode ∙ sym (field-uses (own_form writer locals field) field None)
    by false = uses-after ((spelled e.0).references (before (name_of writer locals field) mode)) _ _
        ∙ e.1 (before (name_of writer locals field) mode) ∙ sym (e.1 (before (name_of writer locals field) None))
        ∙ sym (uses-after ((spelled e.0).references (before (name_of writer locals field) None)) _ _)
  step-free (IExpr-F.OutsideField name e) mode =
      uses-after ((spelled e.0).references (before name mode)) _ _ ∙ e.1 (before name mode) ∙ sym (e.1 (before name None))
      ∙ sym (uses-after ((spelled e.0).references (before name None)) _ _)
  step-free (IExpr-F.Local number) mode = refl
  step-free (IExpr-F.Param id) mode = refl
  step-free x mode = refl

  layer : (x : IExpr-F With WithArgument) → Free (roll-IExpr (node_of x))
  layer x mode = ap (λ (part : SpelledExpr). uses_of (part.references mode)) (rolled writer locals (node_of x)) ∙ step-free x mode
      ∙ sym (ap (λ (part : SpelledExpr). uses_of (part.references None)) (rolled writer locals (node_of x)))

  pub mode-free : (e : IExpr) (mode : Mode) → uses_of ((spelled_expr writer locals e).references mode)
      ≡ uses_of ((spelled_expr writer locals e).references None)
  mode-free = ind-IExpr Free (λ argument. Id) (λ x y is. subst (λ z. Free (roll-IExpr z)) is (layer y)) (λ x y is. x.param)
