-- What a call's arguments become.
use Rattle.std.specs.Prelude.{◌≡◌, ℕ, ◌+◌, ◌<◌, Bool, true, false, List, ◌∷◌, map, drop, length, Option, if◌then◌else◌}
use Rattle.std.proofs.Common.{sym, ap, ◌∙◌, get_or}
use Rattle.mol_base.specs.declared.ident.Id.{Id}
use Rattle.mol_values_types.specs.Order.{id_eq}
use Rattle.mol_table_rules.specs.Tidy.{creation, value_of, tidy_expr, tidy_argument, expr_step, argument_step}
use Rattle.mol_values_types.specs.declared.iexpr.Argument.{Argument}
use Rattle.mol_values_types.specs.declared.iexpr.IExpr.{IExpr}
use Rattle.mol_values_types.specs.declared.iexpr.IExpr.TheFolds.{fold-roll-IExpr, fold-roll-Argument}
use Rattle.mol_values_types.specs.declared.iexpr.IExpr.TheOpen.{IExpr-F}
use Rattle.mol_values_types.specs.declared.iexpr.IExpr.TheVariants as exprs
use Rattle.mol_values_types.specs.declared.param.Param.{Param}
use Rattle.mol_values_types.proofs.Ties.{id_ties}
use Rattle.mol_table_rules.proofs.Writing.{drop-item}

module _ (present : Id → List Param) (bare : Id → Option Id) where
  pub argument_is : (argument : Argument) → tidy_argument present bare argument ≡ record { param = argument.param; value = tidy_expr present bare argument.value }
  argument_is argument = fold-roll-Argument IExpr Argument (expr_step present bare) (argument_step present bare) (record { param = argument.param; value = argument.value })

  -- the creation of a class
  pub tidied-NewDefault : (class : Id) → tidy_expr present bare (exprs.NewDefault class) ≡ creation class (bare class)
  tidied-NewDefault class =
      ap (tidy_expr present bare) (sym (exprs.rolls-NewDefault class)) ∙ fold-roll-IExpr IExpr Argument (expr_step present bare) (argument_step present bare) (IExpr-F.NewDefault class)

  next : (param : Param) (args : List Argument) (i : ℕ) (argument : Argument) (b : Bool) → i < length args → argument ≡ get_or args i argument → id_eq param.id argument.param ≡ b
      → value_of (map (tidy_argument present bare) (drop i args)) param
      ≡ (if b then tidy_expr present bare argument.value else value_of (map (tidy_argument present bare) (drop (i + 1) args)) param)
  next param args i argument b within at is =
      let tidied : Argument → Argument = tidy_argument present bare in
      let rest : IExpr = value_of (map tidied (drop (i + 1) args)) param in
      ap (λ list. value_of (map tidied list) param) (drop-item args i argument within at)
      ∙ ap (λ (a : Argument). value_of (a ∷ map tidied (drop (i + 1) args)) param) (argument_is argument)
      ∙ ap (λ b. if b then tidy_expr present bare argument.value else rest) (sym (id_ties param.id argument.param) ∙ is)

  -- the first argument for a parameter
  pub first-found : (param : Param) (args : List Argument) (i : ℕ) (argument : Argument) → i < length args → argument ≡ get_or args i argument → id_eq param.id argument.param ≡ true
      → value_of (map (tidy_argument present bare) (drop i args)) param ≡ tidy_expr present bare argument.value
  first-found param args i argument within at is = next param args i argument true within at is

  -- an argument for another parameter
  pub next-found : (param : Param) (args : List Argument) (i : ℕ) (argument : Argument) → i < length args → argument ≡ get_or args i argument → id_eq param.id argument.param ≡ false
      → value_of (map (tidy_argument present bare) (drop (i + 1) args)) param ≡ value_of (map (tidy_argument present bare) (drop i args)) param
  next-found param args i argument within at is = sym (next param args i argument false within at is)
