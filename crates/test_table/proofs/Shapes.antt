-- The shapes of the expression and of the body of the shop.
use Rattle.std.specs.Prelude.{◌≡◌, ℕ, Bool, true, List, [], ◌∷◌}
use Rattle.std.proofs.Common.{sym, ap, ◌∙◌}
use Rattle.mol_base.specs.declared.ident.Id.{Id}
use Rattle.mol_table_rules.specs.ExpressionForms.{Shape, are_arguments, argument_step, plain, shape_of, shape_step, statement}
use Rattle.mol_table_rules.specs.StatementForms.{BlockShape, StatementShape, block_step, else_step, if_step, is_body, node_step, statement_step}
use Rattle.mol_values_types.specs.TokenForms.{is_literal}
use Rattle.mol_values_types.specs.Blocks.{block_of}
use Rattle.mol_values_types.specs.declared.iblock.IElse.TheFolds.{fold-roll-IBlock}
use Rattle.mol_values_types.specs.declared.iexpr.Argument.{Argument}
use Rattle.mol_values_types.specs.declared.iexpr.IExpr.{IExpr}
use Rattle.mol_values_types.specs.declared.iexpr.IExpr.TheFolds.{fold-roll-Argument, fold-roll-IExpr, map-IExpr}
use Rattle.mol_values_types.specs.declared.iexpr.IExpr.TheOpen.{IExpr-F}
use Rattle.mol_values_types.specs.declared.iexpr.IExpr.TheVariants as exprs
use Rattle.mol_values_types.specs.declared.iexpr.IExpr.TheViews.{roll-IExpr}
use Rattle.mol_table_rules.proofs.Kept.{argument_shape}

rolled : (x : IExpr-F IExpr Argument) → shape_of (roll-IExpr x) ≡ shape_step (map-IExpr _ _ _ _ shape_of argument_shape x)
rolled x = fold-roll-IExpr Shape Shape shape_step argument_step x

pub shape_lit : (text : List ℕ) → shape_of (exprs.Lit text) ≡ plain (is_literal text)
shape_lit text = ap shape_of (sym (exprs.rolls-Lit text)) ∙ rolled (IExpr-F.Lit text)

shape_is : (argument : Argument) → argument_shape argument ≡ shape_of argument.value
shape_is argument = fold-roll-Argument Shape Shape shape_step argument_step (record { param = argument.param; value = argument.value })

-- a creation with one argument
pub shape_new : (constructor : Id) (argument : Argument)
    → shape_of (exprs.New constructor (argument ∷ [])) ≡ statement (are_arguments (shape_of argument.value ∷ []))
shape_new constructor argument =
    ap shape_of (sym (exprs.rolls-New constructor (argument ∷ [])))
    ∙ rolled (IExpr-F.New constructor (argument ∷ []))
    ∙ (λ i. shape_step (IExpr-F.New constructor (shape_is argument i ∷ [])))

pub empty_body : is_body (record { block = block_of [] [] }) ≡ true
empty_body =
    ap (λ (shape : BlockShape). shape.body)
    (fold-roll-IBlock Bool StatementShape BlockShape Bool StatementShape else_step node_step block_step if_step statement_step
    (record { items = []; tail = [] }))
