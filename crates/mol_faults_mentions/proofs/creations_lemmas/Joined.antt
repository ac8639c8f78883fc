-- Lists of what the items of a list create, joined.
use Rattle.std.proofs.Common.{◌≡◌, List, [], ◌∷◌, ◌++◌, map, refl, ap}
use Rattle.mol_spell_rules.specs.DefaultCreations.{expr_step, argument_step, Classes, joined, expr_creations, exprs_creations, arguments_creations}
use Rattle.mol_values_types.specs.declared.iexpr.Argument.{Argument}
use Rattle.mol_values_types.specs.declared.iexpr.IExpr.{IExpr}
use Rattle.mol_values_types.specs.declared.iexpr.IExpr.TheFolds.{fold-roll-Argument}
use Rattle.mol_faults_mentions.specs.creations.Parts.{argument_creations}

pub exprs_joined : (es : List IExpr) → joined (map expr_creations es) ≡ exprs_creations es
exprs_joined [] = refl
exprs_joined (e ∷ es) = ap (λ rest. expr_creations e ++ rest) (exprs_joined es)

-- an argument creates what its value does
value-creations : (argument : Argument) → argument_creations argument ≡ expr_creations argument.value
value-creations argument =
    fold-roll-Argument Classes Classes expr_step argument_step (record { param = argument.param; value = argument.value })

pub arguments_joined : (arguments : List Argument) → joined (map argument_creations arguments) ≡ arguments_creations arguments
arguments_joined [] = refl
arguments_joined (argument ∷ arguments) = λ i. value-creations argument i ++ arguments_joined arguments i
