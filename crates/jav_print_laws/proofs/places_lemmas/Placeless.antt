-- The laws of places, from what is proved of a tree without them.
use Rattle.std.proofs.Common.{sym, ap, ◌∙◌}
use Rattle.jav_tree.specs.ExpressionText.{expr_text}
use Rattle.jav_tree.specs.Layout.{unit_text}
use Rattle.jav_tree.specs.Places.{unplaced_expr, unplaced_block, unplaced_unit}
use Rattle.jav_tree.specs.StatementText.{block_text}
use Rattle.jav_tree.specs.WithParens.{expr_with_parens, block_with_parens, unit_with_parens}
use Rattle.jav_print_laws.proofs.layout_lemmas.SameHeights.{expr_height-same, block_height-same, unit_height-same}
use Rattle.jav_print_laws.specs.places.Placeless.{UnitsPrintAlike, BodiesPrintAlike, ExprsPrintAlike, UnitsPrintedAlike, BodiesPrintedAlike, ExprsPrintedAlike, UnitsAreAsHigh, BodiesAreAsHigh, ExprsAreAsHigh}
use Rattle.jav_print_laws.proofs.places_lemmas.Operands.{printed-unplaced}
use Rattle.jav_print_laws.proofs.places_lemmas.Units.{expr_text-unplaced, block_text-unplaced, unit_text-unplaced, block_printed-unplaced, unit_printed-unplaced}

pub units_print_alike : UnitsPrintAlike
units_print_alike t u same = sym (unit_text-unplaced t) ∙ ap unit_text same ∙ unit_text-unplaced u

pub bodies_print_alike : BodiesPrintAlike
bodies_print_alike a b same = ap (λ text. text 0) (sym (block_text-unplaced a) ∙ ap block_text same ∙ block_text-unplaced b)

pub exprs_print_alike : ExprsPrintAlike
exprs_print_alike d e same = sym (expr_text-unplaced d) ∙ ap expr_text same ∙ expr_text-unplaced e

pub units_printed_alike : UnitsPrintedAlike
units_printed_alike t u same = sym (unit_printed-unplaced t) ∙ ap (λ x. unplaced_unit (unit_with_parens x)) same ∙ unit_printed-unplaced u

pub bodies_printed_alike : BodiesPrintedAlike
bodies_printed_alike a b same = sym (block_printed-unplaced a) ∙ ap (λ x. unplaced_block (block_with_parens x)) same ∙ block_printed-unplaced b

pub exprs_printed_alike : ExprsPrintedAlike
exprs_printed_alike d e same = sym (printed-unplaced d) ∙ ap (λ x. unplaced_expr (expr_with_parens x)) same ∙ printed-unplaced e

pub units_are_as_high : UnitsAreAsHigh
units_are_as_high t u same = unit_height-same (unit_with_parens t) (unit_with_parens u) (units_printed_alike t u same)

pub bodies_are_as_high : BodiesAreAsHigh
bodies_are_as_high a b same = block_height-same (block_with_parens a) (block_with_parens b) (bodies_printed_alike a b same)

pub exprs_are_as_high : ExprsAreAsHigh
exprs_are_as_high d e same = expr_height-same (expr_with_parens d) (expr_with_parens e) (exprs_printed_alike d e same)
