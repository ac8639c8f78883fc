-- The laws of places are lemmas.
use Rattle.jav_print_laws.proofs.places_lemmas.Placeless.{units_print_alike, bodies_print_alike, exprs_print_alike, units_printed_alike, bodies_printed_alike, exprs_printed_alike, units_are_as_high, bodies_are_as_high, exprs_are_as_high}
use Rattle.jav_print_laws.proofs.places.places_are_not_printed.Goals as goal

pub returns : goal.returns
returns c = record {
  units = units_print_alike;
  bodies = bodies_print_alike;
  exprs = exprs_print_alike;
  unit_trees = units_printed_alike;
  body_trees = bodies_printed_alike;
  expr_trees = exprs_printed_alike;
  unit_heights = units_are_as_high;
  body_heights = bodies_are_as_high;
  expr_heights = exprs_are_as_high;
}
