use Rattle.std.proofs.Common.{◌∙◌, ap}
use Rattle.jav_print_height.proofs.MeasuredExpressions.{height_measured}
use Rattle.jav_print_height.proofs.expr.height_of.Goals as goal

pub returns : goal.returns
returns c = ap (λ m. m.height) c.measure_of.ensures ∙ height_measured c.args.e.now
