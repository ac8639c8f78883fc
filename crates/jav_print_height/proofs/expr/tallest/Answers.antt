use Rattle.std.proofs.Common.{◌∙◌}
use Rattle.jav_print_height.proofs.MeasuredExpressions.{heights_measured}
use Rattle.jav_print_height.proofs.expr.tallest.Goals as goal

pub returns : goal.returns
returns c = c.highest.ensures ∙ heights_measured c.args.items.now
