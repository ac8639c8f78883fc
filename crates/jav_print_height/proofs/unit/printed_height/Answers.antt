use Rattle.std.proofs.Common.{◌∙◌, ap, sym, map}
use Rattle.jav_tree.specs.Height.{tallest}
use Rattle.jav_print_height.specs.PrintedHeights.{member_height}
use Rattle.jav_print_height.proofs.PrintedStatements.{unit_printed}
use Rattle.jav_print_height.proofs.unit.printed_height.Goals as goal

pub returns : goal.returns
returns c = c.tallest_members.ensures ∙ ap (λ ms. tallest (map member_height ms)) c.items.ensures ∙ sym (unit_printed c.args.unit.now)
