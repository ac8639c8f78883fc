use Rattle.std.proofs.Common.{◌∙◌, ap, map}
use Rattle.jav_tree.specs.Height.{tallest, member_height}
use Rattle.jav_tree.proofs.HeightsStatements.{height_of_unit}
use Rattle.jav_tree.proofs.unit.Unit.height.Goals as goal

pub returns-clause-grammar : goal.returns-clause-grammar
returns-clause-grammar c = λ limit h ts p. c.tallest_members.ensures ∙ ap (λ ms. tallest (map member_height ms)) c.items.ensures ∙ height_of_unit p
