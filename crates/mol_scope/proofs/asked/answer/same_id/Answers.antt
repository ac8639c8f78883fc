use Rattle.std.proofs.Common.{◌∙◌}
use Rattle.mol_values_types.proofs.Ties.{id_ties}
use Rattle.mol_scope.proofs.asked.answer.same_id.Goals as goal

pub returns : goal.returns
returns c = c.eq.ensures ∙ id_ties c.args.first.now c.args.second.now
