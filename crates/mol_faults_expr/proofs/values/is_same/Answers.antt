use Rattle.std.proofs.Common.{◌∙◌}
use Rattle.mol_faults_expr.proofs.values.is_same.Goals as goal
use Rattle.mol_values_types.proofs.Ties.{id_ties}

pub returns : goal.returns
returns c = c.eq.ensures ∙ id_ties c.args.first.now c.args.second.now
