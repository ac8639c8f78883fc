use Rattle.std.proofs.Common.{◌∙◌}
use Rattle.mol_spell_names.proofs.simple_names.importables.same_class.Goals as goal
use Rattle.mol_values_types.proofs.Ties.{id_ties}

pub returns : goal.returns
returns c = c.eq.ensures ∙ id_ties c.args.first.now c.args.second.now
