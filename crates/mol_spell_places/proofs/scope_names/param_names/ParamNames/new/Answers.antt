use Rattle.mol_spell_places.proofs.scope_names.param_names.ParamNames.new.Goals as goal

pub invariant_of-result : goal.invariant_of-result
invariant_of-result c = c.in_ok-first.ensures
