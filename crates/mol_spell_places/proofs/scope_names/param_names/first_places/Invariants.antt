use Rattle.std.proofs.Common.{take}
use Rattle.mol_spell_places.specs.scope_names.Params.{param_names, AreFirst}
use Rattle.mol_spell_places.proofs.scope_names.param_names.first_places.Given as goal

abbrev pub invariant-loop-place : goal.invariant-loop-place
invariant-loop-place l = AreFirst (param_names (take l.place l.params)) l.first.entries
