use Rattle.std.proofs.Common.{map, take}
use Rattle.mol_spell_names.proofs.simple_names.bearers.bearers_of.Given as goal
use Rattle.mol_spell_names.specs.simple_names.Bearers.{AreBearers}
use Rattle.mol_spell_uses.specs.uses.Kept.{kept_use}

abbrev pub invariant-loop-used : goal.invariant-loop-used
invariant-loop-used l = AreBearers l.table (map kept_use (take l.used-index l.uses)) l.bearers.entries
