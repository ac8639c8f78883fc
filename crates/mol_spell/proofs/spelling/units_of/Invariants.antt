use Rattle.std.proofs.Common.{◌≡◌, map}
use Rattle.mol_spell.proofs.spelling.units_of.Given as goal
use Rattle.mol_spell.specs.Spelt.{spelled_of, unit_at}
use Rattle.mol_spell.specs.keys.Keys.{key_of}

abbrev pub invariant-loop-key : goal.invariant-loop-key
invariant-loop-key l = map spelled_of l.units ≡ map (unit_at l.program) (map key_of l.yielded)
