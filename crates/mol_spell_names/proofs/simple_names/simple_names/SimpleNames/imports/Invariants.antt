use Rattle.std.proofs.Common.{◌≡◌}
use Rattle.mol_spell_names.proofs.simple_names.simple_names.SimpleNames.imports.Given as goal

abbrev pub invariant-loop-import : goal.invariant-loop-import
invariant-loop-import l = l.imports ≡ l.yielded
