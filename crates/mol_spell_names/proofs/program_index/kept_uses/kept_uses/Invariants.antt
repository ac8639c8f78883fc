use Rattle.std.proofs.Common.{drop}
use Rattle.mol_spell_names.specs.program_index.KeptUses.{AreUsesBut}
use Rattle.mol_spell_names.proofs.program_index.kept_uses.kept_uses.Given as goal

abbrev pub invariant-loop-class : goal.invariant-loop-class
invariant-loop-class l = AreUsesBut l.names (drop l.class-index l.ids) l.kept.entries
