use Rattle.std.proofs.Common.{◌≡◌, drop}
use Rattle.mol_spell_files.specs.FileLimits.{tall_tree}
use Rattle.mol_spell_files.proofs.limits.refuse_tall_tree.Given as goal

abbrev pub invariant-loop-height : goal.invariant-loop-height
invariant-loop-height l = tall_tree l.heights ≡ tall_tree (drop l.height-index l.heights)
