use Rattle.std.proofs.Common.{◌≡◌, drop}
use Rattle.mol_spell_files.specs.FileLimits.{long_text}
use Rattle.mol_base.specs.Files.{file_pairs}
use Rattle.mol_spell_files.proofs.limits.refuse_long_text.Given as goal

abbrev pub invariant-loop-text : goal.invariant-loop-text
invariant-loop-text l = long_text (file_pairs l.texts) ≡ long_text (file_pairs (drop l.text-index l.texts))
