use Rattle.std.proofs.Common.{◌≡◌, ◌≤◌, drop}
use Rattle.mol_base.specs.Limits.{most}
use Rattle.mol_base.specs.declared.limit.Which.TheVariants.{SourceBytes}
use Rattle.mol_spell_files.specs.FileLimits.{long_texts}
use Rattle.mol_base.specs.Files.{file_pairs}
use Rattle.mol_spell_files.proofs.limits.refuse_long_texts.Given as goal

abbrev pub invariant-loop-text : goal.invariant-loop-text
invariant-loop-text l =
    (l.total ≤ most SourceBytes) × (long_texts 0 (file_pairs l.texts) ≡ long_texts l.total (file_pairs (drop l.text-index l.texts)))
