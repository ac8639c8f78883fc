use Rattle.std.proofs.Common.{◌≡◌, map}
use Rattle.mol_base.specs.Files.{file_pairs}
use Rattle.mol_spell_rules.specs.PrintedFiles.{printed_text}
use Rattle.mol_spell.specs.keys.Keys.{key_of}
use Rattle.mol_spell.specs.Spelt.{unit_at}
use Rattle.mol_spell_files.proofs.files.files_of.Given as goal
use Rattle.mol_spell_files.specs.ProgramTexts.{printed_height, written_text}

abbrev pub invariant-loop-key : goal.invariant-loop-key
invariant-loop-key l =
    (file_pairs l.texts.items ≡ map written_text (map printed_text (map (unit_at l.program) (map key_of l.yielded))))
    × (l.heights.items ≡ map printed_height (map (unit_at l.program) (map key_of l.yielded)))
