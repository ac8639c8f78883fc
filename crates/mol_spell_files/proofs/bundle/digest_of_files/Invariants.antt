use Rattle.std.proofs.Common.{take}
use Rattle.sha2.specs.Hashers.{Holds256}
use Rattle.mol_base.specs.Files.{file_pairs}
use Rattle.mol_spell_files.specs.Bundle.{bundle}
use Rattle.mol_spell_files.proofs.bundle.digest_of_files.Given as goal

abbrev pub invariant-loop-file : goal.invariant-loop-file
invariant-loop-file l = Holds256 l.hasher (bundle (file_pairs (take l.file-index l.files)))
