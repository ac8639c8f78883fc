use Rattle.std.proofs.Common.{take}
use Rattle.mol_base.specs.Files.{file_pairs}
use Rattle.mol_program.specs.Programs.{AreParsed}
use Rattle.mol_resolve_members.specs.sources.Sources.{files_of}
use Rattle.mol_program.proofs.units.source_units.Given as goal

abbrev pub invariant-loop-file : goal.invariant-loop-file
invariant-loop-file l = AreParsed (file_pairs (take l.file-index l.files)) (files_of l.units)
