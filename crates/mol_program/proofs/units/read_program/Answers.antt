use Rattle.mol_base.specs.Files.{file_pairs}
use Rattle.mol_program.proofs.FirstWrong.{names-reported}
use Rattle.mol_program.proofs.TreesOfFiles.{trees-are}
use Rattle.mol_program.proofs.units.read_program.Goals as goal
use Rattle.mol_resolve_members.specs.sources.Sources.{files_of}

pub resolve_units-requires : goal.resolve_units-requires
resolve_units-requires c = trees-are (file_pairs c.args.files.now) (files_of c.in_ok-units.units) c.in_ok-units.ensures.parsed

pub refused_names-requires-clause-fault : goal.refused_names-requires-clause-fault
refused_names-requires-clause-fault c =
    names-reported (file_pairs c.args.files.now) (files_of c.in_ok-units.units) c.in-Err.fault c.requires.apart
    c.in_ok-units.ensures.parsed c.in-Err.ensures.fault

pub returns-in-Ok-clause-read : goal.returns-in-Ok-clause-read
returns-in-Ok-clause-read c = record {
  trees = files_of c.in_ok-units.units;
  parsed = c.in_ok-units.ensures.parsed;
  read = c.in-Ok.ensures.read;
  plain = c.in-Ok.ensures.plain;
}
