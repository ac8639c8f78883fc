use Rattle.std.proofs.Common.{refl}
use Rattle.mol_faults_misread.proofs.body_misreads.body_reader.BodyReader.place_beside.Goals as goal

pub returns : goal.returns
returns g c = record {
  program = c.requires.program;
  reader = c.requires.reader;
  at = record { params = c.requires.params; names = c.names.ensures; numbers = c.in_scope.ensures };
  locals_are = refl;
}
