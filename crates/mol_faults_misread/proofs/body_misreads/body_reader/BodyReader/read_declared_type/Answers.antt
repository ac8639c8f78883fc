use Rattle.mol_faults_misread.proofs.body_misreads.body_reader.BodyReader.read_declared_type.Goals as goal

pub note_type-requires : goal.note_type-requires
note_type-requires g c = c.place_beside.ensures
