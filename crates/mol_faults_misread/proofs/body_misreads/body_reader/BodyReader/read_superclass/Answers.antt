use Rattle.mol_faults_misread.proofs.body_misreads.body_reader.BodyReader.read_superclass.Goals as goal

pub note_super-requires : goal.note_super-requires
note_super-requires g c = c.place_beside.ensures
