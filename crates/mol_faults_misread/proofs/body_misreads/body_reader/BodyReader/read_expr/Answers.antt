use Rattle.mol_faults_misread.proofs.body_misreads.body_reader.BodyReader.read_expr.Goals as goal

pub note_expr-requires : goal.note_expr-requires
note_expr-requires g c = c.place_beside.ensures
