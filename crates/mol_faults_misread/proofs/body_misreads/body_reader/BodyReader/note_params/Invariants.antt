use Rattle.std.proofs.Common.{◌≡◌, take}
use Rattle.mol_faults_misread.proofs.body_misreads.body_reader.BodyReader.note_params.Given as goal
use Rattle.mol_faults_misread.specs.body_misreads.PartReferences.{params_references}
use Rattle.mol_faults_expr.specs.Noted.{noted_after}

abbrev pub invariant-loop-param : goal.invariant-loop-param
invariant-loop-param g l =
    let writer = g.P.Places.writer l.self.places.now in
    l.misreads ≡ noted_after writer l.initial.misreads (params_references writer (take l.param-index l.params))
