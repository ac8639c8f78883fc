use Rattle.std.proofs.Common.{◌≡◌, take}
use Rattle.mol_spell_places.specs.body_locals.Kept.{locals_of}
use Rattle.mol_faults_misread.proofs.body_misreads.body_reader.BodyReader.note_arguments.Given as goal
use Rattle.mol_faults_expr.specs.Noted.{noted_after}
use Rattle.mol_faults_expr.specs.References.{argument_references}

abbrev pub invariant-loop-arg : goal.invariant-loop-arg
invariant-loop-arg g l =
    let writer = g.P.Places.writer l.self.places.now in
    l.misreads ≡ noted_after writer l.initial.misreads (argument_references writer (locals_of l.locals) (take l.arg-index l.args))
