use Rattle.std.proofs.Common.{◌∙◌, ap}
use Rattle.std.proofs.lemmas.Result.{on_ok_weaker}
use Rattle.mol_faults_misread.proofs.body_misreads.body_reader.BodyReader.note_header_type.Goals as goal
use Rattle.mol_faults_misread.specs.body_misreads.PartReferences.{declared_references}
use Rattle.mol_faults_expr.specs.Noted.{noted_after}

pub returns : goal.returns
returns g c =
    let writer = g.P.Places.writer c.args.self.now.places.now in
    on_ok_weaker c.note_declared_type.result (λ noted. noted
    ∙ ap (λ locals. noted_after writer c.args.misreads.now (declared_references writer locals c.args.ty.now)) c.new-locals.ensures)
    c.note_declared_type.ensures
