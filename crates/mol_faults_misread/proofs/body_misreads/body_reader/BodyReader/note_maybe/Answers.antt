use Rattle.std.proofs.Common.{ap}
use Rattle.std.proofs.lemmas.Result.{on_ok_weaker}
use Rattle.mol_spell_places.specs.body_locals.Kept.{locals_of}
use Rattle.mol_faults_misread.proofs.body_misreads_lemmas.Noting.{notes, notes-none}
use Rattle.mol_faults_misread.proofs.body_misreads.body_reader.BodyReader.note_maybe.Goals as goal
use Rattle.mol_faults_misread.specs.body_misreads.PartReferences.{maybe_references}

pub returns-in-Some : goal.returns-in-Some
returns-in-Some g c =
    let writer = g.P.Places.writer c.args.self.now.places.now in
    on_ok_weaker c.note_expr.result (notes writer c.args.misreads.now _ _ _
    (ap (maybe_references writer (locals_of c.args.locals.now)) c.in-Some.is)) c.note_expr.ensures

pub returns-in-None : goal.returns-in-None
returns-in-None g c =
    let writer = g.P.Places.writer c.args.self.now.places.now in
    notes-none writer c.args.misreads.now _ (ap (maybe_references writer (locals_of c.args.locals.now)) c.in-None.is)
