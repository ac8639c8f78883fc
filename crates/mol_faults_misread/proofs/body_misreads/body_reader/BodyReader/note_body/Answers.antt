use Rattle.std.proofs.lemmas.Result.{on_ok_weaker}
use Rattle.mol_spell_places.specs.body_locals.Kept.{locals_of}
use Rattle.mol_faults_misread.proofs.body_misreads_lemmas.ValueParts.{body-noted}
use Rattle.mol_faults_misread.proofs.body_misreads.body_reader.BodyReader.note_body.Goals as goal

pub returns : goal.returns
returns g c =
    on_ok_weaker c.note_block.result (body-noted (g.P.Places.writer c.args.self.now.places.now) c.args.body.now
    (locals_of c.new-locals.result) _ c.args.misreads.now _ c.new-locals.ensures) c.note_block.ensures
