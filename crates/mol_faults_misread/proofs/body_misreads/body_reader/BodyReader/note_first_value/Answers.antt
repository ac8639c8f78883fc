use Rattle.std.proofs.lemmas.Result.{on_ok_weaker}
use Rattle.mol_spell_places.specs.body_locals.Kept.{locals_of}
use Rattle.mol_faults_misread.proofs.body_misreads_lemmas.ValueParts.{field-noted}
use Rattle.mol_faults_misread.proofs.body_misreads.body_reader.BodyReader.note_first_value.Goals as goal

pub returns : goal.returns
returns g c =
    on_ok_weaker c.note_maybe.result (field-noted (g.P.Places.writer c.args.self.now.places.now) c.args.ty.now c.args.init.now
    (locals_of c.new-locals.result) c.args.misreads.now _ _ c.new-locals.ensures c.in_ok-note_header_type.ensures) c.note_maybe.ensures
