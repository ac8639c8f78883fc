use Rattle.std.proofs.lemmas.Result.{on_ok_weaker}
use Rattle.mol_spell_places.specs.body_locals.Kept.{locals_of}
use Rattle.mol_faults_misread.proofs.body_misreads_lemmas.Declared.{let-goes}
use Rattle.mol_faults_misread.proofs.body_misreads.body_reader.BodyReader.note_let.Goals as goal

pub returns : goal.returns
returns g c =
    let writer = g.P.Places.writer c.args.self.now.places.now in
    on_ok_weaker c.note_declarators.result (let-goes writer c.args.declared.now _ (locals_of c.args.locals.now) _ c.args.misreads.now _ _
    c.items.ensures c.in_ok-note_declared_type.ensures) c.note_declarators.ensures
