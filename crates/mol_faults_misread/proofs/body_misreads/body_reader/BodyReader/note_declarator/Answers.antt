use Rattle.std.proofs.lemmas.Result.{on_ok_weaker}
use Rattle.mol_spell_places.specs.body_locals.Kept.{locals_of}
use Rattle.mol_faults_misread.proofs.body_misreads_lemmas.Declared.{declarator-goes}
use Rattle.mol_faults_misread.proofs.body_misreads.body_reader.BodyReader.note_declarator.Goals as goal

pub returns : goal.returns
returns g c =
    on_ok_weaker c.note_maybe.result (declarator-goes (g.P.Places.writer c.args.self.now.places.now) c.args.ty.now c.args.declared.now
    (locals_of c.args.locals.now) _ c.args.misreads.now _ c.in_ok-declare.ensures.ok) c.note_maybe.ensures
