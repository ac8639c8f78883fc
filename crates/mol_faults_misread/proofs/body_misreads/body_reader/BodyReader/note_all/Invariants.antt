use Rattle.std.proofs.Common.{◌≡◌, take}
use Rattle.mol_spell_places.specs.body_locals.Kept.{locals_of}
use Rattle.mol_faults_misread.proofs.body_misreads.body_reader.BodyReader.note_all.Given as goal
use Rattle.mol_faults_expr.specs.Noted.{noted_after}
use Rattle.mol_faults_expr.specs.References.{all_references}

abbrev pub invariant-loop-item : goal.invariant-loop-item
invariant-loop-item g l =
    let writer = g.P.Places.writer l.self.places.now in
    l.misreads ≡ noted_after writer l.initial.misreads (all_references writer (locals_of l.locals) (take l.item-index l.items))
