use Rattle.std.proofs.Common.{Some, ap}
use Rattle.std.proofs.lemmas.Result.{on_ok_weaker}
use Rattle.mol_faults_misread.proofs.body_misreads_lemmas.Noting.{notes, notes-none}
use Rattle.mol_faults_misread.proofs.body_misreads.body_reader.BodyReader.note_parent.Goals as goal
use Rattle.mol_spell_rules.specs.UnitCells.{references_in}
use Rattle.mol_values_types.specs.declared.value.Value.TheVariants as values

pub returns-in-Some : goal.returns-in-Some
returns-in-Some g c =
    let writer = g.P.Places.writer c.args.self.now.places.now in
    on_ok_weaker c.note_header_type.result (notes writer c.args.misreads.now _ _ _
    (ap (λ parent. references_in writer (Some (values.Super parent))) c.in-Some.is)) c.note_header_type.ensures

pub returns-in-None : goal.returns-in-None
returns-in-None g c =
    let writer = g.P.Places.writer c.args.self.now.places.now in
    notes-none writer c.args.misreads.now _ (ap (λ parent. references_in writer (Some (values.Super parent))) c.in-None.is)
