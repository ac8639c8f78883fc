-- What is noted of each kind of value.
use Rattle.std.proofs.Common.{◌∙◌, Some, ap, sym}
use Rattle.std.proofs.lemmas.Result.{on_ok_weaker}
use Rattle.mol_faults_misread.proofs.body_misreads_lemmas.Noting.{notes, notes-none}
use Rattle.mol_faults_misread.proofs.body_misreads_lemmas.ValueParts.{list-noted}
use Rattle.mol_faults_misread.proofs.body_misreads.body_reader.BodyReader.note_held.Goals as goal
use Rattle.mol_spell_rules.specs.UnitCells.{references_in}
use Rattle.mol_values_types.specs.declared.value.Value.TheVariants as values

pub returns-in-Live : goal.returns-in-Live
returns-in-Live g c =
    let writer = g.P.Places.writer c.args.self.now.places.now in
    notes-none writer c.args.misreads.now _ (ap (λ value. references_in writer (Some value)) c.in-Live.is)

pub returns-in-Package : goal.returns-in-Package
returns-in-Package g c =
    let writer = g.P.Places.writer c.args.self.now.places.now in
    notes-none writer c.args.misreads.now _ (ap (λ value. references_in writer (Some value)) c.in-Package.is)

pub returns-in-Owner : goal.returns-in-Owner
returns-in-Owner g c =
    let writer = g.P.Places.writer c.args.self.now.places.now in
    notes-none writer c.args.misreads.now _ (ap (λ value. references_in writer (Some value)) c.in-Owner.is)

pub returns-in-Method : goal.returns-in-Method
returns-in-Method g c =
    let writer = g.P.Places.writer c.args.self.now.places.now in
    notes-none writer c.args.misreads.now _ (ap (λ value. references_in writer (Some value)) c.in-Method.is)

pub returns-in-Name : goal.returns-in-Name
returns-in-Name g c =
    let writer = g.P.Places.writer c.args.self.now.places.now in
    notes-none writer c.args.misreads.now _ (ap (λ value. references_in writer (Some value)) c.in-Name.is)

pub returns-in-Kind : goal.returns-in-Kind
returns-in-Kind g c =
    let writer = g.P.Places.writer c.args.self.now.places.now in
    notes-none writer c.args.misreads.now _ (ap (λ value. references_in writer (Some value)) c.in-Kind.is)

pub returns-in-Fixed : goal.returns-in-Fixed
returns-in-Fixed g c =
    let writer = g.P.Places.writer c.args.self.now.places.now in
    notes-none writer c.args.misreads.now _ (ap (λ value. references_in writer (Some value)) c.in-Fixed.is)

pub returns-in-Words : goal.returns-in-Words
returns-in-Words g c =
    let writer = g.P.Places.writer c.args.self.now.places.now in
    notes-none writer c.args.misreads.now _ (ap (λ value. references_in writer (Some value)) c.in-Words.is)

pub returns-in-Notes : goal.returns-in-Notes
returns-in-Notes g c =
    let writer = g.P.Places.writer c.args.self.now.places.now in
    notes-none writer c.args.misreads.now _ (ap (λ value. references_in writer (Some value)) c.in-Notes.is)

pub returns-in-Super : goal.returns-in-Super
returns-in-Super g c =
    let writer = g.P.Places.writer c.args.self.now.places.now in
    on_ok_weaker c.note_parent.result (notes writer c.args.misreads.now _ _ _
    (ap (λ value. references_in writer (Some value)) c.in-Super.is))
    c.note_parent.ensures

pub returns-in-Result : goal.returns-in-Result
returns-in-Result g c =
    let writer = g.P.Places.writer c.args.self.now.places.now in
    on_ok_weaker c.note_header_type.result (notes writer c.args.misreads.now _ _ _
    (ap (λ value. references_in writer (Some value)) c.in-Result.is))
    c.note_header_type.ensures

pub returns-in-Body : goal.returns-in-Body
returns-in-Body g c =
    let writer = g.P.Places.writer c.args.self.now.places.now in
    on_ok_weaker c.note_maybe_body.result (notes writer c.args.misreads.now _ _ _
    (ap (λ value. references_in writer (Some value)) c.in-Body.is))
    c.note_maybe_body.ensures

pub returns-in-Value : goal.returns-in-Value
returns-in-Value g c =
    let writer = g.P.Places.writer c.args.self.now.places.now in
    on_ok_weaker c.note_first_value.result (notes writer c.args.misreads.now _ _ _
    (ap (λ value. references_in writer (Some value)) (c.in-Value.is ∙ ap (values.Value c.in-Value.ty) (sym c.get.ensures))))
    c.note_first_value.ensures

pub returns-in-Params : goal.returns-in-Params
returns-in-Params g c =
    let writer = g.P.Places.writer c.args.self.now.places.now in
    on_ok_weaker c.note_params.result (list-noted writer c.args.value.now _ _ c.args.misreads.now _ c.in-Params.is c.items.ensures)
    c.note_params.ensures
