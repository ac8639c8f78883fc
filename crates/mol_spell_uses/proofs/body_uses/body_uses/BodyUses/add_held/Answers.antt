-- What each kind of value uses.
use Rattle.std.proofs.Common.{◌∙◌, Some, ap, sym}
use Rattle.std.proofs.lemmas.Result.{on_ok_weaker}
use Rattle.mol_spell_uses.proofs.body_uses_lemmas.ValueUses.{field-used, held-body-used, list-used, parent-used, result-used}
use Rattle.mol_spell_uses.proofs.body_uses.body_uses.BodyUses.add_held.Goals as goal
use Rattle.mol_spell_uses.specs.body_uses.PartUses.{value_uses}
use Rattle.mol_spell_uses.proofs.uses_lemmas.Added.{adds-none}
use Rattle.mol_values_types.specs.declared.value.Value.TheVariants as values

pub returns-in-Live : goal.returns-in-Live
returns-in-Live g c =
    let writer = g.P.Places.writer c.args.self.now.places.now in
    adds-none c.args.uses.now _ (ap (λ value. value_uses writer (Some value)) c.in-Live.is)

pub returns-in-Package : goal.returns-in-Package
returns-in-Package g c =
    let writer = g.P.Places.writer c.args.self.now.places.now in
    adds-none c.args.uses.now _ (ap (λ value. value_uses writer (Some value)) c.in-Package.is)

pub returns-in-Owner : goal.returns-in-Owner
returns-in-Owner g c =
    let writer = g.P.Places.writer c.args.self.now.places.now in
    adds-none c.args.uses.now _ (ap (λ value. value_uses writer (Some value)) c.in-Owner.is)

pub returns-in-Method : goal.returns-in-Method
returns-in-Method g c =
    let writer = g.P.Places.writer c.args.self.now.places.now in
    adds-none c.args.uses.now _ (ap (λ value. value_uses writer (Some value)) c.in-Method.is)

pub returns-in-Name : goal.returns-in-Name
returns-in-Name g c =
    let writer = g.P.Places.writer c.args.self.now.places.now in
    adds-none c.args.uses.now _ (ap (λ value. value_uses writer (Some value)) c.in-Name.is)

pub returns-in-Kind : goal.returns-in-Kind
returns-in-Kind g c =
    let writer = g.P.Places.writer c.args.self.now.places.now in
    adds-none c.args.uses.now _ (ap (λ value. value_uses writer (Some value)) c.in-Kind.is)

pub returns-in-Fixed : goal.returns-in-Fixed
returns-in-Fixed g c =
    let writer = g.P.Places.writer c.args.self.now.places.now in
    adds-none c.args.uses.now _ (ap (λ value. value_uses writer (Some value)) c.in-Fixed.is)

pub returns-in-Words : goal.returns-in-Words
returns-in-Words g c =
    let writer = g.P.Places.writer c.args.self.now.places.now in
    adds-none c.args.uses.now _ (ap (λ value. value_uses writer (Some value)) c.in-Words.is)

pub returns-in-Notes : goal.returns-in-Notes
returns-in-Notes g c =
    let writer = g.P.Places.writer c.args.self.now.places.now in
    adds-none c.args.uses.now _ (ap (λ value. value_uses writer (Some value)) c.in-Notes.is)

pub returns-in-Super : goal.returns-in-Super
returns-in-Super g c =
    let writer = g.P.Places.writer c.args.self.now.places.now in
    on_ok_weaker c.add_parent.result (parent-used writer c.args.value.now c.args.uses.now _ c.in-Super.parent c.in-Super.is)
    c.add_parent.ensures

pub returns-in-Result : goal.returns-in-Result
returns-in-Result g c =
    let writer = g.P.Places.writer c.args.self.now.places.now in
    on_ok_weaker c.add_declared_type.result (result-used writer c.args.value.now c.args.uses.now _ c.in-Result.ty c.in-Result.is)
    c.add_declared_type.ensures

pub returns-in-Params : goal.returns-in-Params
returns-in-Params g c =
    let writer = g.P.Places.writer c.args.self.now.places.now in
    on_ok_weaker c.add_params.result (list-used writer c.args.value.now c.args.uses.now _ c.in-Params.params _ c.in-Params.is
    c.items.ensures) c.add_params.ensures

pub returns-in-Body : goal.returns-in-Body
returns-in-Body g c =
    let writer = g.P.Places.writer c.args.self.now.places.now in
    on_ok_weaker c.add_maybe_body.result (held-body-used writer c.args.value.now c.args.uses.now _ c.in-Body.body c.in-Body.is)
    c.add_maybe_body.ensures

pub returns-in-Value : goal.returns-in-Value
returns-in-Value g c =
    let writer = g.P.Places.writer c.args.self.now.places.now in
    on_ok_weaker c.add_first_value.result (field-used writer c.args.value.now c.args.uses.now _ c.in-Value.ty _
    (c.in-Value.is ∙ ap (values.Value c.in-Value.ty) (sym c.get.ensures)))
    c.add_first_value.ensures
