use Rattle.std.proofs.Common.{◌∙◌, sym}
use Rattle.mol_spell_names.proofs.body_names_lemmas.FoundAbove.{method-elsewhere}
use Rattle.mol_spell_names.proofs.body_names_lemmas.FoundHere.{method-read}
use Rattle.mol_spell_names.proofs.body_names.places.BodyNamesPlaces.reads_method.Goals as goal
use Rattle.mol_spell_names.specs.body_names.FoundAs.{is_method_found}

pub returns-then-not-has_method_above : goal.returns-then-not-has_method_above
returns-then-not-has_method_above g c =
    let place = c.args.self.now in
    method-elsewhere place.members.now c.has_method_above.ensures.rules (g.F.FileNames.imports place.file.now)
    (g.F.FileNames.simple place.file.now) place.class place.method c.args.method.now c.args.arity
    (sym c.has_method_above.ensures.above ∙ c.if-not-has_method_above.true)

pub returns : goal.returns
returns g c =
    let place = c.args.self.now in
    let method = c.args.method.now in
    c.method_is.ensures ∙ (λ i. is_method_found (c.table.ensures i) method (c.method_found-found.ensures i))
    ∙ method-read place.members.now (g.F.FileNames.imports place.file.now) (g.F.FileNames.simple place.file.now) place.class place.method
    method c.args.arity
