use Rattle.std.proofs.Common.{◌∙◌, sym, ap}
use Rattle.jav_names.specs.LookUps.{variable}
use Rattle.mol_spell_places.specs.body_locals.Kept.{locals_of}
use Rattle.mol_spell_names.proofs.body_names_lemmas.FoundAbove.{field-elsewhere}
use Rattle.mol_spell_names.proofs.body_names_lemmas.FoundHere.{field-found}
use Rattle.mol_spell_names.proofs.body_names.places.BodyNamesPlaces.reads_field.Goals as goal
use Rattle.mol_spell_names.specs.body_names.FilePlaces.{reader_in}
use Rattle.mol_spell_names.specs.body_names.FoundAs.{is_field_found}
use Rattle.mol_resolve_rules.specs.Readers.{place_of}
use Rattle.mol_spell_rules.specs.SpelledExpressions.{is_field}
use Rattle.mol_table_rules.specs.Program.{Program, name_at}

pub returns-then-not-has_field_above : goal.returns-then-not-has_field_above
returns-then-not-has_field_above g c =
    let place = c.args.self.now in
    field-elsewhere place.members.now c.has_field_above.ensures.rules (g.F.FileNames.imports place.file.now)
    (g.F.FileNames.simple place.file.now) place.class place.method (locals_of c.args.locals.now) c.args.field.now
    (sym c.has_field_above.ensures.above ∙ c.if-not-has_field_above.true)

pub returns : goal.returns
returns g c =
    let place = c.args.self.now in
    let field = c.args.field.now in
    let reader = reader_in place.members.now (g.F.FileNames.imports place.file.now) place.class place.method in
    c.is_field.ensures ∙ ap (is_field_found field) c.variable.ensures ∙ field-found field _
    ∙ ap (λ name. is_field field (variable reader.view (place_of reader (locals_of c.args.locals.now)) name))
    (c.name_of-name.ensures ∙ ap (λ (program : Program). name_at program field) c.table.ensures)
