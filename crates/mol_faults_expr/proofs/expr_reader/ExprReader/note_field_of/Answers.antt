use Rattle.std.proofs.Common.{◌≡◌, ◌∷◌, refl, ap, ◌∙◌}
use Rattle.std.proofs.lemmas.Result.{on_ok_weaker}
use Rattle.mol_faults_expr.proofs.NamesAdded.{are-below, are-many, are-some, go-past}
use Rattle.mol_faults_expr.proofs.ReadHere.{is-place, reads-there}
use Rattle.mol_faults_expr.specs.Kept.{mode_of}
use Rattle.mol_spell_rules.specs.references.References.{field_target}
use Rattle.mol_resolve_rules.specs.ReadTrees.{followers}
use Rattle.mol_spell_rules.specs.SpelledExpressions.{class_names, field_reference, on_class}
use Rattle.mol_spell_rules.specs.Writers.{static_field_asked}
use Rattle.mol_faults_expr.proofs.expr_reader.ExprReader.note_field_of.Goals as goal

pub static_field_reads-requires-clause-at : goal.static_field_reads-requires-clause-at
static_field_reads-requires-clause-at g c =
    let writer = g.N.Names.writer c.args.self.now.names.now in
    let locals = g.N.Names.locals c.args.self.now.names.now in
    let place = c.args.self.now.place in
    let kept = c.args.self.now.locals.now in
    is-place writer locals place kept c.requires c.instead_place.result c.instead_place.ensures.names c.instead_place.ensures.locals

pub static_field_reads-requires-clause-some : goal.static_field_reads-requires-clause-some
static_field_reads-requires-clause-some g c =
    let writer = g.N.Names.writer c.args.self.now.names.now in
    let locals = g.N.Names.locals c.args.self.now.names.now in
    let names = class_names writer locals c.args.class.now in
    are-some c.in_ok-names.names.items names.first names.rest c.len-count.result
    (c.in_ok-names.ensures ∙ ap (λ names. names.first ∷ names.rest) c.in_ok-spelled.ensures)
    (c.len-count.ensures ∙ c.in_ok-names.names.ok.0)

pub static_field_reads-requires-clause-within : goal.static_field_reads-requires-clause-within
static_field_reads-requires-clause-within g c =
    let writer = g.N.Names.writer c.args.self.now.names.now in
    let locals = g.N.Names.locals c.args.self.now.names.now in
    let names = class_names writer locals c.args.class.now in
    are-below c.in_ok-names.names.items names.first names.rest c.len-count.result
    (c.in_ok-names.ensures ∙ ap (λ names. names.first ∷ names.rest) c.in_ok-spelled.ensures)
    (c.len-count.ensures ∙ c.in_ok-names.names.ok.0) _ _ _ _ c.in_ok-add_name.ensures
    (c.as_slice.ensures.value ∙ c.in_ok-add_followers.ensures)

pub returns : goal.returns
returns g c =
    let writer = g.N.Names.writer c.args.self.now.names.now in
    let locals = g.N.Names.locals c.args.self.now.names.now in
    let place = c.args.self.now.place in
    let kept = c.args.self.now.locals.now in
    let names = class_names writer locals c.args.class.now in
    let mode = mode_of c.args.mode in
    let spelled : c.in_ok-names.names.items ≡ names.first ∷ names.rest = c.in_ok-names.ensures
    ∙ ap (λ names. names.first ∷ names.rest) c.in_ok-spelled.ensures in
    let many = c.len-count.ensures ∙ c.in_ok-names.names.ok.0 in
    on_ok_weaker c.note.result (λ noted. noted (field_reference writer locals (on_class c.args.class.now) c.args.field.now mode) refl
    (reads-there writer locals place kept c.requires c.instead_place.result c.instead_place.ensures.names c.instead_place.ensures.locals _
    (field_target c.args.field.now) _ _ _
    (c.in_ok-reads.ensures names c.name_of.result.now (followers mode)
    (go-past c.in_ok-names.names.items names.first names.rest c.len-count.result spelled many _ (followers mode) _ _
    c.in_ok-add_name.ensures (c.as_slice.ensures.value ∙ c.in_ok-add_followers.ensures))
    (are-many c.in_ok-names.names.items names.first names.rest c.len-count.result spelled many)) refl
    (ap (λ name. static_field_asked names name (followers mode)) c.name_of.ensures))) c.note.ensures
