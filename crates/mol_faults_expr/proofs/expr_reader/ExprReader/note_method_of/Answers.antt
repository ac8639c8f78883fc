use Rattle.std.proofs.Common.{◌∷◌, refl, ap, ◌∙◌}
use Rattle.std.proofs.lemmas.Result.{on_ok_weaker}
use Rattle.mol_faults_expr.proofs.CutNames.{is-some}
use Rattle.mol_faults_expr.proofs.ReadHere.{is-place, reads-there}
use Rattle.mol_spell_rules.specs.references.References.{method_target}
use Rattle.mol_spell_rules.specs.SpelledExpressions.{call_reference, class_names, on_class}
use Rattle.mol_spell_rules.specs.Writers.{static_method_asked}
use Rattle.mol_faults_expr.proofs.expr_reader.ExprReader.note_method_of.Goals as goal

pub static_method_reads-requires-clause-at : goal.static_method_reads-requires-clause-at
static_method_reads-requires-clause-at g c =
    let writer = g.N.Names.writer c.args.self.now.names.now in
    let locals = g.N.Names.locals c.args.self.now.names.now in
    let place = c.args.self.now.place in
    let kept = c.args.self.now.locals.now in
    is-place writer locals place kept c.requires c.instead_place-place.result c.instead_place-place.ensures.names c.instead_place-place.ensures.locals

pub static_method_reads-requires-clause-some : goal.static_method_reads-requires-clause-some
static_method_reads-requires-clause-some g c =
    let writer = g.N.Names.writer c.args.self.now.names.now in
    let locals = g.N.Names.locals c.args.self.now.names.now in
    is-some _ _ _ (c.as_slice.ensures.value ∙ c.in_ok-path.ensures ∙ ap (λ names. names.first ∷ names.rest) c.in_ok-spelled.ensures)

pub returns : goal.returns
returns g c =
    let writer = g.N.Names.writer c.args.self.now.names.now in
    let locals = g.N.Names.locals c.args.self.now.names.now in
    let place = c.args.self.now.place in
    let kept = c.args.self.now.locals.now in
    let names = class_names writer locals c.args.class.now in
    on_ok_weaker c.note.result (λ noted. noted (call_reference writer locals (on_class c.args.class.now) c.args.method.now c.args.arity) refl
    (reads-there writer locals place kept c.requires c.instead_place-place.result c.instead_place-place.ensures.names c.instead_place-place.ensures.locals _
    (method_target c.args.method.now) _ _ _ (c.in_ok-reads.ensures names (c.as_slice.ensures.value ∙ c.in_ok-path.ensures
    ∙ ap (λ names. names.first ∷ names.rest) c.in_ok-spelled.ensures)) refl
    (ap (λ name. static_method_asked names name c.args.arity) (c.in_ok-name.ensures ∙ c.name_of.ensures)))) c.note.ensures
