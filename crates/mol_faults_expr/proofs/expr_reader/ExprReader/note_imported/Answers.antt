use Rattle.std.proofs.Common.{sym, ap, ◌∙◌}
use Rattle.std.proofs.lemmas.Result.{on_ok_weaker}
use Rattle.jav_names.specs.TypeTexts.{imported_text}
use Rattle.mol_faults_expr.proofs.ReadHere.{text-is}
use Rattle.mol_faults_expr.proofs.TypeNames.{importable, names-Imported}
use Rattle.mol_faults_expr.specs.Noted.{noted_after}
use Rattle.mol_spell_rules.specs.references.References.{outside_target}
use Rattle.mol_spell_rules.specs.Writers.{outside_import, text_of, type_asked}
use Rattle.mol_faults_expr.proofs.expr_reader.ExprReader.note_imported.Goals as goal

pub returns : goal.returns
returns g c =
    let writer = g.N.Names.writer c.args.self.now.names.now in
    let locals = g.N.Names.locals c.args.self.now.names.now in
    let misreads = c.args.misreads.now in
    on_ok_weaker c.note_name.result (λ noted. noted
    (importable writer locals c.args.place (outside_target (imported_text c.args.full.now c.args.rest.now))
    (outside_import c.args.full.now) c.args.rest.now)
    (ap (λ text. outside_target text) (c.as_str-3.ensures ∙ c.in_ok-whole.ensures ∙ ap
    (λ full. imported_text full c.args.rest.now) c.as_str-2.ensures))
    (ap (λ text. type_asked text) (sym (c.as_str-4.ensures ∙ c.in_ok-text.ensures ∙ ap (λ text. imported_text text c.args.rest.now)
    (c.as_str.ensures ∙ text-is c.in_ok-spelled.spelled ∙ ap text_of c.in_ok-spelled.ensures))))
    ∙ ap (noted_after writer misreads) (sym (names-Imported writer locals c.args.place c.args.full.now c.args.rest.now)))
    c.note_name.ensures
