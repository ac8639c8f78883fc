use Rattle.std.proofs.Common.{sym, ap, ◌∙◌}
use Rattle.std.proofs.lemmas.Result.{on_ok_weaker}
use Rattle.mol_faults_expr.proofs.TypeNames.{named, names-Array, names-Boolean, names-Byte, names-Char, names-Int, names-Long, names-Short, names-Void, names-Written}
use Rattle.mol_faults_expr.specs.Noted.{noted_after}
use Rattle.mol_faults_expr.specs.References.{type_references}
use Rattle.mol_spell_rules.specs.references.References.{outside_target}
use Rattle.mol_spell_rules.specs.Writers.{type_asked, written_use}
use Rattle.mol_faults_expr.proofs.expr_reader.ExprReader.+note_type.Goals as goal
use Rattle.mol_values_types.specs.declared.itype.IType.TheVariants as types

pub returns-in-Boolean : goal.returns-in-Boolean
returns-in-Boolean g t c =
    let writer = g.N.Names.writer c.args.self.now.names.now in
    let locals = g.N.Names.locals c.args.self.now.names.now in
    let misreads = c.args.misreads.now in
    ap (noted_after writer misreads) (sym (ap (type_references writer locals c.args.place) c.in-Boolean.is
    ∙ names-Boolean writer locals c.args.place))

pub returns-in-Byte : goal.returns-in-Byte
returns-in-Byte g t c =
    let writer = g.N.Names.writer c.args.self.now.names.now in
    let locals = g.N.Names.locals c.args.self.now.names.now in
    let misreads = c.args.misreads.now in
    ap (noted_after writer misreads) (sym (ap (type_references writer locals c.args.place) c.in-Byte.is
    ∙ names-Byte writer locals c.args.place))

pub returns-in-Short : goal.returns-in-Short
returns-in-Short g t c =
    let writer = g.N.Names.writer c.args.self.now.names.now in
    let locals = g.N.Names.locals c.args.self.now.names.now in
    let misreads = c.args.misreads.now in
    ap (noted_after writer misreads) (sym (ap (type_references writer locals c.args.place) c.in-Short.is
    ∙ names-Short writer locals c.args.place))

pub returns-in-Char : goal.returns-in-Char
returns-in-Char g t c =
    let writer = g.N.Names.writer c.args.self.now.names.now in
    let locals = g.N.Names.locals c.args.self.now.names.now in
    let misreads = c.args.misreads.now in
    ap (noted_after writer misreads) (sym (ap (type_references writer locals c.args.place) c.in-Char.is
    ∙ names-Char writer locals c.args.place))

pub returns-in-Int : goal.returns-in-Int
returns-in-Int g t c =
    let writer = g.N.Names.writer c.args.self.now.names.now in
    let locals = g.N.Names.locals c.args.self.now.names.now in
    let misreads = c.args.misreads.now in
    ap (noted_after writer misreads) (sym (ap (type_references writer locals c.args.place) c.in-Int.is
    ∙ names-Int writer locals c.args.place))

pub returns-in-Long : goal.returns-in-Long
returns-in-Long g t c =
    let writer = g.N.Names.writer c.args.self.now.names.now in
    let locals = g.N.Names.locals c.args.self.now.names.now in
    let misreads = c.args.misreads.now in
    ap (noted_after writer misreads) (sym (ap (type_references writer locals c.args.place) c.in-Long.is
    ∙ names-Long writer locals c.args.place))

pub returns-in-Void : goal.returns-in-Void
returns-in-Void g t c =
    let writer = g.N.Names.writer c.args.self.now.names.now in
    let locals = g.N.Names.locals c.args.self.now.names.now in
    let misreads = c.args.misreads.now in
    ap (noted_after writer misreads) (sym (ap (type_references writer locals c.args.place) c.in-Void.is
    ∙ names-Void writer locals c.args.place))

pub returns-in-Class : goal.returns-in-Class
returns-in-Class g t c =
    let writer = g.N.Names.writer c.args.self.now.names.now in
    let locals = g.N.Names.locals c.args.self.now.names.now in
    let misreads = c.args.misreads.now in
    on_ok_weaker c.note_class.result (λ noted. noted
    ∙ ap (λ type. noted_after writer misreads (type_references writer locals c.args.place type)) (sym c.in-Class.is)) c.note_class.ensures

pub returns-in-Imported : goal.returns-in-Imported
returns-in-Imported g t c =
    let writer = g.N.Names.writer c.args.self.now.names.now in
    let locals = g.N.Names.locals c.args.self.now.names.now in
    let misreads = c.args.misreads.now in
    on_ok_weaker c.note_imported.result (λ noted. noted
    ∙ ap (λ type. noted_after writer misreads (type_references writer locals c.args.place type)) (ap
    (types.Imported c.in-Imported.full) (c.as_str.ensures ∙ c.get.ensures) ∙ sym c.in-Imported.is)) c.note_imported.ensures

pub returns-in-Written : goal.returns-in-Written
returns-in-Written g t c =
    let writer = g.N.Names.writer c.args.self.now.names.now in
    let locals = g.N.Names.locals c.args.self.now.names.now in
    let misreads = c.args.misreads.now in
    on_ok_weaker c.note_name.result (λ noted. noted
    (named writer locals c.args.place (outside_target c.in-Written.text) c.in-Written.text (written_use c.in-Written.text))
    (ap (λ text. outside_target text) c.as_str-text.ensures) (ap (λ text. type_asked text) (sym c.as_str-text.ensures))
    ∙ ap (noted_after writer misreads) (sym (ap (type_references writer locals c.args.place) c.in-Written.is
    ∙ names-Written writer locals c.args.place c.in-Written.text))) c.note_name.ensures

pub returns-in-Array : goal.returns-in-Array
returns-in-Array g t c =
    let writer = g.N.Names.writer c.args.self.now.names.now in
    let locals = g.N.Names.locals c.args.self.now.names.now in
    let misreads = c.args.misreads.now in
    on_ok_weaker c.note_type.result (λ noted. noted
    ∙ ap (noted_after writer misreads) (ap (type_references writer locals c.args.place) c.get-in-Array.ensures
    ∙ sym (ap (type_references writer locals c.args.place) c.in-Array.is
    ∙ names-Array writer locals c.args.place c.in-Array.item))) c.note_type.ensures
