use Rattle.std.proofs.Common.{[], refl, sym, ap, ◌∙◌}
use Rattle.std.proofs.lemmas.Result.{on_ok_weaker}
use Rattle.mol_faults_expr.proofs.ReadHere.{text-is}
use Rattle.mol_faults_expr.proofs.TypeNames.{importable, names-Class}
use Rattle.mol_faults_expr.specs.Noted.{noted_after}
use Rattle.mol_spell_rules.specs.references.References.{class_target}
use Rattle.mol_spell_rules.specs.Writers.{program_class, text_of, type_asked}
use Rattle.mol_faults_expr.proofs.expr_reader.ExprReader.note_class.Goals as goal

pub returns : goal.returns
returns g c =
    let writer = g.N.Names.writer c.args.self.now.names.now in
    let locals = g.N.Names.locals c.args.self.now.names.now in
    let misreads = c.args.misreads.now in
    on_ok_weaker c.note_name.result (λ noted. noted
    (importable writer locals c.args.place (class_target c.args.class.now) (program_class c.args.class.now) []) refl
    (ap (λ text. type_asked text) (sym (c.as_str.ensures ∙ text-is c.in_ok-spelled.spelled ∙ ap text_of c.in_ok-spelled.ensures)))
    ∙ ap (noted_after writer misreads) (sym (names-Class writer locals c.args.place c.args.class.now))) c.note_name.ensures
