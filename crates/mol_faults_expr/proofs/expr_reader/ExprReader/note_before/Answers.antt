use Rattle.std.proofs.Common.{[], ◌∷◌, ◌++◌, ap, ◌∙◌}
use Rattle.std.proofs.lemmas.Result.{on_ok_weaker}
use Rattle.mol_base.specs.declared.ident.Id.{Id}
use Rattle.mol_faults_expr.proofs.CutNames.{is-some}
use Rattle.mol_faults_expr.proofs.ReadHere.{reads-so}
use Rattle.mol_faults_expr.specs.Readings.{reads_as}
use Rattle.mol_resolve_rules.specs.Locals.{Locals}
use Rattle.mol_spell_rules.specs.Writers.{name_before_asked}
use Rattle.mol_faults_expr.proofs.expr_reader.ExprReader.note_before.Goals as goal

pub name_before_reads-reads-requires : goal.name_before_reads-reads-requires
name_before_reads-reads-requires g c =
    is-some _ c.args.name.now c.args.follow.now (c.as_slice.ensures.value ∙ c.in_ok-add_to.ensures
    ∙ ap (λ names. names ++ c.args.follow.now) (c.in_ok-add_name.ensures
    ∙ ap (λ names. names ++ c.args.name.now ∷ []) c.new-names.ensures.items))

pub returns : goal.returns
returns g c =
    let writer = g.N.Names.writer c.args.self.now.names.now in
    let locals = g.N.Names.locals c.args.self.now.names.now in
    let place = c.args.self.now.place in
    let kept = c.args.self.now.locals.now in
    let name = c.args.name.now in
    let follow = c.args.follow.now in
    on_ok_weaker c.note.result (λ noted reference target around asked. noted reference target
    (reads-so writer locals place kept c.requires _ reference.target _ locals (name_before_asked name follow) reference.asked
    (c.name_before_reads-reads.ensures locals name follow c.requires.at (c.as_slice.ensures.value ∙ c.in_ok-add_to.ensures
    ∙ ap (λ names. names ++ follow) (c.in_ok-add_name.ensures ∙ ap (λ names. names ++ name ∷ []) c.new-names.ensures.items)))
    target asked
    ∙ ap (λ (l : Locals Id). reads_as writer.reader l reference.target reference.asked) around)) c.note.ensures
