use Rattle.std.proofs.Common.{sym}
use Rattle.std.proofs.lemmas.Result.{on_ok_weaker}
use Rattle.mol_faults_expr.proofs.ReadHere.{reads-so}
use Rattle.mol_faults_expr.proofs.expr_reader.ExprReader.note_name.Goals as goal

pub returns : goal.returns
returns g c =
    let writer = g.N.Names.writer c.args.self.now.names.now in
    let locals = g.N.Names.locals c.args.self.now.names.now in
    let place = c.args.self.now.place in
    let kept = c.args.self.now.locals.now in
    on_ok_weaker c.note.result (λ noted reference target asked. noted reference target
    (reads-so writer locals place kept c.requires _ reference.target _ reference.locals _ _
    (c.type_reads-reads.ensures reference.locals) target (sym asked))) c.note.ensures
