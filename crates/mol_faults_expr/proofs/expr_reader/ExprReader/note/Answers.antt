use Rattle.std.proofs.Common.{sym, ap, ◌∙◌}
use Rattle.std.proofs.lemmas.Result.{on_ok_weaker}
use Rattle.mol_faults_expr.proofs.NotedMore.{instead-so, named-so, note-reads}
use Rattle.mol_faults_expr.specs.Readings.{kept_reading}
use Rattle.mol_faults_expr.proofs.expr_reader.ExprReader.note.Goals as goal

pub returns-in-AsNamed : goal.returns-in-AsNamed
returns-in-AsNamed g c =
    let writer = g.N.Names.writer c.args.self.now.names.now in
    on_ok_weaker c.add_read.result (λ added reference target reads. added
    ∙ note-reads writer c.args.misreads.now reference (named-so _ _ (sym (ap kept_reading c.in-AsNamed.is) ∙ reads))) c.add_read.ensures

pub returns-in-Instead : goal.returns-in-Instead
returns-in-Instead g c =
    on_ok_weaker c.note_misread.result (λ noted reference target reads.
    let so = instead-so _ _ _ (sym (ap kept_reading c.in-Instead.is) ∙ reads) in noted reference target so.0 so.1) c.note_misread.ensures
