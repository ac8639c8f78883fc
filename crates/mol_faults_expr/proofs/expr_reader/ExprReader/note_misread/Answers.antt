use Rattle.std.proofs.Common.{sym, ap, ◌∙◌}
use Rattle.std.proofs.lemmas.Result.{on_ok_weaker}
use Rattle.mol_faults_expr.proofs.NotedMore.{note-gone, note-misread}
use Rattle.mol_faults_expr.specs.Readings.{program_target}
use Rattle.mol_spell_rules.specs.FaultList.{fault_target}
use Rattle.mol_spell_rules.specs.NameFaults.{is_gone}
use Rattle.mol_faults_expr.proofs.expr_reader.ExprReader.note_misread.Goals as goal

pub returns-then-is_gone : goal.returns-then-is_gone
returns-then-is_gone g c =
    let writer = g.N.Names.writer c.args.self.now.names.now in
    on_ok_weaker c.add_read.result (λ added reference target differs is_instead. added
    ∙ note-gone writer c.args.misreads.now reference (ap (is_gone writer.program) (sym target) ∙ sym c.is_gone.ensures
    ∙ c.if-is_gone.true)) c.add_read.ensures

pub returns : goal.returns
returns g c =
    let writer = g.N.Names.writer c.args.self.now.names.now in
    on_ok_weaker c.add_misread.result (λ added reference target differs is_instead. added
    ∙ note-misread writer c.args.misreads.now reference _ _ _
    (ap (is_gone writer.program) (sym target) ∙ sym c.is_gone.ensures ∙ c.if-is_gone.false) differs
    (c.in_ok-kept.ensures ∙ ap fault_target target) (c.met_in.ensures ∙ ap program_target target) is_instead) c.add_misread.ensures
