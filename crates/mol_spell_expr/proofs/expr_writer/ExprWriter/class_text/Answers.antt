use Rattle.std.proofs.Common.{◌∙◌, sym}
use Rattle.std.proofs.lemmas.Result.{IfOk-weaker}
use Rattle.mol_spell_expr.proofs.SpelledNames.{text-fully}
use Rattle.mol_spell_expr.specs.Importables.{hides_at, importable_of}
use Rattle.mol_spell_expr.proofs.expr_writer.ExprWriter.class_text.Goals as goal

pub returns-else-is_spelled_simply : goal.returns-else-is_spelled_simply
returns-else-is_spelled_simply g c =
    let writer = g.N.Names.writer c.args.self.now.names.now in
    let locals = g.N.Names.locals c.args.self.now.names.now in
    IfOk-weaker c.full_name.result _ _ (λ text written. written
    ∙ sym (text-fully writer (hides_at writer locals c.args.place) (importable_of c.args.what)
    (sym c.is_spelled_simply.ensures ∙ c.if-is_spelled_simply.false))) c.full_name.ensures
