use Rattle.std.proofs.Common.{◌∙◌, ap}
use Rattle.std.proofs.lemmas.Result.{IfOk-weaker}
use Rattle.std.specs.Option.{option_map_or}
use Rattle.mol_spell_rules.specs.SpelledExpressions.{class_text, no_name}
use Rattle.mol_spell_expr.proofs.expr_writer.ExprWriter.constructor_text.Goals as goal

pub returns-in-Some : goal.returns-in-Some
returns-in-Some g c =
    let writer = g.N.Names.writer c.args.self.now.names.now in
    let locals = g.N.Names.locals c.args.self.now.names.now in
    IfOk-weaker c.class_text.result _ _ (λ text written. written
    ∙ ap (λ class. option_map_or (class_text writer locals) class no_name) c.in-Some.ensures) c.class_text.ensures

pub returns-in-None : goal.returns-in-None
returns-in-None g c =
    let writer = g.N.Names.writer c.args.self.now.names.now in
    let locals = g.N.Names.locals c.args.self.now.names.now in
    IfOk-weaker c.from_str.result _ _ (λ text written. written
    ∙ ap (λ class. option_map_or (class_text writer locals) class no_name) c.in-None.ensures) c.from_str.ensures
