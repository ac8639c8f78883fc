use Rattle.mol_spell_expr.proofs.WithLast.{as_found}
use Rattle.mol_spell_expr.specs.Parts.{over_operand}
use Rattle.mol_spell_expr.proofs.expr_writer.ExprWriter.over_operand.Goals as goal

pub returns-in-Dot : goal.returns-in-Dot
returns-in-Dot g c =
    let writer = g.N.Names.writer c.args.self.now.names.now in
    let locals = g.N.Names.locals c.args.self.now.names.now in
    as_found c.dot.result (λ kind. over_operand writer locals kind c.args.operand) _ _ c.in-Dot.is c.dot.ensures

pub returns-in-Prefix : goal.returns-in-Prefix
returns-in-Prefix g c =
    let writer = g.N.Names.writer c.args.self.now.names.now in
    let locals = g.N.Names.locals c.args.self.now.names.now in
    as_found c.prefixed.result (λ kind. over_operand writer locals kind c.args.operand) _ _ c.in-Prefix.is c.prefixed.ensures

pub returns-in-Postfix : goal.returns-in-Postfix
returns-in-Postfix g c =
    let writer = g.N.Names.writer c.args.self.now.names.now in
    let locals = g.N.Names.locals c.args.self.now.names.now in
    as_found c.postfixed.result (λ kind. over_operand writer locals kind c.args.operand) _ _ c.in-Postfix.is c.postfixed.ensures

pub returns-in-Cast : goal.returns-in-Cast
returns-in-Cast g c =
    let writer = g.N.Names.writer c.args.self.now.names.now in
    let locals = g.N.Names.locals c.args.self.now.names.now in
    as_found c.cast.result (λ kind. over_operand writer locals kind c.args.operand) _ _ c.in-Cast.is c.cast.ensures

pub returns-in-InstanceOf : goal.returns-in-InstanceOf
returns-in-InstanceOf g c =
    let writer = g.N.Names.writer c.args.self.now.names.now in
    let locals = g.N.Names.locals c.args.self.now.names.now in
    as_found c.instance_of.result (λ kind. over_operand writer locals kind c.args.operand) _ _ c.in-InstanceOf.is c.instance_of.ensures
