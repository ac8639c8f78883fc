use Rattle.std.proofs.Common.{◌∙◌, sym, ap}
use Rattle.mol_spell_expr.proofs.WithLast.{as_found}
use Rattle.mol_spell_expr.specs.Parts.{over_list}
use Rattle.mol_spell_expr.proofs.expr_writer.ExprWriter.over_list.Goals as goal

pub returns-in-Own : goal.returns-in-Own
returns-in-Own g c =
    let writer = g.N.Names.writer c.args.self.now.names.now in
    let locals = g.N.Names.locals c.args.self.now.names.now in
    as_found c.own_call.result (λ kind. over_list writer locals kind c.args.items) _ _ c.in-Own.is c.own_call.ensures

pub returns-in-Static : goal.returns-in-Static
returns-in-Static g c =
    let writer = g.N.Names.writer c.args.self.now.names.now in
    let locals = g.N.Names.locals c.args.self.now.names.now in
    as_found c.static_call.result (λ kind. over_list writer locals kind c.args.items) _ _ c.in-Static.is c.static_call.ensures

pub returns-in-Outside : goal.returns-in-Outside
returns-in-Outside g c =
    let writer = g.N.Names.writer c.args.self.now.names.now in
    let locals = g.N.Names.locals c.args.self.now.names.now in
    as_found c.call.result (λ kind. over_list writer locals kind c.args.items) _ _ c.in-Outside.is c.call.ensures

pub returns-in-Super : goal.returns-in-Super
returns-in-Super g c =
    let writer = g.N.Names.writer c.args.self.now.names.now in
    let locals = g.N.Names.locals c.args.self.now.names.now in
    as_found c.super_call.result (λ kind. over_list writer locals kind c.args.items) _ _ c.in-Super.is c.super_call.ensures

pub returns-in-New : goal.returns-in-New
returns-in-New g c =
    let writer = g.N.Names.writer c.args.self.now.names.now in
    let locals = g.N.Names.locals c.args.self.now.names.now in
    as_found c.creation.result (λ kind. over_list writer locals kind c.args.items) _ _ c.in-New.is c.creation.ensures

pub returns-in-NewOutside : goal.returns-in-NewOutside
returns-in-NewOutside g c =
    let writer = g.N.Names.writer c.args.self.now.names.now in
    let locals = g.N.Names.locals c.args.self.now.names.now in
    as_found c.creation_of.result (λ kind. over_list writer locals kind c.args.items) _ _ c.in-NewOutside.is c.creation_of.ensures

pub returns-in-NewArray : goal.returns-in-NewArray
returns-in-NewArray g c =
    let writer = g.N.Names.writer c.args.self.now.names.now in
    let locals = g.N.Names.locals c.args.self.now.names.now in
    as_found c.new_array.result (λ kind. over_list writer locals kind c.args.items) _ _ c.in-NewArray.is c.new_array.ensures

pub returns-in-ArrayLit : goal.returns-in-ArrayLit
returns-in-ArrayLit g c =
    let writer = g.N.Names.writer c.args.self.now.names.now in
    let locals = g.N.Names.locals c.args.self.now.names.now in
    as_found c.array_of.result (λ kind. over_list writer locals kind c.args.items) _ _ c.in-ArrayLit.is c.array_of.ensures

pub returns-in-Braces : goal.returns-in-Braces
returns-in-Braces g c =
    let writer = g.N.Names.writer c.args.self.now.names.now in
    let locals = g.N.Names.locals c.args.self.now.names.now in
    c.made.ensures ∙ sym (ap (λ kind. over_list writer locals kind c.args.items) c.in-Braces.is)
