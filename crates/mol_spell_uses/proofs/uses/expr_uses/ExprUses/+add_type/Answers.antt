-- What a type uses, by what it is.
use Rattle.std.proofs.Common.{◌∙◌, sym, ap}
use Rattle.std.proofs.lemmas.Result.{on_ok_weaker}
use Rattle.mol_spell_uses.proofs.uses_lemmas.Added.{adds, adds-none}
use Rattle.mol_spell_uses.proofs.uses_lemmas.TypesUsed as types
use Rattle.mol_spell_uses.proofs.uses.expr_uses.ExprUses.+add_type.Goals as goal
use Rattle.mol_spell_uses.specs.uses.Uses.{type_uses}

pub returns-in-Boolean : goal.returns-in-Boolean
returns-in-Boolean g t c =
    let writer = g.N.Names.writer c.args.self.now.names.now in
    let locals = g.N.Names.locals c.args.self.now.names.now in
    adds-none c.args.uses.now _ (types.uses-Boolean writer locals c.args.ty.now c.in-Boolean.is)

pub returns-in-Byte : goal.returns-in-Byte
returns-in-Byte g t c =
    let writer = g.N.Names.writer c.args.self.now.names.now in
    let locals = g.N.Names.locals c.args.self.now.names.now in
    adds-none c.args.uses.now _ (types.uses-Byte writer locals c.args.ty.now c.in-Byte.is)

pub returns-in-Short : goal.returns-in-Short
returns-in-Short g t c =
    let writer = g.N.Names.writer c.args.self.now.names.now in
    let locals = g.N.Names.locals c.args.self.now.names.now in
    adds-none c.args.uses.now _ (types.uses-Short writer locals c.args.ty.now c.in-Short.is)

pub returns-in-Char : goal.returns-in-Char
returns-in-Char g t c =
    let writer = g.N.Names.writer c.args.self.now.names.now in
    let locals = g.N.Names.locals c.args.self.now.names.now in
    adds-none c.args.uses.now _ (types.uses-Char writer locals c.args.ty.now c.in-Char.is)

pub returns-in-Int : goal.returns-in-Int
returns-in-Int g t c =
    let writer = g.N.Names.writer c.args.self.now.names.now in
    let locals = g.N.Names.locals c.args.self.now.names.now in
    adds-none c.args.uses.now _ (types.uses-Int writer locals c.args.ty.now c.in-Int.is)

pub returns-in-Long : goal.returns-in-Long
returns-in-Long g t c =
    let writer = g.N.Names.writer c.args.self.now.names.now in
    let locals = g.N.Names.locals c.args.self.now.names.now in
    adds-none c.args.uses.now _ (types.uses-Long writer locals c.args.ty.now c.in-Long.is)

pub returns-in-Void : goal.returns-in-Void
returns-in-Void g t c =
    let writer = g.N.Names.writer c.args.self.now.names.now in
    let locals = g.N.Names.locals c.args.self.now.names.now in
    adds-none c.args.uses.now _ (types.uses-Void writer locals c.args.ty.now c.in-Void.is)

pub returns-in-Class : goal.returns-in-Class
returns-in-Class g t c =
    let writer = g.N.Names.writer c.args.self.now.names.now in
    let locals = g.N.Names.locals c.args.self.now.names.now in
    on_ok_weaker c.add_class.result (adds c.args.uses.now _ _ _ (types.uses-Class writer locals c.args.ty.now _ c.in-Class.is))
    c.add_class.ensures

pub returns-in-Imported : goal.returns-in-Imported
returns-in-Imported g t c =
    let writer = g.N.Names.writer c.args.self.now.names.now in
    let locals = g.N.Names.locals c.args.self.now.names.now in
    on_ok_weaker c.add_import.result (adds c.args.uses.now _ _ _ (types.uses-Imported writer locals c.args.ty.now _ _ c.in-Imported.is))
    c.add_import.ensures

pub returns-in-Written : goal.returns-in-Written
returns-in-Written g t c =
    let writer = g.N.Names.writer c.args.self.now.names.now in
    let locals = g.N.Names.locals c.args.self.now.names.now in
    on_ok_weaker c.add_written.result (adds c.args.uses.now _ _ _ (types.uses-Written writer locals c.args.ty.now _ c.in-Written.is)) c.add_written.ensures

pub returns-in-Array : goal.returns-in-Array
returns-in-Array g t c =
    let writer = g.N.Names.writer c.args.self.now.names.now in
    let locals = g.N.Names.locals c.args.self.now.names.now in
    on_ok_weaker c.add_type.result (adds c.args.uses.now _ _ _ (types.uses-Array writer locals c.args.ty.now _ c.in-Array.is
    ∙ ap (type_uses writer locals) (sym c.get.ensures))) c.add_type.ensures
