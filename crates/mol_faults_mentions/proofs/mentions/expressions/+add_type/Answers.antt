-- What a type mentions, by what it is.
use Rattle.std.proofs.Common.{◌∙◌, sym, ap}
use Rattle.std.proofs.lemmas.Result.{on_ok_weaker}
use Rattle.mol_base.proofs.Added.{adds, adds-none}
use Rattle.mol_faults_mentions.proofs.mentions_lemmas.Types as types
use Rattle.mol_faults_mentions.proofs.mentions.expressions.+add_type.Goals as goal
use Rattle.mol_table_rules.specs.Mentions.{type_mentions}

pub returns-in-Boolean : goal.returns-in-Boolean
returns-in-Boolean t c = adds-none c.args.mentions.now _ (types.mentions-Boolean c.args.ty.now c.in-Boolean.is)

pub returns-in-Byte : goal.returns-in-Byte
returns-in-Byte t c = adds-none c.args.mentions.now _ (types.mentions-Byte c.args.ty.now c.in-Byte.is)

pub returns-in-Short : goal.returns-in-Short
returns-in-Short t c = adds-none c.args.mentions.now _ (types.mentions-Short c.args.ty.now c.in-Short.is)

pub returns-in-Char : goal.returns-in-Char
returns-in-Char t c = adds-none c.args.mentions.now _ (types.mentions-Char c.args.ty.now c.in-Char.is)

pub returns-in-Int : goal.returns-in-Int
returns-in-Int t c = adds-none c.args.mentions.now _ (types.mentions-Int c.args.ty.now c.in-Int.is)

pub returns-in-Long : goal.returns-in-Long
returns-in-Long t c = adds-none c.args.mentions.now _ (types.mentions-Long c.args.ty.now c.in-Long.is)

pub returns-in-Void : goal.returns-in-Void
returns-in-Void t c = adds-none c.args.mentions.now _ (types.mentions-Void c.args.ty.now c.in-Void.is)

pub returns-in-Class : goal.returns-in-Class
returns-in-Class t c =
    on_ok_weaker c.add.result (adds c.args.mentions.now _ _ _ (types.mentions-Class c.args.ty.now _ c.in-Class.is)) c.add.ensures

pub returns-in-Imported : goal.returns-in-Imported
returns-in-Imported t c = adds-none c.args.mentions.now _ (types.mentions-Imported c.args.ty.now _ _ c.in-Imported.is)

pub returns-in-Written : goal.returns-in-Written
returns-in-Written t c = adds-none c.args.mentions.now _ (types.mentions-Written c.args.ty.now _ c.in-Written.is)

pub returns-in-Array : goal.returns-in-Array
returns-in-Array t c =
    on_ok_weaker c.add_type.result (adds c.args.mentions.now _ _ _
    (types.mentions-Array c.args.ty.now _ c.in-Array.is ∙ ap type_mentions (sym c.get.ensures))) c.add_type.ensures
