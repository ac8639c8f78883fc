-- What the type of a declaration uses, by what it is.
use Rattle.std.proofs.Common.{◌∙◌, sym, ap}
use Rattle.std.proofs.lemmas.Result.{on_ok_weaker}
use Rattle.mol_spell_uses.proofs.body_uses_lemmas.DeclaredTypes as types
use Rattle.mol_spell_uses.proofs.body_uses.types.+add_declared_type.Goals as goal
use Rattle.mol_spell_uses.specs.body_uses.PartUses.{declared_uses}
use Rattle.mol_spell_uses.proofs.uses_lemmas.Added.{adds, adds-none}

pub returns-in-Boolean : goal.returns-in-Boolean
returns-in-Boolean t c = λ writer locals. adds-none c.args.uses.now _ (types.uses-Boolean writer locals c.args.ty.now c.in-Boolean.is)

pub returns-in-Byte : goal.returns-in-Byte
returns-in-Byte t c = λ writer locals. adds-none c.args.uses.now _ (types.uses-Byte writer locals c.args.ty.now c.in-Byte.is)

pub returns-in-Short : goal.returns-in-Short
returns-in-Short t c = λ writer locals. adds-none c.args.uses.now _ (types.uses-Short writer locals c.args.ty.now c.in-Short.is)

pub returns-in-Char : goal.returns-in-Char
returns-in-Char t c = λ writer locals. adds-none c.args.uses.now _ (types.uses-Char writer locals c.args.ty.now c.in-Char.is)

pub returns-in-Int : goal.returns-in-Int
returns-in-Int t c = λ writer locals. adds-none c.args.uses.now _ (types.uses-Int writer locals c.args.ty.now c.in-Int.is)

pub returns-in-Long : goal.returns-in-Long
returns-in-Long t c = λ writer locals. adds-none c.args.uses.now _ (types.uses-Long writer locals c.args.ty.now c.in-Long.is)

pub returns-in-Void : goal.returns-in-Void
returns-in-Void t c = λ writer locals. adds-none c.args.uses.now _ (types.uses-Void writer locals c.args.ty.now c.in-Void.is)

pub returns-in-Class : goal.returns-in-Class
returns-in-Class t c =
    on_ok_weaker c.add_class.result (λ added writer locals.
    adds c.args.uses.now _ _ _ (types.uses-Class writer locals c.args.ty.now _ c.in-Class.is) added) c.add_class.ensures

pub returns-in-Imported : goal.returns-in-Imported
returns-in-Imported t c =
    on_ok_weaker c.add_import.result (λ added writer locals.
    adds c.args.uses.now _ _ _ (types.uses-Imported writer locals c.args.ty.now _ _ c.in-Imported.is) added) c.add_import.ensures

pub returns-in-Written : goal.returns-in-Written
returns-in-Written t c =
    on_ok_weaker c.add_written.result (λ added writer locals.
    adds c.args.uses.now _ _ _ (types.uses-Written writer locals c.args.ty.now _ c.in-Written.is) added) c.add_written.ensures

pub returns-in-Array : goal.returns-in-Array
returns-in-Array t c =
    on_ok_weaker c.add_declared_type.result (λ added writer locals.
    adds c.args.uses.now _ _ _
    (types.uses-Array writer locals c.args.ty.now _ c.in-Array.is ∙ ap (declared_uses writer locals) (sym c.get.ensures))
    (added writer locals)) c.add_declared_type.ensures
