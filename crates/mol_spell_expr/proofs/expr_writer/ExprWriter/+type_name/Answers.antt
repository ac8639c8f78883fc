use Rattle.std.proofs.Common.{◌∙◌, ap}
use Rattle.std.proofs.lemmas.Result.{IfOk-weaker}
use Rattle.jav_tree.specs.declared.types.TypeName.TheVariants as types
use Rattle.mol_spell_expr.proofs.ArrayTypes.{write-Array}
use Rattle.mol_spell_expr.proofs.expr_writer.ExprWriter.+type_name.Goals as goal
use Rattle.mol_spell_expr.specs.Importables.{hides_at}

pub returns-in_ok-item-in-Array : goal.returns-in_ok-item-in-Array
returns-in_ok-item-in-Array g t c =
    let writer = g.N.Names.writer c.args.self.now.names.now in
    let locals = g.N.Names.locals c.args.self.now.names.now in
    IfOk-weaker c.array_of.result _ _ (λ tree written.
    write-Array writer (hides_at writer locals c.args.place) locals c.args.ty.now tree _ _ c.in-Array.is c.get-in-Array.ensures
    (written ∙ ap (λ item. types.ArrayOf item) c.in_ok-item-in-Array.ensures)) c.array_of.ensures
