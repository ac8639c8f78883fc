use Rattle.std.proofs.Common.{◌+◌, ◌∙◌, List, length}
use Rattle.std.proofs.lemmas.Result.{IfOk-weaker}
use Rattle.jav_names.specs.StaticTypes.{of_type}
use Rattle.mol_resolve_expr.proofs.MadeOfParts.{array_sized}
use Rattle.mol_resolve_expr.proofs.Outcomes.{both_exchanged, made_read}
use Rattle.mol_resolve_expr.proofs.expr_reader.ExprReader.new_array.Goals as goal
use Rattle.mol_resolve_readings.specs.locals.Scoped.{locals_of}
use Rattle.mol_resolve_readings.specs.meant.Kept.{view_part}
use Rattle.mol_resolve_rules.specs.Outcomes.{both}
use Rattle.mol_resolve_rules.specs.ReadTrees.{arrays, meant, values_of}
use Rattle.mol_resolve_rules.specs.ReadTypes.{ReadType, read_type}
use Rattle.mol_values_types.specs.declared.iexpr.IExpr.{IExpr}
use Rattle.mol_values_types.specs.declared.iexpr.IExpr.TheVariants as exprs
use Prim.Native.Nat.{ℕ}

pub returns : goal.returns
returns g c =
    let reader = g.N.Names.reader c.args.self.now.names.now in
    let locals = locals_of c.args.self.now.locals.now in
    IfOk-weaker c.new_array.result _ _ (λ value is parts first read.
    made_read (λ (made : ReadType ℕ × List IExpr). meant reader (exprs.NewArray made.0.tree made.1 c.args.pairs)
    (of_type (arrays (length parts + c.args.pairs) made.0.type)))
    (both (read_type reader c.args.at c.args.ty.now) (values_of reader locals parts)) _ (view_part value) first _
    (both_exchanged (read_type reader c.args.at c.args.ty.now) (values_of reader locals parts) _ _ first _ _ read c.in_ok-item.ensures)
    (is ∙ array_sized reader locals parts c.args.pairs _ _ read.value_read)) c.new_array.ensures
